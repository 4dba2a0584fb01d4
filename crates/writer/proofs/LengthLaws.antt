-- How long a delta's planes can be, from how long a column can be.
use Prim.Native.Nat.{ℕ, zero, suc, ◌+◌, ◌*◌, ◌≤◌}
use native.Mathlib.Nat.{mul-le-mul}
use native.Mathlib.Omega.{arith}
use mathlib.Core.Bool.{Bool, true, false}
use mathlib.Core.List.{List}
use mathlib.Core.Path.{◌≡◌, refl}
use lib.ListN.{length, take, drop, length-append}
use Rattle.column_writer.proofs.LengthLaws.{column_short}
use Rattle.writer.specs.Write.{column_at, column_in, columns_bytes, planes_equal, plane_bytes, lists_bytes, longest}
use Rattle.writer.proofs.ColumnLaws.{length_column}

-- it and the longest delta are small numbers
pub plane_small : {row height : ℕ} → row ≤ 128 → height ≤ 1024 → row * longest height ≤ 196864
plane_small {row} {height} w t = let h : longest height ≤ 1538 = omega arith in mul-le-mul w h

pub lists_small : {row height planes : ℕ} → row ≤ 128 → height ≤ 1024 → planes ≤ 8 → planes * (row * longest height) ≤ 1574912
lists_small w t d = mul-le-mul d (plane_small w t)

column_in_short : (old new : List ℕ) (row height at : ℕ) → length (column_in old new row height at) ≤ longest height
unfolding column_in
column_in_short old new row height at = rw (length_column new row at height) at (column_short (column_at old row at height) (column_at new row at height))

module _ (old new : List ℕ) (row height : ℕ) where
  columns_short : (b k at : ℕ) → ((i : ℕ) → length (column_in old new row height i) ≤ b) → length (columns_bytes old new row height k at) ≤ k * b
  unfolding columns_bytes
  columns_short b zero at h = omega arith
  columns_short b (suc k) at h = omega (arith, length-append (column_in old new row height at) (columns_bytes old new row height k (at + 1)), h at, columns_short b k (at + 1) h)

  pub plane_short : (at : ℕ) → length (plane_bytes old new row height at) ≤ row * longest height
  unfolding plane_bytes
  plane_short at = go (planes_equal (take (height * row) (drop at old)) (take (height * row) (drop at new))) refl
    where
      go : (t : Bool) → planes_equal (take (height * row) (drop at old)) (take (height * row) (drop at new)) ≡ t → length (plane_bytes old new row height at) ≤ row * longest height
      go true e = rw (e, plane_bytes) (omega arith)
      go false e = rw (e, plane_bytes) (columns_short (longest height) row at (column_in_short old new row height))

  pub planes_short : (b k at : ℕ) → ((i : ℕ) → length (plane_bytes old new row height i) ≤ b) → length (lists_bytes old new row height k at) ≤ k * b
  unfolding lists_bytes
  planes_short b zero at h = omega arith
  planes_short b (suc k) at h = omega (arith, length-append (plane_bytes old new row height at) (lists_bytes old new row height k (at + height * row)), h at, planes_short b k (at + height * row) h)
