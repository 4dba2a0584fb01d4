-- Laws of columns in frames: where their rows stand, that they are copied, and that a column of a frame is never refused.
use Prim.Native.Nat.{ℕ, zero, suc, ◌+◌, ◌*◌, ◌≤◌, ◌<◌}
use native.Mathlib.Nat.{mul-le-mul_right}
use native.Mathlib.Omega.{arith}
use mathlib.Core.List.{List}
use mathlib.Core.Path.{◌≡◌, refl, sym, ap, ◌∙◌}
use lib.ListN.{length, get_or, set, take}
use lib.Seq.{take_all, ext_get_or}
use Rattle.laws.specs.Result.{Res.ok}
use Rattle.laws.proofs.ResultLaws.{ok_same, ok_fault}
use Rattle.laws.specs.Put.{Put}
use Rattle.laws.specs.Store.{Copied}
use Rattle.laws.proofs.StoreLaws.{copied_front, copied_more}
use Rattle.std.specs.Prelude.{Result, Ok, Err, IsOk}
use Rattle.laws.proofs.PutLaws.{put_is}
use Rattle.refusal.specs.declared.Refusal.{Refusal}
use Rattle.refusal.specs.Number.{result_of}
use Rattle.column_writer.specs.Place.{column_length, Places}
use Rattle.column_writer.proofs.LengthLaws.{column_short}
use Rattle.column_writer.proofs.PlaceLaws.{measured, fits}
use Rattle.writer.specs.Write.{column_at, column_in}
use Rattle.writer.specs.Planes.{InFrame, Plane}

-- a column in a frame
pub length_column : (f : List ℕ) (row at n : ℕ) → length (column_at f row at n) ≡ n
unfolding column_at
length_column f row at zero = refl
length_column f row at (suc n) = ap suc (length_column f row (at + row) n)

pub get_d_column : (f : List ℕ) (row at n i : ℕ) → i < n → get_or (column_at f row at n) i 0 ≡ get_or f (at + i * row) 0
unfolding column_at
get_d_column f row at zero i h = absurd (omega arith)
get_d_column f row at (suc n) zero h = let e : at + 0 * row ≡ at = omega arith in rw e
get_d_column f row at (suc n) (suc i) h = let e : at + suc i * row ≡ at + row + i * row = omega arith in rw e (get_d_column f row (at + row) n i (omega arith))

-- two frames that agree in its rows have the same column
pub column_ext : (f g : List ℕ) (row at n : ℕ) → ((i : ℕ) → i < n → get_or f (at + i * row) 0 ≡ get_or g (at + i * row) 0) → column_at f row at n ≡ column_at g row at n
column_ext f g row at n h =
    let l = length_column f row at n in
    ext_get_or 0 (column_at f row at n) (column_at g row at n) (l ∙ sym (length_column g row at n))
    (λ i k. let b : i < n = omega arith in get_d_column f row at n i b ∙ h i b ∙ sym (get_d_column g row at n i b))

-- a column that was copied to the front of an array
pub copied_column : (f : List ℕ) (row at : ℕ) {d x : List ℕ} {n i : ℕ} → Copied d (column_at f row at n) i x → n ≤ i → i ≤ n → take n x ≡ column_at f row at n
copied_column f row at {d} {x} {n} {i} w h k =
    let l = length_column f row at n in
    copied_front w (omega (arith, l)) n h ∙ take_all n (column_at f row at n) (omega (arith, l))

pub column_more : (f : List ℕ) (row at : ℕ) {d x : List ℕ} {n i : ℕ} → Copied d (column_at f row at n) i x → i < n → i < length d → Copied d (column_at f row at n) (i + 1) (set x i (get_or f (at + i * row) 0))
column_more f row at {d} {x} {n} {i} w h k =
    rw (← (get_d_column f row at n i h)) (copied_more w (rw (length_column f row at n) h) k)

-- an answer that is a value
pub is_value : {n : ℕ} (r : Result ℕ Refusal) → result_of r ≡ ok n → IsOk r
is_value (Ok k) e = refl
is_value (Err why) e = ok_fault e

pub the_value : {n k : ℕ} {r : Result ℕ Refusal} → result_of r ≡ ok n → r ≡ Ok k → k ≡ n
the_value e f = ok_same (sym (ap result_of f) ∙ e)

-- a column of two frames, copied to the front of two arrays, is never refused
module _ (a b old new : List ℕ) (row at n : ℕ) (p : take n a ≡ column_at old row at n) (q : take n b ≡ column_at new row at n) (t : n ≤ 1024) where
  pub whole : column_length (take n a) (take n b) ≡ ok (length (column_in old new row n at))
  unfolding column_in
  whole =
      let l = length_column new row at n in
      rw (p, q) (measured (column_at old row at n) (column_at new row at n) (length_column old row at n ∙ sym l) (omega (arith, l)))

  pub short : length (column_in old new row n at) ≤ 3073
  unfolding column_in
  short = omega (arith, t, length_column new row at n, column_short (column_at old row at n) (column_at new row at n))

  module _ {out out' : List ℕ} {place : ℕ} (r : Result ℕ Refusal) (w : Places out place (take n a) (take n b) (result_of r) out') (h : place + length (column_in old new row n at) ≤ length out) where
    pub is_placed : result_of r ≡ ok (place + length (column_in old new row n at))
    is_placed = w.answer ∙ fits (take n a) (take n b) out place whole h

    pub is_put : {next : ℕ} → r ≡ Ok next → Put out place (column_in old new row n at) out' next
    unfolding column_in
    is_put e = put_is (the_value is_placed e) (w.buffer ∙ rw (e, p, q))

-- a column of a plane lies in the frames
column_inside : (row height at k n i : ℕ) → at + height * row ≤ n → k < row → i < height → at + k + i * row < n
column_inside row height at k n i h p q = omega (arith, mul-le-mul_right row (le_suc q))
  where
    le_suc : i < height → suc i ≤ height
    le_suc h = omega arith

pub plane_column : {old new : List ℕ} {row height at : ℕ} → Plane old new row height at → (k : ℕ) → k < row → InFrame old new row height (at + k)
plane_column {old} {new} {row} {height} {at} p k h = record {
  tall = p.tall;
  in_old = λ i q. column_inside row height at k (length old) i p.in_old h q;
  in_new = λ i q. column_inside row height at k (length new) i p.in_new h q;
}
