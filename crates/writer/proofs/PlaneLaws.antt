-- Laws of planes and of the lists that follow one another.
use Prim.Native.Nat.{ℕ, ◌+◌, ◌*◌, ◌≤◌, zero, suc, ◌-◌, ◌<◌}
use native.Mathlib.Omega.{arith}
use mathlib.Core.Path.{◌≡◌, refl, sym, ◌∙◌}
use mathlib.Core.Bool.{Bool, true, false, ◌&&◌}
use Rattle.std.specs.Cmp.Lexicographic.{pointwise}
use mathlib.Core.List.{List, [], ◌∷◌}
use lib.Dec.{eqb}
use lib.ListN.{length, take, drop, length-append}
use borrow.Author.Tests.{eq-eqb, ne_eqb}
use Rattle.laws.proofs.BytesLaws.{length_be32}
use Rattle.laws.specs.Bytes.{be32_bytes}
use Rattle.laws.specs.Result.{pick}
use Rattle.laws.proofs.PutLaws.{Parts}
use Rattle.writer.specs.Write.{column_in, columns_bytes, planes_equal, plane_bytes, plane_pointer, pointers_bytes, lists_bytes}
use Rattle.writer.specs.Planes.{Plane, Frames}

-- so many planes are left, from a place on
pub record Walking (row height planes at left : ℕ) : Type 0 where
  pub few : left ≤ planes
  pub place : at + left * (height * row) ≡ planes * (height * row)

-- the columns of a plane, the next one first
pub columns_parts : (old new : List ℕ) (row height at column : ℕ) → column < row
    → Parts (columns_bytes old new row height (row - column) (at + column)) (column_in old new row height (at + column)) (columns_bytes old new row height (row - (column + 1)) (at + (column + 1)))
unfolding columns_bytes
columns_parts old new row height at column h =
    let e : row - column ≡ suc (row - (column + 1)) = omega arith in
    let f : at + (column + 1) ≡ at + column + 1 = omega arith in
    record { is = rw (e, f) }

pub columns_none : (old new : List ℕ) (row height at column : ℕ) → row ≤ column → columns_bytes old new row height (row - column) (at + column) ≡ []
unfolding columns_bytes
columns_none old new row height at column h = let e : row - column ≡ 0 = omega arith in rw e

-- what `==` says of two planes
pub equal_is : (xs ys : List ℕ) → pointwise eqb xs ys ≡ planes_equal xs ys
unfolding planes_equal
equal_is [] [] = refl
equal_is [] (y ∷ ys) = refl
equal_is (x ∷ xs) [] = refl
equal_is (x ∷ xs) (y ∷ ys) = go (eqb x y) refl (equal_is xs ys)
  where
    go : (r : Bool) → eqb x y ≡ r → pointwise eqb xs ys ≡ planes_equal xs ys → (eqb x y && pointwise eqb xs ys) ≡ planes_equal (x ∷ xs) (y ∷ ys)
    go true e f = rw (e, planes_equal) f
    go false e f = rw (e, planes_equal)

-- a plane that is unchanged, and one that isn't, from what a comparison told
module _ (old new : List ℕ) (row height at : ℕ) {r : Bool} (e : r ≡ planes_equal (take (height * row) (drop at old)) (take (height * row) (drop at new))) where
  pub plane_unchanged : r ≡ true → plane_bytes old new row height at ≡ []
  unfolding plane_bytes
  plane_unchanged f = rw (sym e ∙ f, plane_bytes)

  pub plane_changed : r ≡ false → plane_bytes old new row height at ≡ columns_bytes old new row height row at
  unfolding plane_bytes
  plane_changed f = rw (sym e ∙ f, plane_bytes)

-- the walk over the planes
pub walking : (row height planes : ℕ) → Walking row height planes 0 planes
walking row height planes = record { few = omega arith; place = omega arith }

module _ {row height planes at left : ℕ} (w : Walking row height planes at left) (h : 0 < left) where
  next_place : at + height * row + (left - 1) * (height * row) ≡ planes * (height * row)
  next_place = go left h w.place
    where
      go : (n : ℕ) → 0 < n → at + n * (height * row) ≡ planes * (height * row) → at + height * row + (n - 1) * (height * row) ≡ planes * (height * row)
      go zero k e = absurd (omega arith)
      go (suc n) k e = let m : suc n - 1 ≡ n = omega arith in rw m (omega arith)

  pub walking_more : Walking row height planes (at + height * row) (left - 1)
  walking_more = record { few = omega (arith, w.few); place = next_place }

  pub walking_plane : {old new : List ℕ} → Frames old new row height planes → at + height * row ≤ length new
  walking_plane f = omega (arith, next_place, f.new_size)

-- a plane that ends in the frames
pub plane_in : {old new : List ℕ} {row height planes : ℕ} (at : ℕ) → Frames old new row height planes → at + height * row ≤ length new → Plane old new row height at
plane_in at f h = record { tall = f.tall; wide = f.wide; in_old = omega (arith, h, f.old_size, f.new_size); in_new = h; most = f.most }

-- the lists of the planes that are left, the next one first
pub lists_parts : (old new : List ℕ) (row height left at : ℕ) → 0 < left
    → Parts (lists_bytes old new row height left at) (plane_bytes old new row height at) (lists_bytes old new row height (left - 1) (at + height * row))
unfolding lists_bytes
lists_parts old new row height zero at h = absurd (omega arith)
lists_parts old new row height (suc k) at h = let e : suc k - 1 ≡ k = omega arith in record { is = rw e }

pub lists_none : (old new : List ℕ) (row height left at : ℕ) → left ≤ 0 → lists_bytes old new row height left at ≡ []
unfolding lists_bytes
lists_none old new row height zero at h = refl
lists_none old new row height (suc k) at h = absurd (omega arith)

-- the pointers of so many planes
pub pointers_length : (old new : List ℕ) (row height k at place : ℕ) → length (pointers_bytes old new row height k at place) ≡ 4 * k
unfolding pointers_bytes
pointers_length old new row height zero at place = refl
pointers_length old new row height (suc k) at place =
    let L : List ℕ = plane_bytes old new row height at in
    let P : List ℕ = pointers_bytes old new row height k (at + height * row) (place + length L) in
    omega (arith, length-append (be32_bytes (plane_pointer place L)) P, length_be32 (plane_pointer place L), pointers_length old new row height k (at + height * row) (place + length L))

-- a plane's pointer is 0 exactly where its list is empty
pub pointer_is : (place next : ℕ) (bytes : List ℕ) → next ≡ place + length bytes → pick (eqb next place) 0 place ≡ plane_pointer place bytes
unfolding plane_pointer
pointer_is place next [] e = rw (eq-eqb next place (omega arith))
pointer_is place next (b ∷ s) e = rw (ne_eqb next place (λ f. absurd (omega arith)))
