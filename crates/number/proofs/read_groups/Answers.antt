-- `number::read_groups`: what is left to read, from here, comes to what the whole comes to.
use Prim.Native.Nat.{ℕ, suc, ◌+◌, ◌-◌, ◌*◌, ◌^◌, ◌<◌, ◌≤◌}
use native.Mathlib.Nat.{mul-le-mul, mul-le-mul_left, one-le-pow, pos_of_ne-zero, pow-suc}
use native.Mathlib.Numerals.{add-one}
use mathlib.Core.List.{List, ◌∷◌}
use mathlib.Core.Logic.{◌⊎◌, inl, inr}
use mathlib.Core.Path.{◌≡◌, refl, sym, ap, ◌∙◌}
use lib.Dec.{lit<}
use lib.ListN.{length, get_or, drop, drop_of_length-le}
use lib.Seq.{drop-cons}
use Rattle.number.specs.Number.{groups, last_group, read_number, ReadAt}
use Rattle.std.specs.Prelude.{Some}
use Rattle.number.proofs.GroupLaws.{groups_none, groups_end, groups_last, groups_more, last_ok, last_big, last_zero}
use native.Mathlib.Omega.{arith}
use Rattle.number.proofs.read_groups.Invariants.{Reading}
use Rattle.number.proofs.read_groups.Goals.{After-shared_slice_known-1, else-empty-via-then-empty+else-weight-ne1, else-empty-via-else-empty}
use Rattle.number.proofs.read_groups.Goals as goal

-- a turn of the loop in which there is a byte to read
record Turn (s : List ℕ) (at i weight sum left : ℕ) : Type 0 where
  reading : Reading s at i weight sum left
  more_left : 0 < left
  inside : i < length s
  byte : get_or s i 0 < 256

module _ {s : List ℕ} {at i weight sum left : ℕ} (t : Turn s at i weight sum left) where
  count : left ≡ suc (left - 1)
  count = omega (arith, t.more_left)

  lighter : weight * 128 * 128 ^ (left - 1) ≤ 128 ^ 5
  lighter = omega (arith, rw (ap (λ (k : ℕ). 128 ^ k) count ∙ pow-suc 128 (left - 1)) at t.reading.light)

  weight_below : weight ≤ 268435456
  weight_below = omega (arith, lighter, mul-le-mul_left weight (one-le-pow (left - 1) 128 (lit< tt)))

  sum_below : (b : ℕ) → b < 256 → sum + weight * b < 68719476736
  sum_below b h =
      let l : b ≤ 255 = omega arith in
      omega (arith, t.reading.below, weight_below, mul-le-mul weight_below l)

  group : get_or s i 0 - 128 < 256
  group = omega (arith, t.byte)

  front : groups (suc (left - 1)) weight sum (get_or s i 0 ∷ drop (i + 1) s) ≡ read_number (drop at s)
  front = rw (add-one i, ← (drop-cons s i 0 t.inside), ← count) t.reading.same

  again : 128 ≤ get_or s i 0 → Reading s at (i + 1) (weight * 128) (sum + weight * (get_or s i 0 - 128)) (left - 1)
  again h = record {
    light = lighter;
    below = let b : get_or s i 0 - 128 ≤ 127 = omega (arith, t.byte) in omega (arith, t.reading.below, mul-le-mul_left weight b);
    same = sym (groups_more (left - 1) weight sum (get_or s i 0) (drop (i + 1) s) h) ∙ front;
  }

  last : get_or s i 0 < 128 → last_group weight sum (get_or s i 0) (drop (i + 1) s) ≡ read_number (drop at s)
  last h = sym (groups_last (left - 1) weight sum (get_or s i 0) (drop (i + 1) s) h) ∙ front

  number : get_or s i 0 < 128 → sum + weight * get_or s i 0 < 2 ^ 32 → (0 < get_or s i 0) ⊎ (weight ≡ 1) → ReadAt s at (Some (record { value = sum + weight * get_or s i 0; next = i + 1 }))
  number h l p = record { is = sym (last_ok weight sum (get_or s i 0) (drop (i + 1) s) p l) ∙ last h; within = omega (arith, t.inside) }

turn : (c : After-shared_slice_known-1) → Turn c.args.s.now c.args.at (c.args.at + c.loop-k.k) c.loop-k.weight c.loop-k.sum (5 - c.loop-k.k)
turn c = record {
  reading = c.loop-k.invariant.1;
  more_left = omega arith;
  inside = c.if-s-i.false;
  byte = omega (arith, c.shared_slice_known-1.given (c.args.at + c.loop-k.k));
}

pub loop-k-init : goal.loop-k-init
loop-k-init c = (λ h. absurd (omega arith), record { light = omega arith; below = omega arith; same = let e : c.args.at + 0 ≡ c.args.at = omega arith in rw e (unfold read_number in refl) })

pub returns-then-s-i : goal.returns-then-s-i
returns-then-s-i c = record { is = sym (groups_end _ _ _) ∙ rw (drop_of_length-le c.args.s.now c.if-s-i.true) at c.loop-k.invariant.1.same; within = tt }

pub overflow_mul-value : goal.overflow_mul-value
overflow_mul-value c = omega (arith, sum_below (turn (goal.at.overflow_mul-value c).After-shared_slice_known-1) _ (turn (goal.at.overflow_mul-value c).After-shared_slice_known-1).byte)

pub overflow_add-value : goal.overflow_add-value
overflow_add-value c = omega (arith, sum_below (turn (goal.at.overflow_add-value c).After-shared_slice_known-1) _ (turn (goal.at.overflow_add-value c).After-shared_slice_known-1).byte)

pub returns-then-value-ge4294967296 : goal.returns-then-value-ge4294967296
returns-then-value-ge4294967296 c = record { is = sym (last_big _ _ _ _ (omega (arith, c.if-value-ge4294967296.true))) ∙ last (turn (goal.at.returns-then-value-ge4294967296 c).After-shared_slice_known-1) c.if-b-lt128.true; within = tt }

pub returns-then-weight-ne1 : goal.returns-then-weight-ne1
returns-then-weight-ne1 c = record { is = sym (last_zero _ _ _ _ c.if-weight-ne1.true (omega (arith, c.if-b-lt128.true, c.if-empty.true))) ∙ last (turn (goal.at.returns-then-weight-ne1 c).After-shared_slice_known-1) c.if-b-lt128.true; within = tt }

pub returns-then-b-lt128 : goal.returns-then-b-lt128
returns-then-b-lt128 c =
    number (turn (goal.at.returns-then-b-lt128 c).After-shared_slice_known-1) c.if-b-lt128.true c.if-value-ge4294967296.false (
    elim c.else-empty.branch [
      | else-empty-via-then-empty+else-weight-ne1 w ↦ inr w.if-weight-ne1.false
      | else-empty-via-else-empty w ↦ inl (pos_of_ne-zero w.if-empty.false)
    ])

pub overflow_mul-sum : goal.overflow_mul-sum
overflow_mul-sum c = omega (arith, sum_below (turn (goal.at.overflow_mul-sum c).After-shared_slice_known-1) _ (group (turn (goal.at.overflow_mul-sum c).After-shared_slice_known-1)))

pub overflow_add-sum : goal.overflow_add-sum
overflow_add-sum c = omega (arith, sum_below (turn (goal.at.overflow_add-sum c).After-shared_slice_known-1) _ (group (turn (goal.at.overflow_add-sum c).After-shared_slice_known-1)))

pub overflow_mul-weight : goal.overflow_mul-weight
overflow_mul-weight c = omega (arith, weight_below (turn (goal.at.overflow_mul-weight c).After-shared_slice_known-1))

pub loop-k-preserved : goal.loop-k-preserved
loop-k-preserved c =
    let next : c.args.at + (c.loop-k.k + 1) ≡ c.args.at + c.loop-k.k + 1 = omega arith in
    let left : 5 - (c.loop-k.k + 1) ≡ 5 - c.loop-k.k - 1 = omega arith in
    (λ h. omega arith, rw (next, left) (again (turn (goal.at.loop-k-preserved c).After-shared_slice_known-1) c.if-b-lt128.false))

pub returns : goal.returns
returns c = let none_left : 5 - c.loop-k.k ≡ 0 = omega arith in record { is = sym (groups_none _ _ _) ∙ rw none_left at c.loop-k.invariant.1.same; within = tt }
