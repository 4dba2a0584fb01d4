-- Laws of a row: it lies within its buffer, and nothing overflows on the way to its place.
use Prim.Native.Nat.{ℕ, suc, ◌+◌, ◌-◌, ◌*◌, ◌<◌, ◌≤◌}
use native.Mathlib.Nat.{add-sub_cancel_left, suc-mul, mul_assoc, mul-le-mul_right}
use native.Mathlib.Omega.{arith}
use mathlib.Core.Bool.{true, false}
use mathlib.Core.List.{List}
use mathlib.Core.Path.{◌≡◌}
use lib.Dec.{ltb}
use lib.ListN.{length, take, drop}
use borrow.Author.Tests.{ltb-true}
use Rattle.laws.specs.Result.{Res.ok}
use Rattle.laws.proofs.ResultLaws.{Each, Each.each, each_bind, each_need, each_is}
use Rattle.state.specs.declared.State.{State}
use Rattle.state.specs.State.{row_bytes, frame_bytes}
use Rattle.state.proofs.StateLaws.{SoundState, lent_sound, row_inside}
use Rattle.state.specs.World.{is_odd}
use Rattle.shown.specs.Row.{row_place, row_of}

-- the bytes of a row lie within either buffer
pub record Lies (s : State) (a b at : ℕ) : Type 0 where
  pub in_a : at + row_bytes s.sizes.width ≤ a
  pub in_b : at + row_bytes s.sizes.width ≤ b

rows_within : (p h P m B : ℕ) → p < P → m ≤ suc p * h → m * B ≤ P * (h * B)
rows_within p h P m B i j =
    let k : suc p * h ≤ P * h = mul-le-mul_right h i in
    let l : m * B ≤ P * h * B = mul-le-mul_right B (omega (arith, j, k)) in
    omega (arith, l, mul_assoc P h B)

pub row_lies : (s : State) (a b plane row : ℕ) → Each (Lies s a b) (row_place s a b plane row)
unfolding row_place
row_lies s a b plane row =
    each_bind (lent_sound s a b) λ n k.
    each_need (ltb plane s.sizes.planes) 14 _ λ p. each_need (ltb row s.sizes.height) 14 _ λ r.
    let w = row_inside s.sizes n row plane k.state.sizes (ltb-true row s.sizes.height r) (ltb-true plane s.sizes.planes p) in
    each (record { in_a = omega (arith, w, k.left); in_b = omega (arith, w, k.right) })

-- nothing overflows on the way to a row's place
pub record Small (s : State) (plane row : ℕ) : Type 0 where
  pub lines : plane * s.sizes.height + row ≤ 9216
  pub bytes : {B : ℕ} → B ≡ row_bytes s.sizes.width → (plane * s.sizes.height + row) * B ≤ 1_048_576

pub row_small : (s : State) {n : ℕ} → SoundState s n → (plane row : ℕ) → plane < s.sizes.planes → row ≤ s.sizes.height → Small s plane row
unfolding frame_bytes
row_small s k plane row i j =
    let m : plane * s.sizes.height ≤ 8 * s.sizes.height = mul-le-mul_right s.sizes.height (omega (arith, k.sizes.planes_most)) in
    let w = rows_within plane s.sizes.height s.sizes.planes (plane * s.sizes.height + row) (row_bytes s.sizes.width) i (omega (arith, j, suc-mul plane s.sizes.height)) in
    record { lines = omega (arith, m, k.sizes.height_most); bytes = λ q. rw q (omega (arith, w, k.sizes.length, k.sizes.length_most)) }

-- the part
module _ (s : State) (a b : List ℕ) (plane row : ℕ) where
  module _ {at B : ℕ} (e : row_place s (length a) (length b) plane row ≡ ok at) (q : B ≡ row_bytes s.sizes.width) where
    pub row_odd : is_odd s.frame ≡ true → take (at + B - at) (drop at a) ≡ row_of s a b plane row
    unfolding row_of
    row_odd h = rw (e, h, add-sub_cancel_left at B, q)

    pub row_even : is_odd s.frame ≡ false → take (at + B - at) (drop at b) ≡ row_of s a b plane row
    unfolding row_of
    row_even h = rw (e, h, add-sub_cancel_left at B, q)

    pub lies_a : at + B ≤ length a
    lies_a = rw q (each_is e (row_lies s (length a) (length b) plane row)).in_a

    pub lies_b : at + B ≤ length b
    lies_b = rw q (each_is e (row_lies s (length a) (length b) plane row)).in_b
