-- What holds of sizes and states that are within the limits.
use Prim.Native.Nat.{ℕ, suc, ◌+◌, ◌*◌, ◌<◌, ◌≤◌}
use native.Mathlib.Nat.{mul-le-mul_left, mul-le-mul_right}
use native.Mathlib.Omega.{arith}
use mathlib.Core.Path.{◌≡◌, refl, sym, ◌∙◌}
use mathlib.Core.Bool.{Bool, true, false}
use lib.Dec.{leb, eqb}
use borrow.Author.Tests.{leb-true, le-leb, eq-eqb, eqb-true}
use Rattle.laws.specs.Result.{Res.ok, Res.fault}
use Rattle.laws.proofs.ResultLaws.{Each, Each.each, false_true, each_bind, each_need, each_map, two_true}
use Rattle.colours.specs.Colours.{MAP}
use Rattle.state.specs.declared.Sizes.{Sizes}
use Rattle.state.specs.declared.State.{State}
use Rattle.state.specs.State.{within, row_bytes, frame_bytes, frame_length, state_length, lent_length, step_length, Sound}

-- what proofs use of a state within the limits
pub record SoundState (s : State) (n : ℕ) : Type 0 where
  pub frame_least : 1 ≤ s.frame
  pub next_most : s.next ≤ s.end
  pub end_most : s.end ≤ 2147483647
  pub sizes : Sound s.sizes n

-- a number within two bounds
pub record Between (least most x : ℕ) : Type 0 where
  pub low : least ≤ x
  pub high : x ≤ most

pub between : {least most x : ℕ} → within least most x ≡ true → Between least most x
between {least} {most} {x} e = let t = two_true (leb least x) (leb x most) e in record { low = leb-true least x t.0; high = leb-true x most t.1 }

pub outside : {least most x : ℕ} → within least most x ≡ false → least ≤ x → x ≤ most → ⊥
outside {least} {most} {x} e l m = false_true (sym e ∙ rw (le-leb least x l, le-leb x most m) refl)

row_bounds : (w : ℕ) → Between 1 1024 w → Between 2 128 (row_bytes w)
unfolding row_bytes
row_bounds w b = record { low = omega arith; high = omega arith }

pub sound : (z : Sizes) → Between 1 1024 z.width → Between 1 1024 z.height → Between 1 8 z.planes → Sound z (frame_bytes z)
unfolding frame_bytes
sound z w h p =
    let r : Between 2 128 (row_bytes z.width) = row_bounds z.width w in
    let q : z.height * row_bytes z.width ≤ 131072 = omega (arith, mul-le-mul_left z.height r.high) in
    record {
      width_least = w.low;
      width_most = w.high;
      height_least = h.low;
      height_most = h.high;
      planes_least = p.low;
      planes_most = p.high;
      row_least = r.low;
      row_most = r.high;
      plane_most = q;
      length = refl;
      length_most = omega (arith, mul-le-mul_left z.planes q);
    }

pub sizes_sound : (z : Sizes) → Each (Sound z) (frame_length z)
unfolding frame_length
sizes_sound z =
    each_need (within 1 1024 z.width) 11 _ λ w. each_need (within 1 1024 z.height) 11 _ λ h. each_need (within 1 8 z.planes) 11 _ λ p.
    each (sound z (between w) (between h) (between p))

-- a row lies within the frame
pub row_inside : (z : Sizes) (n line plane : ℕ) → Sound z n → line < z.height → plane < z.planes → (plane * z.height + line) * row_bytes z.width + row_bytes z.width ≤ n
unfolding frame_bytes
row_inside z n line plane b h k =
    let a : suc (plane * z.height + line) ≤ z.planes * z.height = omega (arith, mul-le-mul_right z.height k) in
    omega (arith, mul-le-mul_right (row_bytes z.width) a, b.length)

-- next and end place that aren't within theirs
places_refused : (s : State) (p q : Bool) → within 1 1_000_000 s.frame ≡ true → within 12 s.end s.next ≡ p → leb s.end 2_147_483_647 ≡ q
    → (12 ≤ s.next → s.next ≤ s.end → s.end ≤ 2_147_483_647 → ⊥) → fault 11 ≡ state_length s
unfolding state_length
places_refused s false q f e k h = simp (f, e)
places_refused s true false f e k h = simp (f, e, k)
places_refused s true true f e k h = absurd (h (between e).low (between e).high (leb-true s.end 2_147_483_647 k))

pub no_places : (s : State) → within 1 1_000_000 s.frame ≡ true → (12 ≤ s.next → s.next ≤ s.end → s.end ≤ 2_147_483_647 → ⊥) → fault 11 ≡ state_length s
no_places s f h = places_refused s (within 12 s.end s.next) (leb s.end 2_147_483_647) f refl refl h

pub state_sound : (s : State) → Each (SoundState s) (state_length s)
unfolding state_length
state_sound s =
    each_need (within 1 1_000_000 s.frame) 11 _ λ f. each_need (within 12 s.end s.next) 11 _ λ p. each_need (leb s.end 2_147_483_647) 11 _ λ e.
    each_map (λ n z. record {
      frame_least = (between f).low;
      next_most = (between p).high;
      end_most = leb-true s.end 2147483647 e;
      sizes = z;
    }) (sizes_sound s.sizes)

-- a state within the limits with A and B of a frame's length
pub record SoundLent (s : State) (a b n : ℕ) : Type 0 where
  pub state : SoundState s n
  pub left : a ≡ n
  pub right : b ≡ n

pub lent_sound : (s : State) (a b : ℕ) → Each (SoundLent s a b) (lent_length s a b)
unfolding lent_length
lent_sound s a b =
    each_bind (state_sound s) λ n k.
    each_need (eqb a n) 12 _ λ l. each_need (eqb b n) 12 _ λ r.
    each (record { state = k; left = eqb-true a n l; right = eqb-true b n r })

-- the same with a map of its length
pub record SoundStep (s : State) (a b map n : ℕ) : Type 0 where
  pub lent : SoundLent s a b n
  pub map_long : map ≡ MAP

pub step_sound : (s : State) (a b map : ℕ) → Each (SoundStep s a b map) (step_length s a b map)
unfolding step_length
step_sound s a b map =
    each_bind (lent_sound s a b) λ n k. each_need (eqb map MAP) 12 _ λ e.
    each (record { lent = k; map_long = eqb-true map MAP e })

-- and back: what is within the limits has its length
pub sound_length : {z : Sizes} {n : ℕ} → Sound z n → frame_length z ≡ ok n
unfolding frame_length
sound_length {z} {n} k =
    simp (le-leb 1 z.width k.width_least, le-leb z.width 1024 k.width_most, le-leb 1 z.height k.height_least, le-leb z.height 1024 k.height_most, le-leb 1 z.planes k.planes_least, le-leb z.planes 8 k.planes_most, k.length)

pub state_within : (s : State) {n : ℕ} → 1 ≤ s.frame → s.frame ≤ 1_000_000 → 12 ≤ s.next → s.next ≤ s.end → s.end ≤ 2_147_483_647 → frame_length s.sizes ≡ ok n → state_length s ≡ ok n
unfolding state_length
state_within s f g p q e z =
    simp (le-leb 1 s.frame f, le-leb s.frame 1_000_000 g, le-leb 12 s.next p, le-leb s.next s.end q, le-leb s.end 2_147_483_647 e) z

pub step_within : (s : State) {a b map n : ℕ} → state_length s ≡ ok n → a ≡ n → b ≡ n → map ≡ MAP → step_length s a b map ≡ ok n
unfolding step_length lent_length
step_within s {a} {b} {map} {n} e l r m = rw e (simp (eq-eqb a n l, eq-eqb b n r, eq-eqb map MAP m))
