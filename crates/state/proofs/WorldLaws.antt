-- What a step on and a step back hand on: which picture is shown and which is hidden then, and that a step on and the step back over it leave
-- all as it was.
use Prim.Native.Nat.{ℕ, zero, suc, ◌-◌, ◌%◌, ◌≤◌}
use native.Mathlib.Omega.{arith}
use mathlib.Core.Bool.{Bool, true, false, not}
use mathlib.Core.List.{List}
use mathlib.Core.Path.{◌≡◌, refl, sym, ap, ◌∙◌}
use lib.Dec.{eqb}
use borrow.Author.Tests.{eq-eqb, ne_eqb}
use Rattle.laws.specs.Result.{pick}
use Rattle.state.specs.State.{moved}
use Rattle.state.specs.World.{World, is_odd, shown_in, hidden_in, with_shown, with_hidden}

-- parity alternates
pub odd_suc : (n : ℕ) → is_odd (suc n) ≡ not (is_odd n)
unfolding is_odd
odd_suc n = go (n % 2) refl
  where
    go : (r : ℕ) → n % 2 ≡ r → eqb (suc n % 2) 1 ≡ not (eqb (n % 2) 1)
    go zero e = rw (e, eq-eqb (suc n % 2) 1 (omega arith))
    go (suc zero) e = rw (e, ne_eqb (suc n % 2) 1 (λ h. omega arith))
    go (suc (suc r)) e = absurd (omega arith)

-- which buffer is which, there and back
module _ {A : Type 0} where
  pick_new : (t : Bool) (a b f : A) → pick (not t) (pick t a f) (pick t f b) ≡ f
  pick_new true a b f = refl
  pick_new false a b f = refl

  pick_kept : (t : Bool) (a b f : A) → pick (not t) (pick t f b) (pick t a f) ≡ pick t a b
  pick_kept true a b f = refl
  pick_kept false a b f = refl

  pick_left : (t : Bool) (a b f : A) → pick (not t) (pick t b a) (pick t a f) ≡ a
  pick_left true a b f = refl
  pick_left false a b f = refl

  pick_right : (t : Bool) (a b f : A) → pick (not t) (pick t f b) (pick t b a) ≡ b
  pick_right true a b f = refl
  pick_right false a b f = refl

-- after a step on the new picture is shown, and the one that was shown is hidden
module _ (w : World) (f map : List ℕ) (place : ℕ) where
  abbrev pub stepped : World
  stepped = with_hidden w f map (moved w.state (suc w.state.frame) place)

  pub shown_stepped : shown_in stepped ≡ f
  unfolding shown_in with_hidden
  shown_stepped = rw (odd_suc w.state.frame) (pick_new (is_odd w.state.frame) w.a w.b f)

  pub hidden_stepped : hidden_in stepped ≡ shown_in w
  unfolding shown_in hidden_in with_hidden
  hidden_stepped = rw (odd_suc w.state.frame) (pick_kept (is_odd w.state.frame) w.a w.b f)

  -- with the earlier picture, map, frame number and place all is as it was
  pub stepped_back : with_shown stepped (hidden_in w) w.map (moved stepped.state (stepped.state.frame - 1) w.state.next) ≡ w
  unfolding hidden_in with_shown with_hidden
  stepped_back =
      let e : suc w.state.frame - 1 ≡ w.state.frame = omega arith in
      rw (e, odd_suc w.state.frame, pick_left (is_odd w.state.frame) w.a w.b f, pick_right (is_odd w.state.frame) w.a w.b f)

-- after a step back the picture that was put back is hidden
pub hidden_restored : (w : World) (p map : List ℕ) (place : ℕ) → 1 ≤ w.state.frame → hidden_in (with_shown w p map (moved w.state (w.state.frame - 1) place)) ≡ p
unfolding hidden_in with_shown
hidden_restored w p map place h =
    let e : suc (w.state.frame - 1) ≡ w.state.frame = omega arith in
    let o : is_odd w.state.frame ≡ not (is_odd (w.state.frame - 1)) = ap is_odd (sym e) ∙ odd_suc (w.state.frame - 1) in
    rw o (go (is_odd (w.state.frame - 1)))
  where
    go : (t : Bool) → pick t (pick (not t) w.b p) (pick (not t) p w.a) ≡ p
    go true = refl
    go false = refl
