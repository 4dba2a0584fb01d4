-- What the tests of a step on give to the functions behind them.
use Prim.Native.Nat.{ℕ, ◌<◌, ◌≤◌}
use native.Mathlib.Omega.{arith}
use mathlib.Core.Bool.{Bool, true, false}
use mathlib.Core.Path.{◌≡◌, refl, sym, ◌∙◌}
use lib.Dec.{leb, ltb, eqb}
use borrow.Author.Tests.{leb-true, ltb-true, eqb-true}
use Rattle.laws.specs.Result.{need}
use Rattle.laws.proofs.ResultLaws.{Each, Each.each, each_bind, each_need}
use Rattle.state.specs.declared.State.{State}
use Rattle.state.proofs.StateLaws.{sound_length, step_sound}
use Rattle.colours.specs.Colours.{MAP}
use Rattle.step_on.specs.Step.{ready}
use Rattle.step_on.specs.Parts.{Fits}

-- what passed the tests
pub record Passed (file : ℕ) (s : State) (a b map work : ℕ) : Type 0 where
  pub in_file : s.end ≤ file
  pub on_a : Fits s a work
  pub on_b : Fits s b work
  pub map_long : map ≡ MAP

pub ready_passed : (file : ℕ) (s : State) (a b map work : ℕ) → Each (λ _. Passed file s a b map work) (ready file s a b map work)
unfolding ready
ready_passed file s a b map work =
    each_need (leb s.end file) 11 _ λ e.
    each_bind (step_sound s a b map) λ n t. each_need (eqb work n) 12 _ λ z.
    let k = t.lent in
    let p : s.next ≤ 2_147_483_647 = omega (arith, k.state.next_most, k.state.end_most) in
    let f : (m : ℕ) → m ≡ n → s.frame < 1_000_000 → Fits s m work =
    λ m q l. record { sizes = rw q (sound_length k.state.sizes); same = eqb-true work n z ∙ sym q; short = rw q k.state.sizes.length_most; few = l; place = p } in
    each_last (ltb s.frame 1_000_000) 53 λ u. let l = ltb-true s.frame 1_000_000 u in record { in_file = leb-true s.end file e; on_a = f a k.left l; on_b = f b k.right l; map_long = t.map_long }
  where
    each_last : {P : Unit {0} → Type 0} (t : Bool) (n : ℕ) → (t ≡ true → P tt) → Each P (need t n)
    each_last true n h = each (h refl)
    each_last false n h = Each.no_value
