-- Laws of the exported functions: each answers and leaves what the function that it calls does.
use Prim.Native.Nat.{ℕ}
use mathlib.Core.Bool.{Bool, true, ◌&&◌}
use mathlib.Core.List.{List}
use mathlib.Core.Path.{◌≡◌, sym, ap, ◌∙◌}
use lib.Dec.{eqb}
use lib.ListN.{length}
use borrow.Author.Tests.{ne_eqb}
use Rattle.step_on.specs.declared.SteppedOn.{SteppedOn}
use Rattle.state.specs.State.{zeros}
use Rattle.state.specs.After.{Answer, Lent, lent, lent_after}
use Rattle.step_on.specs.Step.{step_on, MeetsOn}
use Rattle.words.specs.Words.{state_words, lay}
use Rattle.words.proofs.WordLaws.{not_laid}
use Rattle.anim.specs.Export.{WorldC, world_in, OpensC, state_left, report_left, HandsOn, LentC, StepsOnC}

-- opening
module _ (file : List ℕ) (w : WorldC) where
  pub open_unsized : {r : ℕ} → r ≡ 11 → (length w.state ≡ 48 → ⊥) → OpensC file w r w
  open_unsized e h =
      let k : w.state ≡ lay w.state (state_words zeros) = unfold state_words in not_laid _ h in
      rw (ne_eqb (length w.state) 48 h) (record { answer = e; left = λ i. record { state = k i; a = w.a; b = w.b; map = w.map } })

-- stepping on
module _ (file : List ℕ) (l : LentC) where
  module _ {t : Bool} (e : t ≡ (eqb (length l.world.state) 48 && eqb (length l.report) 40)) where
    module _ {o : SteppedOn} {a b map work rec : List ℕ} (m : MeetsOn file (record { world = world_in l.world; work = l.work; rec = l.rec }) o (lent a b map o.state work rec)) where
      pub on_sized : {r : ℕ} {state report : List ℕ} → t ≡ true → HandsOn o l.world.state l.report r state report
          → StepsOnC file l r (record { world = record { state = state; a = a; b = b; map = map }; work = work; rec = rec; report = report })
      unfolding lent_after
      on_sized f q =
          let k = m.left in
          let n = m.answer in
          let s = q.state_out ∙ ap (λ (y : Answer). state_left y o.state l.world.state) n ∙ ap (λ (v : Lent). state_left (step_on file (world_in l.world) (length l.work) (length l.rec)).answer v.world.state l.world.state) k in
          let t = q.report_out ∙ ap (λ (y : Answer). report_left y l.report) n in
          rw (sym e ∙ f)
          (record { answer = q.answer ∙ rw n; left = λ i. record { world = record { state = s i; a = (k i).world.a; b = (k i).world.b; map = (k i).world.map }; work = (k i).work; rec = (k i).rec; report = t i } })
