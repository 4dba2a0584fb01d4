-- What demand 1 is proved from: a call that isn't taken leaves everything as it came.
use Prim.Native.Nat.{ℕ}
use mathlib.Core.List.{List, []}
use mathlib.Core.Option.{none, some}
use mathlib.Core.Path.{◌≡◌, refl}
use Rattle.laws.specs.Result.{Res, Res.ok, Res.fault, answer}
use Rattle.laws.proofs.ResultLaws.{none_some, never}
use Rattle.state.specs.Film.{Film}
use Rattle.writer.specs.Write.{buffer_after}
use Rattle.opening.specs.Open.{world_opened}
use Rattle.record.specs.Record.{Past}
use Rattle.state.specs.declared.Report.{Report}
use Rattle.state.specs.State.{zeros}
use Rattle.state.specs.World.{World}
use Rattle.state.specs.After.{Answer.refused, Answer.ended, Answer.took_on, Answer.took_back, After}
use Rattle.step_on.specs.Step.{report_of, step_on}
use Rattle.step_on.proofs.CaseLaws.{on_case}
use Rattle.step_back.specs.Back.{retreat, settle_back, step_back}
use Rattle.model.specs.Demands.{refusal_in}

-- what a call left as it came: what it hands on, the record buffer, into which nothing was written, and the work buffer unless it is 51
pub record Untouched (w : World) (o : After) : Type 0 where
  pub world : o.world ≡ w
  pub bytes : o.bytes ≡ []
  pub work : (o.answer ≡ refused 51 → ⊥) → o.work ≡ none

-- a step that isn't taken
pub not_taken_on : (file : List ℕ) (w : World) (work room : ℕ) → ((r : Report) → (step_on file w work room).answer ≡ took_on r → ⊥) → Untouched w (step_on file w work room)
not_taken_on file w work room =
    on_case (λ (o : After). ((r : Report) → o.answer ≡ took_on r → ⊥) → Untouched w o) w room file work
    (λ n e h. record { world = refl; bytes = refl; work = λ _. refl })
    (λ e h. record { world = refl; bytes = refl; work = λ _. refl })
    (λ x e h. absurd (h (report_of w x) refl))
    (λ x e q h. record { world = refl; bytes = refl; work = λ k. absurd (k refl) })

pub not_taken_back : (w : World) (bytes : List ℕ) → ((step_back w bytes).answer ≡ took_back → ⊥) → Untouched w (step_back w bytes)
unfolding step_back settle_back
not_taken_back w bytes h = go (retreat w bytes) h
  where
    go : (r : Res Past) → ((settle_back w r).answer ≡ took_back → ⊥) → Untouched w (settle_back w r)
    go (fault k) q = record { world = refl; bytes = refl; work = λ _. refl }
    go (ok p) q = absurd (q refl)

-- a refused opening leaves both buffers and the map, and answers six zeros for the state
pub refused_open : (n : ℕ) (a b map : List ℕ) (q : Res Film) → refusal_in (answer q) ≡ some n → world_opened a b map q ≡ record { a = a; b = b; map = map; state = zeros }
refused_open n a b map (fault k) e = refl
refused_open n a b map (ok F) e = none_some e

-- a refused delta leaves the output buffer
pub refused_write : (n : ℕ) (bytes out : List ℕ) (q : Res ℕ) → refusal_in q ≡ some n → buffer_after bytes out q ≡ out
refused_write n bytes out (fault k) e = refl
refused_write n bytes out (ok k) e = none_some e

-- End
pub end_not_taken : {p : Report} → ended ≡ took_on p → ⊥
end_not_taken e = never (cc)
