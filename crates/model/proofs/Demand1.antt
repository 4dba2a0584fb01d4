-- Demand 1: a refused call changes neither picture, nor the map, nor the state, nor the record buffer, nor the work buffer unless it is
-- refused with 51. End changes nothing.
use Prim.Native.Nat.{ℕ}
use mathlib.Core.List.{List}
use mathlib.Core.Option.{Option, some}
use mathlib.Core.Path.{◌≡◌, refl, sym, ap, ◌∙◌}
use lib.ListN.{length}
use Rattle.laws.proofs.ResultLaws.{none_some, some_same}
use Rattle.writer.specs.Write.{delta_bytes, written}
use Rattle.opening.specs.Open.{opening}
use Rattle.step_on.specs.declared.SteppedOn.{SteppedOn}
use Rattle.state.specs.After.{Answer.ended, Lent, lent, work_after}
use Rattle.step_on.specs.Step.{on_of, MeetsOn}
use Rattle.model.specs.Demands.{refusal_of, refusal_in, Met, Met.opens, Met.steps_on, Met.steps_back, Met.writes, Unchanged}
use Rattle.model.proofs.Laws.{on_world, on_work, on_rec}
use Rattle.model.proofs.Demand1Laws.{not_taken_on, not_taken_back, refused_open, refused_write, end_not_taken}

pub demand_1 : {l l' : Lent} {o : Option ℕ} → Met l o l' → (n : ℕ) → o ≡ some n → Unchanged n l l'
demand_1 (opens file a b map r a' b' map' m) n e =
    record { world = m.left ∙ refused_open n a b map (opening file (length a) (length b) (length map)) (ap refusal_in (sym m.answer) ∙ e); written = refl; drawn = λ h. refl }
demand_1 (steps_on file l r a b map work rec m) n e =
    let u = not_taken_on file l.world (length l.work) (length l.rec) λ p q. none_some (sym (ap refusal_of (m.answer ∙ q)) ∙ e) in
    record {
      world = on_world m ∙ u.world;
      written = on_rec m ∙ rw u.bytes;
      drawn = λ h. on_work m ∙ ap (work_after l.work) (u.work λ q. h (some_same (sym e ∙ ap refusal_of (m.answer ∙ q))));
    }
demand_1 (steps_back w bytes r a b map m) n e =
    let u = not_taken_back w bytes λ q. none_some (sym (ap refusal_of (m.answer ∙ q)) ∙ e) in
    record { world = m.left ∙ u.world; written = refl; drawn = λ h. refl }
demand_1 (writes w z old new out d out' m) n e =
    record { world = refl; written = m.leaves ∙ refused_write n (delta_bytes old new z) out (written (length out) old new z) (ap refusal_in (sym m.answers) ∙ e); drawn = λ h. refl }

pub end_keeps : (file : List ℕ) (l : Lent) (r : SteppedOn) (a b map work rec : List ℕ) → MeetsOn file l r (lent a b map r.state work rec) → on_of r.answer ≡ ended → lent a b map r.state work rec ≡ l
end_keeps file l r a b map work rec m e =
    let u = not_taken_on file l.world (length l.work) (length l.rec) λ p q. end_not_taken (sym e ∙ m.answer ∙ q) in
    let x = on_world m ∙ u.world in
    let y = on_work m ∙ ap (work_after l.work) (u.work λ q. none_some (sym (ap refusal_of e) ∙ ap refusal_of (m.answer ∙ q))) in
    let z : rec ≡ l.rec = on_rec m ∙ rw u.bytes in
    λ i. record { world = x i; work = y i; rec = z i }
