-- What each call of the C interface answers is 0, 1 or a number of the table.
use Prim.Native.Nat.{ℕ}
use mathlib.Core.Bool.{Bool, true, ◌&&◌}
use mathlib.Core.List.{List}
use mathlib.Core.Path.{◌≡◌, refl}
use lib.Dec.{eqb}
use lib.ListN.{length}
use Rattle.laws.specs.Result.{Res}
use Rattle.laws.proofs.ResultLaws.{pick_both}
use Rattle.refusal.specs.Number.{is_number}
use Rattle.record.specs.Record.{Past}
use Rattle.state.specs.World.{World}
use Rattle.state.specs.After.{Answer, Answer.refused, After}
use Rattle.step_on.specs.Step.{step_on}
use Rattle.step_on.proofs.CaseLaws.{on_case}
use Rattle.step_back.specs.Back.{settle_back, step_back}
use Rattle.anim.specs.Export.{WorldC, LentC, world_in, number_or, answer_number, sized, on_c, back_c}
use Rattle.answers.specs.Answers.{is_answer}
use Rattle.answers.proofs.InTable.{Numbered, Numbered.table_value, Numbered.table_refusal, listed, table_number}
use Rattle.answers.proofs.Table.{on_table, back_table}

-- a step's answer is one of these
abbrev pub Answered : Answer → Type 0
Answered x = is_answer (answer_number x) ≡ true

pub sized_answered : {A : Type 0} (t : Bool) {q : Res A} → Numbered is_number q → is_answer (number_or (sized t q)) ≡ true
sized_answered {A} t {q} h = pick_both (λ (x : Res A). is_answer (number_or x) ≡ true) t (go h) refl
  where
    go : {q : Res A} → Numbered is_number q → is_answer (number_or q) ≡ true
    go table_value = refl
    go (table_refusal e) = rw e

-- what holds of 11 and of a step on's answer holds of its answer in C
pub on_sized : (P : Answer → Type 0) (file : List ℕ) (l : LentC) → P (refused 11) → P (step_on file (world_in l.world) (length l.work) (length l.rec)).answer → P (on_c file l).answer
on_sized P file l p q = pick_both (λ (o : After). P o.answer) (eqb (length l.world.state) 48 && eqb (length l.report) 40) q p

pub on_answered : (file : List ℕ) (l : LentC) → Answered (on_c file l).answer
on_answered file l =
    let w : World = world_in l.world in
    on_sized Answered file l refl
    (on_case (λ (o : After). Answered o.answer) w (length l.rec) file (length l.work) (λ n e. rw (table_number (listed (on_table file w (length l.work))) e)) (λ e. refl) (λ x e. refl) (λ x e q. refl))

settle_back_answered : (w : World) {q : Res Past} → Numbered is_number q → Answered (settle_back w q).answer
unfolding settle_back
settle_back_answered w (table_refusal e) = rw e
settle_back_answered w table_value = refl

pub back_answered : (w : WorldC) (rec : List ℕ) → Answered (back_c w rec).answer
unfolding step_back
back_answered w rec = pick_both (λ (o : After). Answered o.answer) (eqb (length w.state) 48) (settle_back_answered (world_in w) (listed (back_table (world_in w) rec))) refl
