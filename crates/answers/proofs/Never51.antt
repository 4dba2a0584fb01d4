-- A step on that is lent a record buffer with room for every record never answers 51 (document 02, E8 and E6).
use Prim.Native.Nat.{ℕ, suc, ◌≤◌}
use native.Mathlib.Omega.{arith}
use mathlib.Core.Bool.{true}
use mathlib.Core.List.{List}
use mathlib.Core.Option.{some}
use mathlib.Core.Path.{◌≡◌, sym, ap, ◌∙◌}
use lib.ListN.{length}
use borrow.Author.Tests.{le-leb}
use Rattle.laws.specs.Result.{Res.ok}
use Rattle.laws.proofs.ResultLaws.{never, false_true, each_is}
use Rattle.state.specs.State.{frame_bytes}
use Rattle.state.proofs.StateLaws.{sizes_sound}
use Rattle.state.specs.World.{World, hidden_in}
use Rattle.state.specs.After.{Answer, Answer.refused, Answer.ended, Answer.took_on, Answer.took_back, After, Lent}
use Rattle.colours.specs.Colours.{coloured}
use Rattle.record.specs.Room.{record_room}
use Rattle.record.proofs.RecordRoom.{record_room_lem}
use Rattle.step_on.specs.declared.SteppedOn.{SteppedOn}
use Rattle.step_on.specs.Step.{Built, look_ahead, step_on, on_of, MeetsOn}
use Rattle.step_on.proofs.CaseLaws.{record_fits, on_case}
use Rattle.step_on.proofs.StepLaws.{ahead_passed, hidden_fits}
use Rattle.words.specs.Words.{read_state}
use Rattle.anim.specs.Export.{world_in, answer_number, LentC, StepsOnC}
use Rattle.answers.proofs.InTable.{table_number}
use Rattle.answers.proofs.Table.{on_table}
use Rattle.answers.proofs.AnswerLaws.{on_sized}

-- the record of a frame that lies ahead fits
ahead_room : (file : List ℕ) (w : World) (work room : ℕ) (x : Built) → record_room (frame_bytes w.state.sizes) ≤ room → look_ahead file w work ≡ ok (some x) → record_fits w room x ≡ true
ahead_room file w work room x h e =
    let p = each_is e (ahead_passed file w work) in
    let k = hidden_fits w p.on_a p.on_b in
    let r = record_room_lem (suc w.state.frame) w.state.next (hidden_in w) x.picture w.map (coloured w.map x.cmap) k.few k.short p.map_long in
    le-leb _ room (omega (arith, (each_is k.sizes (sizes_sound w.state.sizes)).length))

pub never_51 : (file : List ℕ) (w : World) (work room : ℕ) → record_room (frame_bytes w.state.sizes) ≤ room → (step_on file w work room).answer ≡ refused 51 → ⊥
never_51 file w work room h =
    on_case (λ (o : After). o.answer ≡ refused 51 → ⊥) w room file work
    (λ n e q. let m : n ≡ 51 = cc in false_true (rw m at (table_number (on_table file w work) e)))
    (λ e q. never (cc)) (λ x e q. never (cc)) (λ x e u q. false_true (sym u ∙ ahead_room file w work room x h e))

-- nor does a call that met its contract
pub never_51_met : (file : List ℕ) (l : Lent) (r : SteppedOn) (l' : Lent) → MeetsOn file l r l' → record_room (frame_bytes l.world.state.sizes) ≤ length l.rec → on_of r.answer ≡ refused 51 → ⊥
never_51_met file l r l' m h e = never_51 file l.world (length l.work) (length l.rec) h (sym m.answer ∙ e)

-- C's 51 is the step's
number_51 : (x : Answer) → answer_number x ≡ 51 → x ≡ refused 51
number_51 (refused n) e = ap refused e
number_51 ended e = absurd (omega arith)
number_51 (took_on r) e = absurd (omega arith)
number_51 took_back e = absurd (omega arith)

-- nor one from C, by the state in its slice
pub never_51_c : (file : List ℕ) (l : LentC) (r : ℕ) (l' : LentC) → StepsOnC file l r l' → record_room (frame_bytes (read_state l.world.state).sizes) ≤ length l.rec → r ≡ 51 → ⊥
never_51_c file l r l' m h e =
    on_sized (λ (x : Answer). answer_number x ≡ 51 → ⊥) file l (λ q. omega arith) (λ q. never_51 file (world_in l.world) (length l.work) (length l.rec) h (number_51 _ q)) (sym m.answer ∙ e)
