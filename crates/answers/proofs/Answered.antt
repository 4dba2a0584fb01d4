-- Every answer of the C interface but a row's place is 0, 1 or a number of the table.
use Prim.Native.Nat.{ℕ}
use mathlib.Core.Bool.{true}
use mathlib.Core.Path.{◌≡◌, ap, ◌∙◌}
use lib.Dec.{eqb}
use lib.ListN.{length}
use Rattle.words.specs.Words.{read_state}
use Rattle.answers.specs.Answers.{Answers, is_answer, Answers.sizes, Answers.opens, Answers.steps_on, Answers.steps_back, Answers.rows, Answers.writes}
use Rattle.answers.proofs.InTable.{listed}
use Rattle.answers.proofs.Table.{size_table, opening_table, place_table, written_table}
use Rattle.answers.proofs.AnswerLaws.{sized_answered, on_answered, back_answered}

pub answered : {r : ℕ} → Answers r → is_answer r ≡ true
answered (sizes file size _ _ c) = ap is_answer c.answer ∙ sized_answered (eqb (length size) 8) (listed (size_table file))
answered (opens file w _ _ c) = ap is_answer c.answer ∙ sized_answered (eqb (length w.state) 48) (listed (opening_table file (length w.a) (length w.b) (length w.map)))
answered (steps_on file l _ _ c) = ap is_answer c.answer ∙ on_answered file l
answered (steps_back w rec _ _ c) = ap is_answer c.answer ∙ back_answered w rec
answered (rows plane row state a b _ e) = ap is_answer e ∙ sized_answered (eqb (length state) 48) (listed (place_table (read_state state) a b plane row))
answered (writes z old new l _ _ c) = ap is_answer c.answer ∙ sized_answered (eqb (length l.len) 8) (written_table z old new (length l.out))
