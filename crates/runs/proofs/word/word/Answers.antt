-- `runs::word::word`: the bytes of a word, the lowest first.
use native.Mathlib.Nat.{add-sub_cancel_left}
use native.Mathlib.Omega.{arith}
use mathlib.Core.Path.{◌∙◌}
use Rattle.laws.proofs.StoreLaws.{length_part}
use Rattle.runs.proofs.WordLaws.{le_word}
use Rattle.runs.proofs.word.word.Goals as goal

pub returns : goal.returns
returns c =
    let bytes = simp add-sub_cancel_left at c.copy_from_slice.ensures.after in
    (c.from_le_bytes.ensures ∙ rw bytes (le_word _ (length_part c.args.s.now c.args.at 8 c.requires)), λ i. omega (arith, c.type_inv.s i))
