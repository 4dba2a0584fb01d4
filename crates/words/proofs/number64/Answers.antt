-- `words::number64`: the library's number of eight bytes.
use native.Mathlib.Nat.{add-sub_cancel_left}
use mathlib.Core.Path.{◌∙◌}
use Rattle.laws.proofs.StoreLaws.{length_part}
use Rattle.words.specs.Words.{le64}
use Rattle.words.proofs.WordLaws.{number_of_eight}
use Rattle.words.proofs.number64.Goals as goal

pub returns : goal.returns
unfolding le64
returns c =
    let bytes = simp add-sub_cancel_left at c.copy_from_slice.ensures.after in
    c.from_le_bytes.ensures ∙ rw bytes (number_of_eight _ (length_part c.args.s.now c.args.at 8 c.requires))
