-- `record::replace`: the part that is lent to the copy has the length of what is copied.
use Rattle.laws.proofs.StoreLaws.{lent_copy}
use Rattle.record.proofs.replace.Goals as goal

pub returns-then-count-lt32 : goal.returns-then-count-lt32
returns-then-count-lt32 c =
    simp c.if-not-wanted.false (lent_copy _ _ _ _ _ _ c.requires.0 c.requires.1 c.copy.ensures)

pub returns : goal.returns
returns c =
    simp c.if-not-wanted.false (lent_copy _ _ _ _ _ _ c.requires.0 c.requires.1 c.copy_long.ensures)
