-- `runs::Pair::stop`: the differing bits of two words are those of their bytes.
use Rattle.runs.proofs.StopLaws.{equal_stop, differ_stop}
use Rattle.runs.proofs.Pair.stop.Goals as goal

pub returns-then-equal : goal.returns-then-equal
returns-then-equal c =
    rw c.if-equal.true (equal_stop _ _ _ c.args.self.now.one_length c.requires c.word.ensures.1 c.word-2.ensures.1 _ _ c.word.ensures.0 c.word-2.ensures.0)

pub returns : goal.returns
returns c =
    rw (c.if-equal.false, c.zero_bytes.ensures) (differ_stop _ _ _ c.args.self.now.one_length c.requires c.word.ensures.1 c.word-2.ensures.1 _ _ c.word.ensures.0 c.word-2.ensures.0)
