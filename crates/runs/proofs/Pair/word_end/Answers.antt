-- `runs::Pair::word_end`: each turn is eight more bytes of the stretch.
use Rattle.runs.proofs.StretchLaws.{scan_jumps}
use Rattle.runs.proofs.Pair.word_end.Goals as goal

pub loop-i-preserved : goal.loop-i-preserved
loop-i-preserved c =
    scan_jumps c.loop-i.invariant c.args.self.now.one_length 8 (c.stop-s.ensures.none c.if-s-ne0.false)
