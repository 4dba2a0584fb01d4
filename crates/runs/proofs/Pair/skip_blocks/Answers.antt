-- `runs::Pair::skip_blocks`: each turn jumps over the bytes of a block.
use mathlib.Core.Path.{sym}
use borrow.Author.Tests.{leb-true}
use Rattle.runs.proofs.StretchLaws.{scan_jumps}
use Rattle.runs.proofs.Pair.skip_blocks.Goals as goal

pub loop-i-preserved : goal.loop-i-preserved
loop-i-preserved c =
    scan_jumps c.loop-i.invariant c.args.self.now.one_length _ (leb-true _ _ (sym c.if-not-block_is.ensures))
