-- `input::read_full`: what is read next goes behind what was read before.
use Rattle.std.proofs.Common.{rules}
use Rattle.input.proofs.ReadLaws.{consumed_more}
use Rattle.input.proofs.read_full.Goals as goal

pub loop-done-preserved : goal.loop-done-preserved
loop-done-preserved g c =
    (search rules, consumed_more _ _ _ c.loop-done.buf c.read.new.buf _ _ _ c.loop-done.invariant.0 c.in_ok-n.ensures.bound.0 c.loop-done.invariant.1 c.in_ok-n.ensures.bytes.0)
