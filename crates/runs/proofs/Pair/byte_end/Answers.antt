-- `runs::Pair::byte_end`: each turn is one more byte of the stretch.
use native.Mathlib.Omega.{arith}
use mathlib.Core.Path.{◌≡◌}
use lib.ListN.{length}
use Rattle.runs.proofs.StretchLaws.{as_asked, not_asked, scan_more, scan_stops, scan_ends}
use Rattle.runs.proofs.Pair.byte_end.Goals as goal

pub returns-then-self-i : goal.returns-then-self-i
returns-then-self-i c =
    scan_stops c.loop-i.invariant c.args.self.now.one_length c.loop-i-test.true (not_asked _ _ c.if-self-i.true)

pub loop-i-preserved : goal.loop-i-preserved
loop-i-preserved c =
    scan_more c.loop-i.invariant c.args.self.now.one_length c.loop-i-test.true (as_asked _ _ c.if-self-i.false)

pub returns : goal.returns
returns c =
    let e : c.loop-i.i ≡ length c.args.self.now.first.now = omega arith in
    rw e at (scan_ends c.loop-i.invariant c.args.self.now.one_length (omega arith))
