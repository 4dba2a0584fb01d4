-- `column_writer::piece::Column::measure`: what is counted and what is left, from here, come to the whole.
use Rattle.column_writer.proofs.FillLaws.{more, all}
use Rattle.column_writer.proofs.PlanLaws.{length_few, length_many}
use native.Mathlib.Omega.{arith}
use Prim.Native.Nat.{◌+◌, ◌/◌}
use mathlib.Core.Path.{◌≡◌}
use lib.ListN.{length}
use Rattle.column_writer.proofs.piece.Column.measure.Goals as goal

pub loop-row-preserved : goal.loop-row-preserved
loop-row-preserved c =
    more c.loop-row.invariant c.next_piece-piece.ensures c.totals-totals.ensures.0 c.totals-totals.ensures.1

pub returns-then-ops-le255 : goal.returns-then-ops-le255
returns-then-ops-le255 c =
    length_few (all c.loop-row.invariant c.loop-row-test.false) c.args.self.now.few c.if-ops-le255.true

pub returns : goal.returns
returns c =
    let e : c.div_ceil.result ≡ (length c.args.self.now.new.now + 126) / 127 = omega (arith, c.div_ceil.ensures) in
    rw e (length_many (all c.loop-row.invariant c.loop-row-test.false) c.args.self.now.few c.if-ops-le255.false)
