-- `column_writer::piece::Column::group_end`: the rows that were passed have one new value and lie in one stretch.
use native.Mathlib.Omega.{arith}
use Rattle.column_writer.proofs.WalkLaws.{group_starts, group_more, group_other, group_unchanged, group_last}
use Rattle.column_writer.proofs.piece.Column.group_end.Goals.{then-self-i-via-then-self-i, then-self-i-via-else-self-i+then-self-i-2}
use Rattle.column_writer.proofs.piece.Column.group_end.Goals as goal

pub loop-i-init : goal.loop-i-init
loop-i-init c = group_starts _ _ _ c.args.self.now.same c.requires.0 c.requires.1

pub returns-then-self-i : goal.returns-then-self-i
returns-then-self-i c =
    elim c.then-self-i.branch [
      | then-self-i-via-then-self-i w ↦ group_other c.loop-i.invariant c.args.self.now.same c.loop-i-test.true w.if-self-i.true
      | then-self-i-via-else-self-i+then-self-i-2 w ↦ group_unchanged c.loop-i.invariant c.args.self.now.same c.loop-i-test.true w.if-self-i-2.true
    ]

pub loop-i-preserved : goal.loop-i-preserved
loop-i-preserved c = group_more c.loop-i.invariant c.args.self.now.same c.loop-i-test.true c.if-self-i.false c.if-self-i-2.false

pub returns : goal.returns
returns c = group_last c.loop-i.invariant c.loop-i-test.false (omega arith)
