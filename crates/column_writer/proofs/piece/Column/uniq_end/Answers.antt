-- `column_writer::piece::Column::uniq_end`: the groups that were passed are fewer than four rows each, and lie in front of the stretch's rest.
use Rattle.column_writer.proofs.WalkLaws.{uniq_part_starts, uniq_part_more, uniq_part_none_left, uniq_part_stops, front_unchanged, front_end}
use Rattle.column_writer.proofs.piece.Column.uniq_end.Goals as goal

pub loop-i-init : goal.loop-i-init
loop-i-init c = uniq_part_starts c.requires.0 c.requires.1

pub returns-then-self-i : goal.returns-then-self-i
returns-then-self-i c =
    uniq_part_none_left c.loop-i.invariant (front_unchanged _ _ _ c.loop-i-test.true c.args.self.now.same c.if-self-i.true)

pub returns-then-end-i-ge4 : goal.returns-then-end-i-ge4
returns-then-end-i-ge4 c =
    uniq_part_stops c.loop-i.invariant c.group_end-end.ensures c.if-end-i-ge4.true

pub loop-i-preserved : goal.loop-i-preserved
loop-i-preserved c =
    uniq_part_more c.loop-i.invariant c.group_end-end.ensures c.if-end-i-ge4.false

pub returns : goal.returns
returns c = uniq_part_none_left c.loop-i.invariant (front_end _ _ _ c.loop-i-test.false)
