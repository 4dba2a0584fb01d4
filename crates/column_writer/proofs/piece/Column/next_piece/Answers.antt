-- `column_writer::piece::Column::next_piece`: each search tells what the rows become.
use Rattle.column_writer.proofs.WalkLaws.{piece_rest, piece_skip, piece_same}
use Rattle.column_writer.proofs.piece.Column.next_piece.Goals as goal

pub returns-then-self-start : goal.returns-then-self-start
returns-then-self-start c = piece_rest c.first_changed-start.ensures c.requires c.if-self-start.true

pub returns-then-from-start : goal.returns-then-from-start
returns-then-from-start c =
    piece_skip c.first_changed-start.ensures c.args.self.now.same c.if-self-start.false c.if-from-start.true

pub returns-then-first-from-ge4 : goal.returns-then-first-from-ge4
returns-then-first-from-ge4 c = piece_same c.group_end-first.ensures c.if-first-from-ge4.true
