-- `column_writer::write_ops`: the pieces are counted and written, and what is left, from here, comes to the whole.
use Rattle.column_writer.proofs.FillLaws.{filling, filling_room, filling_more, filling_last}
use native.Mathlib.Omega.{arith}
use Rattle.column_writer.proofs.write_ops.Goals as goal

pub loop-row-init : goal.loop-row-init
loop-row-init c = filling _ _ _ c.args.column.now.few (omega arith)

pub write_piece-place-requires : goal.write_piece-place-requires
write_piece-place-requires c = (c.next_piece-piece.ensures.some, c.next_piece-piece.ensures.inside, filling_room c.loop-row.invariant c.next_piece-piece.ensures)

pub loop-row-preserved : goal.loop-row-preserved
loop-row-preserved c =
    filling_more c.loop-row.invariant c.next_piece-piece.ensures c.totals-totals.ensures.0 c.write_piece-place.ensures

pub returns : goal.returns
returns c = filling_last c.loop-row.invariant c.loop-row-test.false
