-- `column_writer::write`: the column's bytes are prepared, and put where they fit.
use native.Mathlib.Omega.{arith}
use Rattle.std.proofs.lemmas.Result.{err_from_is_err_and}
use Rattle.laws.proofs.PutLaws.{put_as, put_then}
use Rattle.column_writer.proofs.FillLaws.{prepared_length}
use Rattle.column_writer.proofs.PlaceLaws.{measured, not_measured, no_room, is_written}
use Rattle.column_writer.proofs.write.Goals as goal

pub returns-in_err-column : goal.returns-in_err-column
returns-in_err-column c =
    let p = err_from_is_err_and c.from_residual.result c.from_residual.ensures.1 in
    rw (p.1, p.2) (not_measured _ _ _ _ c.in_err-column.ensures.err)

pub returns-then-out-at : goal.returns-then-out-at
returns-then-out-at c =
    let s = c.in_ok-column.ensures.ok in
    let k = c.in_ok-column.column in
    rw (← s.0, ← s.1) (no_room _ _ _ _ (measured _ _ k.same k.few) (omega (arith, c.if-out-at.true)))

pub returns-then-out-at-2 : goal.returns-then-out-at-2
returns-then-out-at-2 c =
    let s = c.in_ok-column.ensures.ok in
    let k = c.in_ok-column.column in
    rw (← s.0, ← s.1) (no_room _ _ _ _ (measured _ _ k.same k.few) (omega (arith, c.if-out-at-2.true, prepared_length c.prepare-totals.ensures)))

pub returns : goal.returns
returns c =
    let s = c.in_ok-column.ensures.ok in
    let k = c.in_ok-column.column in
    let r = prepared_length c.prepare-totals.ensures in
    rw (← s.0, ← s.1) (is_written _ _ _ _ k.same k.few (omega (arith, c.if-out-at.false, c.if-out-at-2.false, r)) (put_as (put_then c.put-start.ensures c.put.ensures) c.prepare-totals.ensures.is))
