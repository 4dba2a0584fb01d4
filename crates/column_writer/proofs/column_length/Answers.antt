-- `column_writer::column_length`: one byte more than the ops.
use mathlib.Core.Path.{sym, ap, ◌∙◌}
use Rattle.laws.specs.Result.{Res.ok}
use Rattle.column_writer.proofs.PlaceLaws.{measured}
use Rattle.column_writer.proofs.column_length.Goals as goal

pub returns : goal.returns
returns c =
    let s = c.in_ok-column.ensures.ok in
    rw (← s.0, ← s.1) (sym (measured _ _ c.in_ok-column.column.same c.in_ok-column.column.few ∙ ap ok c.measure.ensures.0))
