-- `delta::rows::draw_taken`: the rows of an op that was read lie in the column.
use mathlib.Core.Path.{subst}
use Rattle.delta.specs.Walk.{Lies}
use Rattle.delta.proofs.FillLaws.{rows_inside}
use Rattle.delta.proofs.rows.draw_taken.Goals as goal

pub draw_rows-requires : goal.draw_rows-requires
draw_rows-requires c =
    let w = subst (Lies c.args.shape c.args.d.now) c.in-Rows.is c.requires.2 in
    (c.requires.0, rows_inside c.requires.1 _ _ w.0, w.1)
