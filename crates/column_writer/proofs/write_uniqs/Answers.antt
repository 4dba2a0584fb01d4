-- `column_writer::write_uniqs`: the Uniqs of the rows that are left, from here, come to the whole.
use native.Mathlib.Omega.{arith}
use mathlib.Core.Path.{◌∙◌}
use Rattle.laws.proofs.PutLaws.{putting_room, putting_more, putting_last}
use Rattle.column_writer.proofs.CutLaws.{uniq_next, uniq_none}
use Rattle.column_writer.proofs.write_uniqs.Goals as goal

pub write_uniq-place-requires : goal.write_uniq-place-requires
write_uniq-place-requires c =
    let s = c.in-Some.ensures.steps in
    let w = c.loop-part.invariant in
    (omega (arith, s.1, w.2), putting_room w.3 (uniq_next _ _ s.1.0 (rw w.2 at s.1.1) s.1.2))

pub loop-part-preserved : goal.loop-part-preserved
loop-part-preserved c =
    let s = c.in-Some.ensures.steps in
    let w = c.loop-part.invariant in
    (omega (arith, s.0, w.0), tt, s.0 ∙ w.2, putting_more w.3 (uniq_next _ _ s.1.0 (rw w.2 at s.1.1) s.1.2) c.write_uniq-place.ensures)

pub returns : goal.returns
returns c = putting_last c.loop-part.invariant.3 (uniq_none _ c.in-None.ensures.steps.1.0)
