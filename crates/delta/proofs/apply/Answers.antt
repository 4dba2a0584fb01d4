-- `delta::apply`: a walk that only checks, and then the same walk that draws into a copy of the picture.
use mathlib.Core.Path.{refl, sym, ◌∙◌}
use Rattle.laws.proofs.StoreLaws.{over_whole}
use Rattle.delta.proofs.ApplyLaws.{planes_for, applies_refused, applies_drawn, drawn_is}
use Rattle.refusal.proofs.NumberLaws.{err_is}
use Rattle.delta.proofs.apply.Goals as goal

pub returns-in_err-check : goal.returns-in_err-check
returns-in_err-check c = rw (err_is c.from_residual.result c.from_residual.ensures.1) (applies_refused refl c.in_err-check.ensures)

pub take_delta-requires : goal.take_delta-requires
take_delta-requires c = planes_for c.in_ok-check.ensures c.shape_of.ensures c.copy_long.auto.dst

pub unwrap-end-requires : goal.unwrap-end-requires
unwrap-end-requires c = drawn_is c.in_ok-check.ensures c.shape_of.ensures c.take_delta.result _ _ _ c.take_delta.ensures

pub returns : goal.returns
returns c =
    applies_drawn c.in_ok-check.ensures c.shape_of.ensures refl (c.copy_long.ensures ∙ over_whole _ _ (c.check.auto.work ∙ sym c.in_ok-check.ensures.same)) (rw c.unwrap-end.ensures at c.take_delta.ensures)
