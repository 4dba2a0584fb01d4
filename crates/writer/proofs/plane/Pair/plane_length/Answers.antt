-- `writer::plane::Pair::plane_length`: an unchanged plane has no list.
use mathlib.Core.Path.{sym, ap, ◌∙◌}
use lib.ListN.{length}
use Rattle.writer.proofs.PlaneLaws.{plane_unchanged, plane_changed}
use native.Mathlib.Omega.{arith}
use Rattle.writer.proofs.plane.Pair.plane_length.Goals as goal

pub returns-then-unchanged : goal.returns-then-unchanged
returns-then-unchanged c = (sym (ap length (plane_unchanged _ _ _ _ _ c.unchanged.ensures c.if-unchanged.true)), omega arith)

pub returns : goal.returns
returns c =
    (c.columns_length.ensures.0 ∙ sym (ap length (plane_changed _ _ _ _ _ c.unchanged.ensures c.if-unchanged.false)), omega (arith, c.columns_length.ensures.1, c.args.self.now.frames.wide))
