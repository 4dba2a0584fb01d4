-- `examples::run_all`: each line ends past the one before.
use mathlib.Core.Path.{refl, ◌∙◌}
use native.Mathlib.Omega.{arith}
use Rattle.examples.proofs.run_all.Goals as goal

pub loop-at-init : goal.loop-at-init
loop-at-init c = (refl, refl)

pub loop-at-smaller : goal.loop-at-smaller
loop-at-smaller c =
    omega (arith, c.after-end.ensures c.loop-at-test.true)

pub loop-at-preserved : goal.loop-at-preserved
loop-at-preserved c =
    (c.run.auto.d ∙ c.loop-at.invariant.0, c.run.auto.out ∙ c.loop-at.invariant.1)

pub shape_of-d : goal.shape_of-d
shape_of-d c = c.loop-at.invariant.0

pub shape_of-out : goal.shape_of-out
shape_of-out c = c.loop-at.invariant.1
