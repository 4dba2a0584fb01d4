-- `delta::take_delta`: the planes so far and those that are left are all of them.
use Prim.Native.Nat.{◌+◌, ◌-◌}
use native.Mathlib.Omega.{arith}
use Rattle.delta.specs.Delta.{read_planes}
use Rattle.delta.specs.Walk.{top, reading}
use Rattle.delta.proofs.DeltaLaws.{planes_more, planes_none, picture_planes}
use Rattle.refusal.proofs.NumberLaws.{err_is}
use Rattle.delta.proofs.WalkLaws.{walked_none, walked_more, walked_refused, walked_all}
use Rattle.delta.proofs.take_delta.Goals as goal

pub loop-plane-init : goal.loop-plane-init
loop-plane-init c =
    let e = c.default-at.ensures in
    walked_none (λ ops. rw (e.0, e.1.0, e.1.1.0) (picture_planes c.args.shape c.args.d.now (reading top ops) c.if-d-shape.false)) e.1.1.1 (omega arith) (omega arith) _

pub returns-in_err-at : goal.returns-in_err-at
returns-in_err-at c =
    rw (err_is c.from_residual.result c.from_residual.ensures.1)
    (walked_refused c.loop-plane.invariant c.in_err-at.ensures (read_planes c.args.shape c.args.d.now (c.args.shape.planes - (c.loop-plane.plane + 1)) (c.loop-plane.plane + 1)) (λ ops. planes_more c.args.shape c.args.d.now c.args.shape.planes c.loop-plane.plane c.loop-plane-test.true (reading c.loop-plane.at ops)))

pub loop-plane-preserved : goal.loop-plane-preserved
loop-plane-preserved c =
    walked_more c.loop-plane.invariant c.in_ok-at.ensures (λ ops. planes_more c.args.shape c.args.d.now c.args.shape.planes c.loop-plane.plane c.loop-plane-test.true (reading c.loop-plane.at ops)) (omega arith)

pub returns : goal.returns
returns c =
    walked_all c.loop-plane.invariant (λ ops. planes_none c.args.shape c.args.d.now c.args.shape.planes c.loop-plane.plane c.loop-plane-test.false (reading c.loop-plane.at ops)) (omega (arith, c.requires.planes_most))
