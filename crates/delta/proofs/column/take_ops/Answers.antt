-- `delta::column::take_ops`: the ops so far and those that are left are all of them.
use Prim.Native.Nat.{◌-◌}
use mathlib.Core.Path.{refl}
use native.Mathlib.Omega.{arith}
use Rattle.delta.specs.Column.{read_op, read_ops}
use Rattle.delta.specs.Walk.{reading}
use Rattle.delta.proofs.DeltaLaws.{ops_more, ops_none}
use Rattle.delta.proofs.FillLaws.{op_walked, op_refused}
use Rattle.refusal.proofs.NumberLaws.{err_is}
use Rattle.delta.proofs.WalkLaws.{walked_none, walked_more, walked_refused, walked_all}
use Rattle.delta.proofs.column.take_ops.Goals as goal

pub loop-init : goal.loop-init
loop-init c = walked_none (λ ops. refl) refl c.requires.2.line c.requires.2.item _

pub returns-in_err-op : goal.returns-in_err-op
returns-in_err-op c =
    rw (err_is c.from_residual.result c.from_residual.ensures.1)
    (walked_refused c.loop.invariant (op_refused c.args.shape c.args.d.now 1 (read_op c.args.shape c.args.d.now) c.loop.at _ c.in_err-op.ensures c.args.drawing c.loop.frame c.args.base) (read_ops c.args.shape c.args.d.now c.args.base (c.loop.counter - 1)) (λ ops. ops_more c.args.shape c.args.d.now c.args.base c.loop.counter c.loop-test.true (reading c.loop.at ops)))

pub loop-preserved : goal.loop-preserved
loop-preserved c =
    walked_more c.loop.invariant
    (op_walked c.args.shape c.args.d.now 1 (read_op c.args.shape c.args.d.now) c.loop.at (rw c.requires.0.columns) c.args.drawing c.loop.frame c.args.base c.in_ok-op.op c.in_ok-op.ensures c.draw_taken-at.ensures)
    (λ ops. ops_more c.args.shape c.args.d.now c.args.base c.loop.counter c.loop-test.true (reading c.loop.at ops)) (omega arith)

pub returns : goal.returns
returns c = walked_all c.loop.invariant (λ ops. ops_none c.args.shape c.args.d.now c.args.base c.loop.counter c.loop-test.false (reading c.loop.at ops)) (omega arith)
