-- `delta::take_columns`: the columns so far and those that are left are all of them.
use Prim.Native.Nat.{◌+◌, ◌-◌, ◌*◌}
use mathlib.Core.Path.{refl}
use native.Mathlib.Omega.{arith}
use Rattle.delta.specs.Column.{read_columns}
use Rattle.delta.specs.Walk.{reading}
use Rattle.delta.proofs.DeltaLaws.{columns_all, columns_more, columns_none}
use Rattle.refusal.proofs.NumberLaws.{err_is}
use Rattle.delta.proofs.WalkLaws.{walked_none, walked_more, walked_refused, walked_all}
use Rattle.delta.proofs.take_columns.Goals as goal

pub loop-i-init : goal.loop-i-init
loop-i-init c = walked_none (λ ops. columns_all c.args.shape c.args.d.now c.args.count c.args.base (reading c.args.c ops)) refl c.requires.3.line c.requires.3.item _

pub returns-in_err-at : goal.returns-in_err-at
returns-in_err-at c =
    rw (err_is c.from_residual.result c.from_residual.ensures.1)
    (walked_refused c.loop-i.invariant c.in_err-at.ensures (read_columns c.args.shape c.args.d.now (c.args.count - (c.loop-i.i + 1)) (c.args.base + (c.loop-i.i + 1) * c.args.shape.item)) (λ ops. columns_more c.args.shape c.args.d.now c.args.count c.loop-i.i c.args.base c.loop-i-test.true (reading c.loop-i.at ops)))

pub loop-i-preserved : goal.loop-i-preserved
loop-i-preserved c =
    walked_more c.loop-i.invariant c.in_ok-at.ensures (λ ops. columns_more c.args.shape c.args.d.now c.args.count c.loop-i.i c.args.base c.loop-i-test.true (reading c.loop-i.at ops)) (omega arith)

pub returns : goal.returns
returns c =
    walked_all c.loop-i.invariant (λ ops. columns_none c.args.shape c.args.d.now c.args.count c.loop-i.i (c.args.base + c.loop-i.i * c.args.shape.item) c.loop-i-test.false (reading c.loop-i.at ops)) (omega arith)
