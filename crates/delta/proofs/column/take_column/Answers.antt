-- `delta::column::take_column`: the count byte, and that many ops from row 0 on.
use mathlib.Core.Path.{refl}
use Rattle.delta.proofs.DeltaLaws.{column_ops_lem}
use Rattle.delta.specs.Walk.{reading}
use Rattle.delta.proofs.WalkLaws.{took_as}
use native.Mathlib.Omega.{arith}
use Rattle.delta.proofs.column.take_column.Goals as goal

pub returns : goal.returns
returns c =
    took_as _ _ _ _ _ _ _ _ _ _ _ c.take_ops.result c.take_ops.ensures (λ ops. column_ops_lem c.args.shape c.args.d.now c.args.base (reading c.args.c ops) c.if-d-op.false) refl (omega (arith, c.type_inv.d c.args.c.op))
