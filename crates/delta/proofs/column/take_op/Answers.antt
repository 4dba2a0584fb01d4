-- `delta::column::take_op`: a byte from 1 to 127 goes down.
use native.Mathlib.Omega.{arith}
use lib.ListN.{get_or}
use Rattle.delta.specs.Column.{OpKind.skips, op_as, read_op}
use Rattle.delta.specs.Walk.{reading}
use Rattle.delta.proofs.DeltaLaws.{op_kind, kind_skip}
use Rattle.delta.proofs.FillLaws.{read_as}
use Rattle.delta.proofs.column.take_op.Goals as goal

pub returns-in-1-to-127 : goal.returns-in-1-to-127
returns-in-1-to-127 c =
    let n = get_or c.args.d.now c.args.c.op 0 in
    read_as c.args.shape c.args.d.now 1 (read_op c.args.shape c.args.d.now) c.args.c (λ base x. op_as c.args.shape c.args.d.now base x (skips n)) c.take_skip.result (c.take_skip.ensures c.args.d.now c.requires.1.item)
    (λ base ops. op_kind c.args.shape c.args.d.now base (reading c.args.c ops) c.if-d-op.false (kind_skip n (omega arith) (omega arith)))
