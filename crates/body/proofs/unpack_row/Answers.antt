-- `body::unpack_row`: the bytes so far are those of the definition's turns, and they stand at the front of dst if they are drawn.
use native.Mathlib.Omega.{arith}
use mathlib.Core.Path.{refl}
use lib.ListN.{length-append, length-take, length-drop}
use Rattle.std.proofs.lemmas.Result.{err_from_is_err_and}
use Rattle.body.proofs.WalkLaws.{took_row, took_row_fault, unpacking_starts, unpacking_counted, unpacking_more, unpacking_fault, unpacking_end}
use Rattle.body.proofs.unpack_row.Goals as goal

pub loop-filled-init : goal.loop-filled-init
loop-filled-init c = (refl, unpacking_starts)

pub returns-in_err-t : goal.returns-in_err-t
returns-in_err-t c =
    let p = err_from_is_err_and c.from_residual.result c.from_residual.ensures.1 in
    let u = c.loop-filled.invariant in
    rw (p.1, p.2) (unpacking_fault u.1 u.0 (omega (arith, u.0)) (took_row_fault c.in_err-t.ensures.0) c.take_packet.ensures.1)

pub overflow_add-filled : goal.overflow_add-filled
overflow_add-filled c = omega (arith, (unpacking_counted c.loop-filled.invariant.1 c.loop-filled.invariant.0 (took_row c.in_ok-t.ensures.0)).2)

pub loop-filled-smaller : goal.loop-filled-smaller
loop-filled-smaller c = omega (arith, unpacking_counted c.loop-filled.invariant.1 c.loop-filled.invariant.0 (took_row c.in_ok-t.ensures.0))

pub loop-filled-preserved : goal.loop-filled-preserved
loop-filled-preserved c =
    let u = c.loop-filled.invariant in (
      simp (length-append, length-take, length-drop) (omega (arith, u.0, c.take_packet.auto.dst)),
      unpacking_more u.1 u.0 (omega (arith, u.0)) (took_row c.in_ok-t.ensures.0) c.take_packet.ensures.1,
    )

pub returns : goal.returns
returns c = unpacking_end c.loop-filled.invariant.1 c.loop-filled.invariant.0 (omega (arith, c.loop-filled.invariant.0))
