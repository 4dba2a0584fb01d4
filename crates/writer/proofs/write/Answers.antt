-- `writer::write`: the checks in the definition's order, room for the delta, and then the delta.
use native.Mathlib.Omega.{arith}
use mathlib.Core.Path.{◌∙◌}
use Rattle.std.proofs.lemmas.Result.{err_from_is_err_and}
use Rattle.refusal.specs.Number.{result_of}
use Rattle.laws.proofs.ResultLaws.{told}
use Rattle.writer.proofs.DeltaLaws.{delta_is, zeros_put}
use Rattle.writer.proofs.WriteLaws.{limits, not_old, not_new, frames_are, no_room, has_room, all_written}
use Rattle.writer.proofs.write.Goals.{then-old-n-via-then-old-n, then-old-n-via-else-old-n+then-new-n}
use Rattle.writer.proofs.write.Goals as goal

pub returns-in_err-n : goal.returns-in_err-n
returns-in_err-n c =
    let p = err_from_is_err_and c.from_residual.result c.from_residual.ensures.1 in
    rw (p.1, p.2) (limits _ _ _ _ (told result_of c.frame_length.ensures c.in_err-n.was))

pub returns-then-old-n : goal.returns-then-old-n
returns-then-old-n c =
    let e = told result_of c.frame_length.ensures c.in_ok-n.was in
    elim c.then-old-n.branch [
      | then-old-n-via-then-old-n w ↦ not_old _ _ _ _ e w.if-old-n.true
      | then-old-n-via-else-old-n+then-new-n w ↦ not_new _ _ _ _ e w.if-old-n.false w.if-new-n.true
    ]

pub invariant_of-pair : goal.invariant_of-pair
invariant_of-pair c =
    record { frames = rw c.row_bytes.ensures (frames_are _ (told result_of c.frame_length.ensures c.in_ok-n.was) c.if-old-n.false c.if-new-n.false) }

pub returns-then-too_long : goal.returns-then-too_long
returns-then-too_long c =
    no_room _ _ _ _ (told result_of c.frame_length.ensures c.in_ok-n.was) c.if-old-n.false c.if-new-n.false (rw c.row_bytes.ensures at c.too_long.ensures) c.if-too_long.true

pub returns : goal.returns
returns c =
    let e = told result_of c.frame_length.ensures c.in_ok-n.was in
    let l = has_room _ _ _ c.args.out.now e c.if-old-n.false c.if-new-n.false (rw c.row_bytes.ensures at c.too_long.ensures) c.if-too_long.false in
    let d = (frames_are _ e c.if-old-n.false c.if-new-n.false).deep in
    all_written _ _ _ _ e c.if-old-n.false c.if-new-n.false (rw c.row_bytes.ensures at c.too_long.ensures) c.if-too_long.false
    (rw c.row_bytes.ensures at c.write_planes.ensures.0, c.write_planes.ensures.1 ∙ rw c.row_bytes.ensures (delta_is _ _ _ _ _ d (zeros_put _ _ _ d (omega (arith, l)) (c.fill.ensures.after (λ y k. k)))))
