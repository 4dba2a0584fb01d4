-- `body::take_row`: a packed row is unpacked, a plain one copied.
use Prim.Native.Nat.{◌+◌, ◌<◌, ◌≤◌}
use native.Mathlib.Nat.{add-sub_cancel_left}
use native.Mathlib.Omega.{arith}
use mathlib.Core.Path.{sym, ap}
use lib.ListN.{length}
use Rattle.laws.proofs.StoreLaws.{length_part}
use Rattle.body.specs.Walk.{took}
use Rattle.body.proofs.BodyLaws.{row_packed, row_plain, row_short}
use Rattle.body.proofs.WalkLaws.{took_is, drawn_kept, drawn_row}
use Rattle.body.proofs.take_row.Goals as goal
use Rattle.body.proofs.take_row.Goals.{then-s-at-via-then-s-at, then-s-at-via-else-s-at+then-s-at-2}

pub returns-then-packed : goal.returns-then-packed
returns-then-packed c = rw (row_packed _ _ _ c.if-packed.true) c.unpack_row.ensures

pub returns-then-s-at : goal.returns-then-s-at
returns-then-s-at c =
    let h : length c.args.s.now < c.args.at + length c.args.dst.now =
    elim c.then-s-at.branch [ then-s-at-via-then-s-at w ↦ omega (arith, w.if-s-at.true) | then-s-at-via-else-s-at+then-s-at-2 w ↦ omega (arith, w.if-s-at.false, w.if-s-at-2.true) ] in
    let k = row_short _ _ _ c.if-packed.false h in
    (ap took (sym k), drawn_kept k)

pub returns : goal.returns
returns c =
    let h : c.args.at + length c.args.dst.now ≤ length c.args.s.now = omega arith in
    let k = row_plain _ _ _ c.if-packed.false h in
    (took_is _ k (length_part _ _ _ h), drawn_row (rw add-sub_cancel_left at c.draw_copy.ensures) k)
