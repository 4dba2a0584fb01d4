-- `body::draw_rows`: the row that comes next is that of the line and the plane, and drawing what is left comes to drawing all.
use Prim.Native.Nat.{◌*◌}
use mathlib.Core.Path.{◌≡◌, refl}
use Prim.Native.Nat.{◌+◌, ◌≤◌}
use lib.ListN.{length, length-append, length-take, length-drop}
use native.Mathlib.Omega.{arith}
use Rattle.body.proofs.WalkLaws.{took_row, took_row_fault, drawing_starts, drawing_end, walking_fits, walking_on, walking_stop, lent_length}
use Rattle.body.proofs.draw_rows.Goals as goal

pub loop-line-init : goal.loop-line-init
loop-line-init c = let z : 0 * c.args.sizes.planes ≡ 0 = omega arith in (refl, rw z drawing_starts)

pub slice_bounds-dst-end : goal.slice_bounds-dst-end
slice_bounds-dst-end c =
    omega (arith, walking_fits c.loop-plane.invariant.1 c.row_bytes-row.ensures c.loop-line-test.true c.loop-plane-test.true c.requires, c.loop-plane.invariant.0)

pub returns-in_default : goal.returns-in_default
returns-in_default c =
    let w = c.loop-plane.invariant in
    let fits : c.loop-plane.place + c.row_bytes-row.result ≤ length c.loop-plane.frame = omega (arith, walking_fits w.1 c.row_bytes-row.ensures c.loop-line-test.true c.loop-plane-test.true c.requires, w.0) in
    walking_stop w.1 c.row_bytes-row.ensures c.loop-line-test.true c.loop-plane-test.true fits (took_row_fault c.in_default.ensures.0) _

pub loop-plane-preserved : goal.loop-plane-preserved
loop-plane-preserved c =
    let w = c.loop-plane.invariant in
    let fits : c.loop-plane.place + c.row_bytes-row.result ≤ length c.loop-plane.frame = omega (arith, walking_fits w.1 c.row_bytes-row.ensures c.loop-line-test.true c.loop-plane-test.true c.requires, w.0) in (
      simp (length-append, length-take, length-drop) (omega (arith, fits, w.0, c.take_row.auto.dst, lent_length c.loop-plane.frame c.loop-plane.place c.row_bytes-row.result fits)),
      walking_on w.1 c.row_bytes-row.ensures c.loop-line-test.true c.loop-plane-test.true fits (took_row c.in-Ok.ensures.0) c.take_row.ensures.1,
    )

pub returns : goal.returns
returns c = let e : c.loop-line.line ≡ c.args.sizes.height = omega arith in drawing_end c.loop-line.invariant.1 (rw e)
