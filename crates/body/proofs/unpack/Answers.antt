-- `body::unpack`: the refusals in their order, each with the frame as it was; then the rows that were checked are drawn.
use Prim.Native.Nat.{ℕ}
use native.Mathlib.Nat.{mul-le-mul_right}
use native.Mathlib.Omega.{arith}
use mathlib.Core.Path.{◌≡◌, refl, sym, ap, ◌∙◌}
use lib.ListN.{length}
use Rattle.laws.specs.Result.{Res.ok, answer, or_keep}
use Rattle.laws.proofs.ResultLaws.{each_is}
use Rattle.state.specs.declared.Sizes.{Sizes}
use Rattle.state.specs.State.{frame_length, Sound}
use Rattle.state.proofs.StateLaws.{sizes_sound, row_inside}
use Rattle.body.proofs.BodyLaws.{picture_body, body_drawn}
use Rattle.body.proofs.PlainLaws.{rows_most}
use Rattle.body.proofs.WalkLaws.{check_passed}
use Rattle.body.proofs.unpack.Goals as goal

-- the sizes and the frame's length fit each other
sound : (z : Sizes) {m n : ℕ} → ok m ≡ frame_length z → n ≡ m → Sound z n
sound z e h = rw h (each_is (sym e) (sizes_sound z))

pub overflow_mul-sizes : goal.overflow_mul-sizes
overflow_mul-sizes c =
    let z = sound c.args.sizes c.in_ok-length.ensures c.if-frame-length.false in
    omega (arith, mul-le-mul_right c.args.sizes.planes z.height_most, z.planes_most)

pub check_rows-requires : goal.check_rows-requires
check_rows-requires c =
    let z = sound c.args.sizes c.in_ok-length.ensures c.if-frame-length.false in
    (omega (arith, c.row_bytes-row.ensures, row_inside _ _ 0 0 z z.height_least z.planes_least), rows_most z c.row_bytes-row.ensures)

pub draw_rows-requires : goal.draw_rows-requires
draw_rows-requires c = sound c.args.sizes c.in_ok-length.ensures (ap length c.check_rows.ensures.1 ∙ c.if-frame-length.false)

pub returns : goal.returns
returns c =
    let p = check_passed _ _ _ c.row_bytes-row.ensures c.in_ok-check_rows.ensures.0 in
    let z = sound c.args.sizes c.in_ok-length.ensures c.if-frame-length.false in
    let k = picture_body _ _ _ _ (sym c.in_ok-length.ensures) c.if-frame-length.false ∙ body_drawn _ _ _ _ p.0 _ z refl p.1 in
    (ap answer (sym k), c.draw_rows.ensures.rows p.0 p.1 ∙ rw c.check_rows.ensures.1 (ap (or_keep _) (sym k)))
