-- `opening::open_picture`: the header, the buffers' lengths, then the picture into A, a copy of A into B, and the map.
use mathlib.Core.Path.{◌≡◌, refl, sym, ◌∙◌}
use lib.ListN.{length}
use Rattle.laws.specs.Result.{Res.ok}
use Rattle.laws.proofs.StoreLaws.{over_whole}
use Rattle.refusal.proofs.NumberLaws.{err_is}
use Rattle.opening.specs.Open.{first_header}
use Rattle.opening.proofs.OpenLaws.{first_refused, first_opened, first_unread, first_left, first_right, first_unmapped, first_fits, first_bad, first_taken, fills_kept}
use Rattle.opening.proofs.open_picture.Goals.{In_ok-header}
use Rattle.opening.proofs.open_picture.Goals as goal

header : (h : In_ok-header) → first_header h.args.chunks.now h.args.body ≡ ok h.in_ok-header.header
header h = sym h.in_ok-header.ensures

pub returns-in_err-header : goal.returns-in_err-header
returns-in_err-header c = rw (err_is c.from_residual.result c.from_residual.ensures.1) (first_refused (first_unread _ _ _ _ _ (sym c.in_err-header.ensures)) refl refl)

pub returns-then-a-header : goal.returns-then-a-header
returns-then-a-header c = first_refused (first_left _ _ _ _ _ (header (goal.at.returns-then-a-header c).In_ok-header) c.if-a-header.true) refl refl

pub returns-then-b-header : goal.returns-then-b-header
returns-then-b-header c =
    first_refused (first_right _ _ (length c.args.a.now) (length c.args.b.now) (length c.args.map.now) (header (goal.at.returns-then-b-header c).In_ok-header) c.if-a-header.false (λ e. c.if-b-header.true cc)) refl refl

pub returns-then-map-ne-MAP : goal.returns-then-map-ne-MAP
returns-then-map-ne-MAP c =
    first_refused (first_unmapped _ _ (length c.args.a.now) (length c.args.b.now) (length c.args.map.now) (header (goal.at.returns-then-map-ne-MAP c).In_ok-header) c.if-a-header.false c.if-b-header.false c.if-map-ne-MAP.true) refl refl

pub first_picture-requires : goal.first_picture-requires
first_picture-requires c =
    first_fits _ _ (header (goal.at.first_picture-requires c).In_ok-header) c.if-a-header.false

pub first_map-requires : goal.first_map-requires
first_map-requires c = c.if-map-ne-MAP.false

pub returns-in_err-first_picture : goal.returns-in_err-first_picture
returns-in_err-first_picture c =
    rw (err_is c.from_residual-in_err-first_picture.result c.from_residual-in_err-first_picture.ensures.1)
    (first_refused (first_bad _ _ (length c.args.a.now) (length c.args.b.now) (length c.args.map.now) (header (goal.at.returns-in_err-first_picture c).In_ok-header) c.if-a-header.false c.if-b-header.false c.if-map-ne-MAP.false (sym c.in_err-first_picture.ensures.answer)) refl
    (fills_kept c.in_err-first_picture.ensures))

pub returns : goal.returns
returns c =
    first_opened {end = c.args.end} {start = c.args.next} (first_taken _ _ _ _ _ (header (goal.at.returns c).In_ok-header) c.if-a-header.false c.if-b-header.false c.if-map-ne-MAP.false _ _ (sym c.in_ok-first_picture.ensures.answer) c.in_ok-first_picture.ensures.left) c.opened.ensures
    refl (c.copy_long.ensures ∙ over_whole _ _ (c.if-b-header.false ∙ sym (c.first_picture.auto.a ∙ c.if-a-header.false))) c.first_map.ensures
