-- `opening::picture::first_delta`: the header, the CMAP's length, then the delta into zeros.
use mathlib.Core.Bool.{true}
use mathlib.Core.Path.{◌≡◌, sym}
use Rattle.laws.specs.Result.{Res.ok}
use Rattle.state.specs.State.{row_bytes}
use Rattle.anhd.specs.Anhd.{frame_header}
use Rattle.refusal.proofs.NumberLaws.{err_is}
use Rattle.opening.proofs.OpenLaws.{delta_unread, delta_uncoloured, delta_bad, delta_done}
use Rattle.opening.proofs.picture.first_delta.Goals.{In_ok-header}
use Rattle.opening.proofs.picture.first_delta.Goals as goal

header : (h : In_ok-header) → frame_header true (row_bytes h.args.sizes.width) h.args.anhd.now ≡ ok h.in_ok-header.header
header h = sym (rw h.row_bytes.ensures at h.in_ok-header.ensures)

pub returns-in_err-header : goal.returns-in_err-header
returns-in_err-header c =
    rw (err_is c.from_residual.result c.from_residual.ensures.1) (delta_unread _ _ _ _ _ (sym (rw c.row_bytes.ensures at c.in_err-header.ensures)))

pub returns-in_err-colours : goal.returns-in_err-colours
returns-in_err-colours c =
    rw (err_is c.from_residual-in_err-colours.result c.from_residual-in_err-colours.ensures.1)
    (delta_uncoloured _ _ _ _ _ (header (goal.at.returns-in_err-colours c).In_ok-header) c.in_err-colours.ensures)

pub returns-in_err-apply_first : goal.returns-in_err-apply_first
returns-in_err-apply_first c =
    rw (err_is c.from_residual-in_err-apply_first.result c.from_residual-in_err-apply_first.ensures.1)
    (delta_bad _ _ _ _ _ (header (goal.at.returns-in_err-apply_first c).In_ok-header) c.requires c.in_ok-colours.ensures c.in_err-apply_first.ensures)

pub returns : goal.returns
returns c = delta_done _ _ _ _ _ (header (goal.at.returns c).In_ok-header) c.requires c.in_ok-colours.ensures c.in_ok-apply_first.ensures
