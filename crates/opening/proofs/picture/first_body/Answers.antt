-- `opening::picture::first_body`: the CMAP's length, then what unpacking comes to.
use Rattle.refusal.proofs.NumberLaws.{err_is}
use Rattle.opening.proofs.OpenLaws.{body_uncoloured, body_unpacked}
use Rattle.opening.proofs.picture.first_body.Goals as goal

pub returns-in_err-colours : goal.returns-in_err-colours
returns-in_err-colours c = rw (err_is c.from_residual.result c.from_residual.ensures.1) (body_uncoloured _ _ _ _ _ c.in_err-colours.ensures)

pub returns : goal.returns
returns c = body_unpacked _ _ _ _ _ c.requires c.in_ok-colours.ensures c.unpack.ensures.0 c.unpack.ensures.1
