-- `restore::read_header`: the definition's first two steps.
use Rattle.number.proofs.NumberLaws.{number_found, none_found}
use Rattle.restore.proofs.RestoreLaws.{no_frame, no_place, header_found}
use Rattle.restore.proofs.read_header.Goals as goal

pub returns-in_err-frame : goal.returns-in_err-frame
returns-in_err-frame c = rw c.from_residual.ensures (no_frame _ (none_found c.in_err-frame.ensures))

pub returns-in_err-place : goal.returns-in_err-place
returns-in_err-place c =
    rw c.from_residual-in_err-place.ensures (no_place (number_found c.in_ok-frame.ensures) (none_found c.in_err-place.ensures))

pub returns : goal.returns
returns c = header_found (number_found c.in_ok-frame.ensures) (number_found c.in_ok-place.ensures)
