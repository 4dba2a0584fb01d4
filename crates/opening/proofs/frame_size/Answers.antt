-- `opening::frame_size`: the first picture's chunks lie in the file.
use native.Mathlib.Nat.{add-sub_cancel_left}
use native.Mathlib.Omega.{arith}
use mathlib.Core.Path.{refl, sym}
use Rattle.refusal.proofs.NumberLaws.{err_is}
use Rattle.opening.proofs.OpenLaws.{chunks_inside, size_header}
use Rattle.opening.proofs.frame_size.Goals as goal

pub overflow_add-stop : goal.overflow_add-stop
overflow_add-stop c = omega (arith, chunks_inside _ (sym c.in_ok-p.ensures))

pub slice_bounds-first_header-end : goal.slice_bounds-first_header-end
slice_bounds-first_header-end c = omega (arith, chunks_inside _ (sym c.in_ok-p.ensures))

pub returns-in_err-header : goal.returns-in_err-header
returns-in_err-header c =
    rw (err_is c.from_residual-in_err-header.result c.from_residual-in_err-header.ensures.1)
    (sym (size_header _ (sym c.in_ok-p.ensures) (rw (add-sub_cancel_left _ _) refl) (sym c.in_err-header.ensures)))
