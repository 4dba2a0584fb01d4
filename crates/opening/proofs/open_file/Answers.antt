-- `opening::open_file`: the first picture's place, then its chunks.
use native.Mathlib.Nat.{add-sub_cancel_left}
use native.Mathlib.Omega.{arith}
use mathlib.Core.Path.{refl, sym}
use Rattle.refusal.proofs.NumberLaws.{err_is}
use Rattle.opening.proofs.OpenLaws.{chunks_inside, opens_nowhere, opens_at}
use Rattle.opening.proofs.open_file.Goals as goal

pub returns-in_err-p : goal.returns-in_err-p
returns-in_err-p c = rw (err_is c.from_residual.result c.from_residual.ensures.1) (opens_nowhere _ _ _ _ (sym c.in_err-p.ensures) refl)

pub overflow_add-stop : goal.overflow_add-stop
overflow_add-stop c = omega (arith, chunks_inside _ (sym c.in_ok-p.ensures))

pub slice_bounds-open_picture-end : goal.slice_bounds-open_picture-end
slice_bounds-open_picture-end c = omega (arith, chunks_inside _ (sym c.in_ok-p.ensures))

pub returns : goal.returns
returns c =
    opens_at _ _ _ _ _ (sym c.in_ok-p.ensures) (rw (add-sub_cancel_left _ _) refl) c.open_picture.ensures
