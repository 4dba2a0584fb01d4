-- `opening::places_in`: the FORM's chunks lie in FORM ANIM.
use native.Mathlib.Omega.{arith}
use Rattle.opening.proofs.OpenLaws.{form_inside}
use Rattle.opening.proofs.places_in.Goals as goal

pub overflow_add-stop : goal.overflow_add-stop
overflow_add-stop c = omega (arith, form_inside _ _ _ _ c.in_ok-next_form.ensures c.in_ok-form.ensures.value)

pub slice_bounds-body_in-end : goal.slice_bounds-body_in-end
slice_bounds-body_in-end c = form_inside _ _ _ _ c.in_ok-next_form.ensures c.in_ok-form.ensures.value
