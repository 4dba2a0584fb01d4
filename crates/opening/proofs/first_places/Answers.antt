-- `opening::first_places`: FORM ANIM ends within the file.
use mathlib.Core.Path.{sym}
use lib.Seq.{length-take-le}
use Rattle.laws.proofs.ResultLaws.{each_is}
use Rattle.form.proofs.FormLaws.{anim_closes}
use Rattle.opening.proofs.first_places.Goals as goal

pub slice_bounds-places_in-end : goal.slice_bounds-places_in-end
slice_bounds-places_in-end c = sym (length-take-le _ _ (each_is (sym c.in_ok-end.ensures) (anim_closes _)).most)
