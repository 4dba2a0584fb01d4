-- `opening::picture::first_map`: the CMAP over zeros.
use mathlib.Core.Path.{refl, ◌∙◌}
use Rattle.opening.specs.Open.{first_map}
use Rattle.opening.proofs.picture.first_map.Goals as goal

pub returns : goal.returns
unfolding first_map
returns c =
    c.copy.ensures ∙ rw (c.contents.ensures, c.fill.ensures, c.requires) refl
