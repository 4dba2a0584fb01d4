-- `opening::picture::colours`: the CMAP's length.
use mathlib.Core.Path.{sym, ◌∙◌}
use Rattle.colours.proofs.ColourLaws.{colours_bad, colours_good}
use Rattle.opening.proofs.picture.colours.Goals as goal

pub returns-then-not-good_length : goal.returns-then-not-good_length
returns-then-not-good_length c = rw (colours_bad c.args.cmap.now (sym c.good_length.ensures ∙ c.if-not-good_length.true))

pub returns : goal.returns
returns c = rw (colours_good c.args.cmap.now (sym c.good_length.ensures ∙ c.if-not-good_length.false))
