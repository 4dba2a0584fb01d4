-- `lines::Text::put_field`: a text, then a number.
use Rattle.lines.proofs.TextLaws.{adds_then}
use Rattle.lines.proofs.Text.put_field.Goals as goal

pub returns-clause-adds : goal.returns-clause-adds
returns-clause-adds c = adds_then c.put.ensures.adds c.put_number.ensures.adds
