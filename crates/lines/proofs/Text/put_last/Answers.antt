-- `lines::Text::put_last`: a word and a number, then the line's end.
use Rattle.lines.proofs.TextLaws.{adds_then}
use Rattle.lines.proofs.Text.put_last.Goals as goal

pub returns-clause-adds : goal.returns-clause-adds
returns-clause-adds c = adds_then c.put_field.ensures.adds c.put.ensures.adds
