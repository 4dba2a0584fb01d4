-- `lines::Text::put_frame`: five words and numbers, then the line's end.
use Rattle.lines.specs.Lines.{frame_line}
use Rattle.lines.proofs.TextLaws.{adds_then}
use Rattle.lines.proofs.Text.put_frame.Goals as goal

pub returns-clause-adds : goal.returns-clause-adds
unfolding frame_line
returns-clause-adds c =
    adds_then
    (adds_then (adds_then (adds_then (adds_then c.put_field.ensures.adds c.put_field-2.ensures.adds) c.put_field-3.ensures.adds) c.put_field-4.ensures.adds) c.put_field-5.ensures.adds)
    c.put.ensures.adds
