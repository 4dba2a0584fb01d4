-- `delta::rows::put_item`: an item of four bytes is two pairs.
use mathlib.Core.Path.{◌∙◌}
use Rattle.delta.proofs.DeltaLaws.{item_four}
use Rattle.delta.proofs.rows.put_item.Goals as goal

pub returns-then-item-eq4 : goal.returns-then-item-eq4
returns-then-item-eq4 c =
    c.put_pair-then-item-eq4.ensures ∙ rw c.put_pair.ensures (item_four c.args.frame.now c.args.at c.args.d.now c.args.from c.args.item c.if-item-eq4.true c.requires.1)
