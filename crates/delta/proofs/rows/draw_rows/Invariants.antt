-- `delta::rows::draw_rows`: items that lie one after the other are one copy; else what is left to put makes of the frame what all of it makes of
-- the first one.
use Rattle.delta.proofs.DeltaLaws.{Putting}
use Rattle.delta.proofs.rows.draw_rows.Given as goal

abbrev pub invariant-loop : goal.invariant-loop
invariant-loop l = Putting l.item l.row l.step l.d l.count l.from l.place l.initial.frame l.frame l.at l.item_at l.counter
