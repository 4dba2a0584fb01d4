-- `runs::next_run`: equal bytes, then differing ones, are the gap and the run.
use Rattle.runs.proofs.NextLaws.{two_lengths, past_end, nothing_ahead, run_ahead}
use Rattle.runs.proofs.next_run.Goals as goal

pub returns-then-old-new : goal.returns-then-old-new
returns-then-old-new c = two_lengths _ _ _ c.if-old-new.true

pub returns-then-old-at : goal.returns-then-old-at
returns-then-old-at c = past_end _ _ _ c.if-old-new.false c.if-old-at.true

pub returns-then-old-start : goal.returns-then-old-start
returns-then-old-start c = nothing_ahead _ _ _ c.if-old-new.false _ c.if-old-at.false c.stretch_end-start.ensures c.if-old-start.true

pub returns : goal.returns
returns c = run_ahead _ _ _ c.if-old-new.false _ c.if-old-at.false c.stretch_end-start.ensures _ c.if-old-start.false c.stretch_end-end.ensures
