-- `delta::words::take_words`: the ops so far and the rest of the list are all of it, and each op goes on in it.
use Prim.Native.Nat.{◌-◌, ◌≤◌}
use lib.ListN.{length}
use Rattle.delta.specs.Words.{read_words}
use Rattle.delta.specs.Walk.{Walked}
use Rattle.delta.proofs.words.take_words.Given as goal

abbrev pub invariant-loop-at : goal.invariant-loop-at
invariant-loop-at l = (l.at.op ≤ length l.d) × Walked l.initial.frame l.shape l.d (read_words l.shape l.d l.base) l.initial.at l.drawing (read_words l.shape l.d l.base) l.frame 0 l.at

abbrev pub decreases-loop-at : goal.decreases-loop-at
decreases-loop-at l = length l.d - l.at.op
