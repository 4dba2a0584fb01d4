-- `iff::find_all`: each turn is one of the walk, with what the searches have found so far.
use Prim.Native.Nat.{◌-◌}
use lib.ListN.{length}
use Rattle.iff.proofs.ChunkLaws.{Searches, Passes}
use Rattle.iff.proofs.find_all.Given as goal

abbrev pub invariant-loop-i : goal.invariant-loop-i
invariant-loop-i g l = Passes l.ids (record { id = l.chunk.id; start = l.chunk.start; size = l.chunk.len; next = l.chunk.next }) l.i l.initial.found l.found

abbrev pub invariant-loop-chunk : goal.invariant-loop-chunk
invariant-loop-chunk g l = Searches l.s l.ids l.at l.found

abbrev pub decreases-loop-chunk : goal.decreases-loop-chunk
decreases-loop-chunk g l = length l.s - l.at
