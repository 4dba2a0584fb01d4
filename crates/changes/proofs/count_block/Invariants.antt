-- `changes::count_block`: each turn counts one byte, with a look at the one after it.
use Prim.Native.Nat.{◌+◌}
use Rattle.changes.specs.Count.{CountsBlock}
use Rattle.changes.proofs.count_block.Given as goal

abbrev pub invariant-loop-i : goal.invariant-loop-i
invariant-loop-i l = CountsBlock l.old l.new l.at (l.at + l.i) l.ends l.changed
