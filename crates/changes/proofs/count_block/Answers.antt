-- `changes::count_block`: each turn counts one byte, with a look at the one after it.
use native.Mathlib.Omega.{arith}
use native.Mathlib.Nat.{add_assoc}
use Rattle.changes.proofs.CountLaws.{count_then, count_byte}
use Rattle.changes.proofs.count_block.Goals as goal

pub loop-i-preserved : goal.loop-i-preserved
loop-i-preserved c = rw (← (add_assoc c.args.at c.loop-i.i 1)) (count_then c.loop-i.invariant (count_byte _ _ _ c.requires.0 (omega arith)))
