-- `number::read_groups`: what is left to read, from here, comes to what the whole comes to.
use Prim.Native.Nat.{ℕ, ◌+◌, ◌-◌, ◌*◌, ◌^◌, ◌<◌, ◌≤◌}
use mathlib.Core.List.{List}
use mathlib.Core.Path.{◌≡◌}
use lib.ListN.{length, drop}
use Rattle.number.specs.Number.{groups, read_number}
use Rattle.number.proofs.read_groups.Given as goal

-- the loop's invariant: the rest reads as the whole does, and the weight leaves room for the groups that may still come
pub record Reading (s : List ℕ) (at i weight sum left : ℕ) : Type 0 where
  pub light : weight * 128 ^ left ≤ 128 ^ 5
  pub below : sum < weight
  pub same : groups left weight sum (drop i s) ≡ read_number (drop at s)

abbrev pub invariant-loop-k : goal.invariant-loop-k
invariant-loop-k l = (0 < l.k → l.at + l.k ≤ length l.s) × Reading l.s l.at (l.at + l.k) l.weight l.sum (5 - l.k)
