-- `record::measure`: what is passed and what is left, from here, come to the whole.
use Prim.Native.Nat.{ℕ, ◌+◌, ◌-◌, ◌*◌, ◌≤◌}
use mathlib.Core.List.{List}
use mathlib.Core.Path.{◌≡◌}
use lib.ListN.{length, drop}
use Rattle.runs.specs.Runs.{runs_of}
use Rattle.record.specs.RunList.{runs_bytes}
use Rattle.record.proofs.measure.Given as goal

-- the loop's invariant
pub record Measuring (old new : List ℕ) (at bytes : ℕ) : Type 0 where
  pub inside : at ≤ length old
  pub short : bytes ≤ 11 * at
  pub left : bytes + length (runs_bytes (runs_of (drop at old) (drop at new))) ≡ length (runs_bytes (runs_of old new))

abbrev pub invariant-loop-run : goal.invariant-loop-run
invariant-loop-run l = Measuring l.old l.new l.at l.bytes

abbrev pub decreases-loop-run : goal.decreases-loop-run
decreases-loop-run l = length l.old - l.at
