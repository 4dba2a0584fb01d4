-- `record::put_runs`: whatever puts the runs that are left, from here, puts them all; the picture is done up to here.
use Prim.Native.Nat.{ℕ, ◌+◌, ◌-◌, ◌≤◌}
use mathlib.Core.Bool.{Bool}
use mathlib.Core.List.{List}
use mathlib.Core.Path.{◌≡◌}
use lib.ListN.{length, drop}
use Rattle.laws.specs.Put.{Put}
use Rattle.runs.specs.Runs.{runs_of}
use Rattle.record.proofs.CommitLaws.{Committing}
use Rattle.record.specs.RunList.{runs_bytes}
use Rattle.record.proofs.put_runs.Given as goal

-- the loop's invariant
pub record Writing (out₀ : List ℕ) (from : ℕ) (old₀ new : List ℕ) (commit : Bool) (out old : List ℕ) (at place : ℕ) : Type 0 where
  pub inside : at ≤ length old
  pub size : length out ≡ length out₀
  pub same : length old ≡ length new
  pub fits : place + length (runs_bytes (runs_of (drop at old) (drop at new))) ≤ length out
  pub whole : {out' : List ℕ} {next : ℕ} → Put out place (runs_bytes (runs_of (drop at old) (drop at new))) out' next → Put out₀ from (runs_bytes (runs_of old₀ new)) out' next
  pub picture : Committing commit old₀ new at old

abbrev pub invariant-loop-run : goal.invariant-loop-run
invariant-loop-run l = Writing l.initial.out l.from l.initial.old l.new l.commit l.out l.old l.at l.place

abbrev pub decreases-loop-run : goal.decreases-loop-run
decreases-loop-run l = length l.new - l.at
