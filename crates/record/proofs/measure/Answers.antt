-- `record::measure`: what is passed and what is left, from here, come to the whole.
use Prim.Native.Nat.{ℕ, ◌+◌, ◌≤◌}
use mathlib.Core.List.{List, []}
use mathlib.Core.Path.{◌≡◌}
use lib.ListN.{length, drop}
use Rattle.number.specs.Number.{write_number}
use Rattle.laws.proofs.ResultLaws.{told}
use Rattle.runs.specs.Runs.{runs_of, change_of}
use Rattle.runs.proofs.NextLaws.{RunAhead, ahead_of, none_ahead}
use Rattle.record.specs.RunList.{runs_bytes}
use Rattle.record.proofs.RunLaws.{ahead_bytes_length}
use native.Mathlib.Omega.{arith}
use Rattle.record.proofs.measure.Invariants.{Measuring}
use Rattle.record.proofs.measure.Goals.{In-Some}
use Rattle.record.proofs.measure.Goals as goal

module _ {old new : List ℕ} {at bytes : ℕ} (m : Measuring old new at bytes) where
  more : {gap count size : ℕ} → RunAhead old new at gap count → (size ≡ length (write_number gap) + length (write_number count) + count) × (size ≤ 10 + count)
      → Measuring old new (at + (gap + count)) (bytes + size)
  more a s = record {
    inside = a.inside;
    short = omega (arith, m.short, a.filled, s.1);
    left = omega (arith, m.left, ahead_bytes_length a, s.0);
  }

  all : runs_of (drop at old) (drop at new) ≡ [] → bytes ≡ length (runs_bytes (runs_of old new))
  unfolding runs_bytes
  all e = omega (arith, rw e at m.left)

ahead : (c : In-Some) → RunAhead c.args.old.now c.args.new.now c.loop-run.at c.in-Some.run'.gap c.in-Some.run'.count
ahead c = ahead_of _ _ _ _ _ (told change_of c.next_run.ensures c.in-Some.is)

pub returns : goal.returns
returns c = all c.loop-run.invariant (none_ahead _ _ _ c.requires.0 (told change_of c.next_run.ensures c.in_default.is))

pub run_length-bytes-requires : goal.run_length-bytes-requires
run_length-bytes-requires c = omega (arith, (ahead (goal.at.run_length-bytes-requires c).In-Some).inside)

pub overflow_add-bytes : goal.overflow_add-bytes
overflow_add-bytes c = omega (arith, (ahead (goal.at.overflow_add-bytes c).In-Some).inside)

pub overflow_add-at : goal.overflow_add-at
overflow_add-at c = omega (arith, (ahead (goal.at.overflow_add-at c).In-Some).inside)

pub overflow_add-at-in-Some : goal.overflow_add-at-in-Some
overflow_add-at-in-Some c = omega (arith, (ahead (goal.at.overflow_add-at-in-Some c).In-Some).inside)

pub loop-run-smaller : goal.loop-run-smaller
loop-run-smaller c = omega (arith, (ahead (goal.at.loop-run-smaller c).In-Some).inside, (ahead (goal.at.loop-run-smaller c).In-Some).filled)

pub loop-run-preserved : goal.loop-run-preserved
loop-run-preserved c =
    more c.loop-run.invariant (ahead (goal.at.loop-run-preserved c).In-Some) c.run_length-bytes.ensures
