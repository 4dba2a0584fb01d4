-- `record::runs_fit`: what the counts allow is enough, and else what was measured decides.
use Prim.Native.Nat.{ℕ, ◌+◌, ◌*◌, ◌/◌, ◌≤◌}
use native.Mathlib.Omega.{arith}
use mathlib.Core.List.{List}
use mathlib.Core.Path.{◌≡◌, sym}
use lib.ListN.{length}
use borrow.Author.Tests.{le-leb}
use Rattle.runs.specs.Runs.{runs_of}
use Rattle.runs.proofs.PatchLaws.{count_runs}
use Rattle.changes.specs.Count.{count}
use Rattle.changes.proofs.CountLaws.{runs_counted, changed_counted, differing_short}
use Rattle.changes.specs.declared.Counts.{Counts}
use Rattle.record.specs.RunList.{runs_bytes}
use Rattle.record.proofs.RoomLaws.{runs_room}
use Rattle.record.proofs.runs_fit.Goals as goal

module _ (old new : List ℕ) {c : Counts} (l : length old ≡ length new) (e : c ≡ count old new) where
  -- counts are no more than the bytes
  few : (c.runs ≤ length old) × (c.changed ≤ length old)
  few = (omega (arith, runs_counted old new l e, count_runs old new), omega (arith, changed_counted old new l e, differing_short old new))

  -- room for what the counts allow is enough
  enough : {room : ℕ} → 2 * c.runs + c.changed + length old / 128 ≤ room → length (runs_bytes (runs_of old new)) ≤ room
  enough h = omega (arith, h, runs_room old new, runs_counted old new l e, changed_counted old new l e)

pub overflow_mul-counts : goal.overflow_mul-counts
overflow_mul-counts c = omega (arith, few c.args.old.now c.args.new.now c.requires.0 c.requires.2)

pub overflow_add-counts : goal.overflow_add-counts
overflow_add-counts c = omega (arith, few c.args.old.now c.args.new.now c.requires.0 c.requires.2)

pub overflow_add-counts-2 : goal.overflow_add-counts-2
overflow_add-counts-2 c = omega (arith, few c.args.old.now c.args.new.now c.requires.0 c.requires.2)

pub returns-then-counts-old : goal.returns-then-counts-old
returns-then-counts-old c = sym (le-leb _ _ (enough c.args.old.now c.args.new.now c.requires.0 c.requires.2 c.if-counts-old.true))
