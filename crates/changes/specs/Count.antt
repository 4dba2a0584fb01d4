-- The contract of `changes::count`: how many runs of changed bytes there are between two buffers, and how many bytes changed
-- (document 01, "Opening, stepping on, stepping back" and "Bench examples").
use Rattle.std.specs.Prelude.{ℕ, ◌+◌, ◌≤◌, List, ◌≡◌, eqb, length, drop}
use Rattle.laws.specs.Result.{pick}
use Rattle.runs.specs.Runs.{runs_of, differing}
use Rattle.changes.specs.declared.Counts.{Counts}

-- how many runs there are, and how many elements differ; none for lists of two lengths
unfoldable pub count : List ℕ → List ℕ → Counts
count old new = pick (eqb (length old) (length new)) (record { runs = length (runs_of old new); changed = differing old new }) (record { runs = 0; changed = 0 })

-- the runs that end, and the bytes that differ, from one place to another
pub record CountsBlock (old new : List ℕ) (from to ends changed : ℕ) : Type 0 where
  pub runs : ends + length (runs_of (drop to old) (drop to new)) ≡ length (runs_of (drop from old) (drop from new))
  pub bytes : changed + differing (drop to old) (drop to new) ≡ differing (drop from old) (drop from new)
  pub few_runs : from + ends ≤ to
  pub few_bytes : from + changed ≤ to
