-- Laws of a column as it is written: in at most 255 ops, or as Uniqs over all its rows.
use Prim.Native.Nat.{ℕ, ◌+◌, ◌/◌, ◌≤◌, ◌<◌}
use native.Mathlib.Omega.{arith}
use mathlib.Core.List.{List, ◌∷◌}
use mathlib.Core.Path.{◌≡◌, ap, ◌∙◌}
use lib.ListN.{length}
use borrow.Author.Tests.{le-leb, lt-leb}
use Rattle.runs.specs.Runs.{runs_of}
use Rattle.column_writer.specs.Column.{WrittenOp.uniq, cut, ops_of, ops_bytes, column_ops, column_bytes}
use Rattle.column_writer.specs.Piece.{Measured}
use Rattle.column_writer.proofs.CutLaws.{uniq_count, uniq_bytes}

-- a column in at most 255 ops, and one that would need more
pub column_few : (old new : List ℕ) → length (ops_of (runs_of new old)) ≤ 255 → column_bytes old new ≡ length (ops_of (runs_of new old)) ∷ ops_bytes (ops_of (runs_of new old))
unfolding column_bytes column_ops
column_few old new h = rw (le-leb (length (ops_of (runs_of new old))) 255 h, column_ops)

pub column_many : (old new : List ℕ) → 255 < length (ops_of (runs_of new old)) → column_bytes old new ≡ length (cut (uniq new)) ∷ ops_bytes (cut (uniq new))
unfolding column_bytes column_ops cut
column_many old new h = rw (lt-leb (length (ops_of (runs_of new old))) 255 h, column_ops)

-- how many bytes a column has whose ops were counted
module _ {old new : List ℕ} {ops bytes : ℕ} (m : Measured old new ops bytes) (l : length new ≤ 1024) where
  pub length_few : ops ≤ 255 → (length (column_bytes old new) ≡ 1 + bytes) × (bytes ≤ 3072)
  length_few h = (ap length (column_few old new (omega (arith, m.count))) ∙ omega (arith, m.size), omega (arith, m.short))

  pub length_many : 255 < ops → (length (column_bytes old new) ≡ 1 + ((length new + 126) / 127 + length new)) × ((length new + 126) / 127 + length new ≤ 3072)
  length_many h = (ap length (column_many old new (omega (arith, m.count))) ∙ omega (arith, uniq_bytes new, uniq_count new), omega arith)
