-- One column of a delta that is written (document 01, "The writer"). Unchanged rows before a changed one become Skips of 127
-- and the rest; those after the last changed row write nothing. Inside a stretch of changed rows, every run of at least four
-- rows with one new value, taken as long as the stretch allows, becomes Sames of 255 and the rest; what lies between becomes
-- Uniqs of 127 and the rest. A rest of 0 writes no op. A column that would need more than 255 ops is written as Uniqs of 127
-- and the rest over all rows.
use Rattle.std.specs.Prelude.{ℕ, zero, suc, ◌+◌, ◌/◌, ◌%◌, ◌<◌, true, false, List, [], ◌∷◌, ◌++◌, leb, eqb, length, take, drop, replicate}
use Rattle.runs.specs.Runs.{Run, runs_of}

-- an op: a Skip over so many rows, a Uniq with a value for each row, or a Same over so many rows with one value
pub data WrittenOp : Type 0 where
  skip : ℕ → WrittenOp
  uniq : List ℕ → WrittenOp
  same : ℕ → ℕ → WrittenOp

-- rows with one value: the value, and how many they are
pub record Group : Type 0 where
  pub value : ℕ
  pub rows : ℕ

-- one row more in front
unfoldable pub join : ℕ → List Group → List Group
join v [] = record { value = v; rows = 1 } ∷ []
join v (g ∷ gs) = elim (eqb v g.value) [ true ↦ record { value = g.value; rows = suc g.rows } ∷ gs | false ↦ record { value = v; rows = 1 } ∷ g ∷ gs ]

-- the longest runs of rows with one value
unfoldable pub groups_of : List ℕ → List Group
groups_of [] = []
groups_of (v ∷ vs) = join v (groups_of vs)

-- rows that become a Uniq, with the ops that come after them; they are joined to a Uniq that comes first
unfoldable pub join_uniq : List ℕ → List WrittenOp → List WrittenOp
join_uniq vs [] = uniq vs ∷ []
join_uniq vs (skip n ∷ os) = uniq vs ∷ skip n ∷ os
join_uniq vs (uniq ws ∷ os) = uniq (vs ++ ws) ∷ os
join_uniq vs (same c v ∷ os) = uniq vs ∷ same c v ∷ os

-- a stretch of changed rows, before its ops are cut
unfoldable pub stretch_ops : List Group → List WrittenOp
stretch_ops [] = []
stretch_ops (g ∷ gs) = elim (leb 4 g.rows) [ true ↦ same g.rows g.value ∷ stretch_ops gs | false ↦ join_uniq (replicate g.rows g.value) (stretch_ops gs) ]

-- a rest of 0 writes no op
unfoldable pub rest_of : ℕ → WrittenOp → List WrittenOp
rest_of zero o = []
rest_of (suc k) o = o ∷ []

-- Uniqs of 127 and the rest; k is at least the number of rows
unfoldable pub uniqs : ℕ → List ℕ → List WrittenOp
uniqs zero vs = []
uniqs (suc k) [] = []
uniqs (suc k) (v ∷ vs) = uniq (take 127 (v ∷ vs)) ∷ uniqs k (drop 127 (v ∷ vs))

-- an op over any number of rows, as ops of 127 or 255 rows and the rest
unfoldable pub cut : WrittenOp → List WrittenOp
cut (skip n) = replicate (n / 127) (skip 127) ++ rest_of (n % 127) (skip (n % 127))
cut (uniq vs) = uniqs (length vs) vs
cut (same n v) = replicate (n / 255) (same 255 v) ++ rest_of (n % 255) (same (n % 255) v)

-- the same for several ops
unfoldable pub cut_all : List WrittenOp → List WrittenOp
cut_all [] = []
cut_all (o ∷ os) = cut o ++ cut_all os

-- each stretch of changed rows, with the unchanged rows before it; a run's bytes are here the new values of its rows
unfoldable pub ops_of : List Run → List WrittenOp
ops_of [] = []
ops_of (r ∷ rs) = cut_all (skip r.gap ∷ stretch_ops (groups_of r.bytes)) ++ ops_of rs

-- the ops that turn the old rows of a column into the new ones, or Uniqs over all rows if those are more than 255
unfoldable pub column_ops : List ℕ → List ℕ → List WrittenOp
column_ops old new = elim (leb (length (ops_of (runs_of new old))) 255) [ true ↦ ops_of (runs_of new old) | false ↦ uniqs (length new) new ]

-- the bytes of an op, and of several
unfoldable pub op_bytes : WrittenOp → List ℕ
op_bytes (skip n) = n ∷ []
op_bytes (uniq vs) = (128 + length vs) ∷ vs
op_bytes (same n v) = 0 ∷ n ∷ v ∷ []

unfoldable pub ops_bytes : List WrittenOp → List ℕ
ops_bytes [] = []
ops_bytes (o ∷ os) = op_bytes o ++ ops_bytes os

-- the op count byte and the ops
unfoldable pub column_bytes : List ℕ → List ℕ → List ℕ
column_bytes old new = length (column_ops old new) ∷ ops_bytes (column_ops old new)

-- an op has 1 to 127 rows, a Same 1 to 255
unfoldable pub Valid : WrittenOp → Type 0
Valid (skip n) = (0 < n) × (n < 128)
Valid (uniq vs) = (0 < length vs) × (length vs < 128)
Valid (same n v) = (0 < n) × (n < 256)
