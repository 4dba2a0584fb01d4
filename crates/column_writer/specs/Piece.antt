-- The writer's walk down a column: pieces of rows that become ops of one kind, and what each tells of the ops that are left.
use Rattle.std.specs.Prelude.{ℕ, ◌+◌, ◌-◌, ◌*◌, ◌/◌, ◌≤◌, ◌<◌, List, [], ◌∷◌, ◌++◌, ◌≡◌, length, get_or, take, drop, replicate}
use Rattle.runs.specs.Runs.{runs_of}
use Rattle.runs.specs.Front.{runs_at, front, after_front, later}
use Rattle.column_writer.specs.Column.{WrittenOp, WrittenOp.skip, WrittenOp.uniq, WrittenOp.same, cut, ops_of, ops_bytes, column_bytes}
use Rattle.column_writer.specs.declared.piece.PieceKind.{PieceKind}
use Rattle.column_writer.specs.declared.piece.PieceKind.TheVariants.{Rest, Skip, Same, Uniq}

-- rows that don't begin with a value
abbrev pub NotFirst : ℕ → List ℕ → Type 0
NotFirst v [] = Unit
NotFirst v (w ∷ ws) = v ≡ w → ⊥

-- the ops of a column from a row on
abbrev pub ops_at : List ℕ → List ℕ → ℕ → List WrittenOp
ops_at old new i = ops_of (runs_at new old i)

-- the rows from one row up to another are unchanged, and the other, if there is one, changed
pub record Unchanged (old new : List ℕ) (from end : ℕ) : Type 0 where
  pub low : from ≤ end
  pub high : end ≤ length new
  pub runs : runs_at new old from ≡ later (end - from) (runs_at new old end)
  pub stops : end < length new → get_or new end 0 ≡ get_or old end 0 → ⊥

-- the changed rows from one row up to another have one new value, and the stretch is as if they were put in front of what follows
pub record GroupPart (old new : List ℕ) (from end : ℕ) : Type 0 where
  pub low : from < end
  pub high : end ≤ length new
  pub rows : take (end - from) (drop from new) ≡ replicate (end - from) (get_or new from 0)
  pub before : front (runs_at new old from) ≡ replicate (end - from) (get_or new from 0) ++ front (runs_at new old end)
  pub after : after_front (runs_at new old from) ≡ after_front (runs_at new old end)

-- and there are no more of them
pub record GroupRows (old new : List ℕ) (from end : ℕ) : Type 0 where
  pub part : GroupPart old new from end
  pub ends : NotFirst (get_or new from 0) (front (runs_at new old end))

-- the rows from one row up to another become Uniqs
pub record UniqRows (old new : List ℕ) (from end : ℕ) : Type 0 where
  pub low : from < end
  pub high : end ≤ length new
  pub ops : ops_at old new from ≡ cut (uniq (take (end - from) (drop from new))) ++ ops_at old new end

-- the ops that so many rows become
abbrev pub piece_ops : PieceKind → ℕ → List ℕ → List WrittenOp
piece_ops Rest n vs = []
piece_ops Skip n vs = cut (skip n)
piece_ops Same n vs = cut (same n (get_or vs 0 0))
piece_ops Uniq n vs = cut (uniq (take n vs))

-- how many they are, and in how many bytes
abbrev pub ops_in : PieceKind → ℕ → ℕ
ops_in Rest n = 0
ops_in Skip n = (n + 126) / 127
ops_in Same n = (n + 254) / 255
ops_in Uniq n = (n + 126) / 127

abbrev pub bytes_in : PieceKind → ℕ → ℕ
bytes_in Rest n = 0
bytes_in Skip n = ops_in Skip n
bytes_in Same n = 3 * ops_in Same n
bytes_in Uniq n = ops_in Uniq n + n

-- the next piece from a row on
pub record NextPiece (old new : List ℕ) (from : ℕ) (kind : PieceKind) (rows : ℕ) : Type 0 where
  pub some : 0 < rows
  pub inside : from + rows ≤ length new
  pub ops : ops_at old new from ≡ piece_ops kind rows (drop from new) ++ ops_at old new (from + rows)

-- a column's ops and their bytes, counted
pub record Measured (old new : List ℕ) (ops bytes : ℕ) : Type 0 where
  pub count : ops ≡ length (ops_of (runs_of new old))
  pub size : bytes ≡ length (ops_bytes (ops_of (runs_of new old)))
  pub few : ops ≤ length new
  pub short : bytes ≤ 3 * length new

-- a column is the op count byte and the bytes at the front of a buffer
pub record Prepared (old new room : List ℕ) (ops bytes : ℕ) : Type 0 where
  pub is : column_bytes old new ≡ ops ∷ take bytes room
  pub few : ops ≤ 255
  pub short : bytes ≤ 1536
  pub inside : bytes ≤ length room
