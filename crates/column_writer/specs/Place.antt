-- A column that is measured, and written at a place of a buffer, whatever is handed in. Rows of two lengths, and more than 1,024
-- rows, are 12, as buffers of a wrong length are in document 01; a column that does not fit is 51.
use Rattle.std.specs.Prelude.{ℕ, ◌+◌, List, ◌≡◌, leb, eqb, length}
use Rattle.std.proofs.lemmas.List.Edits.{sets}
use Rattle.laws.specs.Result.{Res, Res.ok, ◌>>=◌, need, leaves}
use Rattle.column_writer.specs.Column.{column_bytes}

-- how many bytes a column is written in
unfoldable pub column_length : List ℕ → List ℕ → Res ℕ
column_length old new =
    need (eqb (length old) (length new)) 12 >>= λ _.
    need (leb (length new) 1024) 12 >>= λ _.
    ok (length (column_bytes old new))

-- the place after a column that is written at a place of a buffer of so many bytes
unfoldable pub placed : ℕ → ℕ → List ℕ → List ℕ → Res ℕ
placed room at old new =
    column_length old new >>= λ n.
    need (leb (at + n) room) 51 >>= λ _.
    ok (at + n)

-- what writing answers, and what it leaves in the buffer: all other bytes stay
pub record Places (out : List ℕ) (at : ℕ) (old new : List ℕ) (r : Res ℕ) (out' : List ℕ) : Type 0 where
  pub answer : r ≡ placed (length out) at old new
  pub buffer : out' ≡ leaves out (λ n. sets out at (column_bytes old new)) r
