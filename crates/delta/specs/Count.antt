-- How many ops a delta has at most (document 02, E8): 255, a count byte's most, for each column of each plane that is read.
use Rattle.std.specs.Prelude.{ℕ, zero, suc, ◌+◌, ◌*◌, List, eqb}
use Rattle.laws.specs.Result.{pick}
use Rattle.laws.specs.Bytes.{be32}
use Rattle.delta.specs.Reading.{columns_in}
use Rattle.delta.specs.declared.Shape.{Shape}

-- of k planes from plane p on, those that are read: their list pointer isn't 0
unfoldable pub planes_read : List ℕ → ℕ → ℕ → ℕ
planes_read d zero p = 0
planes_read d (suc k) p = pick (eqb (be32 d (4 * p)) 0) 0 1 + planes_read d k (p + 1)

-- the most ops of a delta that can count
abbrev pub ops_most : Shape → List ℕ → ℕ
ops_most S d = 255 * columns_in S * planes_read d S.planes 0
