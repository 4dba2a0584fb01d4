-- One row of one plane of the shown picture (document 01, "Opening, stepping on, stepping back"): a part of A or of B as lent. A plane
-- or row that isn't there is 14, after 11 and 12. A refused row is an empty part, and a separate question answers the number.
use Rattle.std.specs.Prelude.{ℕ, ◌+◌, ◌*◌, List, [], ltb, length, take, drop}
use Rattle.laws.specs.Result.{Res, Res.ok, Res.fault, ◌>>=◌, need}
use Rattle.state.specs.State.{row_bytes, lent_length}
use Rattle.state.specs.declared.State.{State}
use Rattle.state.specs.World.{shown_of}

-- where the row stands in its buffer, by the lengths of A and B; or 11, 12, 14
unfoldable pub row_place : State → ℕ → ℕ → ℕ → ℕ → Res ℕ
row_place s a b plane row =
    lent_length s a b >>= λ _.
    need (ltb plane s.sizes.planes) 14 >>= λ _.
    need (ltb row s.sizes.height) 14 >>= λ _.
    ok ((plane * s.sizes.height + row) * row_bytes s.sizes.width)

-- B bytes from that place on, or nothing
abbrev pub part_at : List ℕ → ℕ → Res ℕ → List ℕ
part_at p B (ok at) = take B (drop at p)
part_at p B (fault n) = []

-- the row
unfoldable pub row_of : State → (a b : List ℕ) → ℕ → ℕ → List ℕ
row_of s a b plane row = part_at (shown_of s.frame a b) (row_bytes s.sizes.width) (row_place s (length a) (length b) plane row)
