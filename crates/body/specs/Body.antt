-- BODY (document 01, "Chunks"): it holds, for each row, that row of every plane in turn, packed or not; bytes after the last
-- row are ignored. A frame has plane 0 whole, then plane 1, rows from the top.
use Rattle.std.specs.Prelude.{ℕ, zero, suc, ◌+◌, ◌*◌, ◌/◌, ◌%◌, Bool, true, false, List, [], ◌∷◌, leb, eqb, length, take, drop, replicate}
use Rattle.std.proofs.lemmas.List.Edits.{sets}
use Rattle.laws.specs.Result.{Res, Res.ok, ◌>>=◌, need}
use Rattle.state.specs.State.{row_bytes, frame_bytes, frame_length}
use Rattle.state.specs.declared.Sizes.{Sizes}
use Rattle.body.specs.ByteRun.{Row, unpack_row}

-- the row of B bytes at a place of BODY, packed or not
unfoldable pub row_at : List ℕ → ℕ → ℕ → Bool → Res Row
row_at s at B true = unpack_row s at B
row_at s at B false = need (leb (at + B) (length s)) 25 >>= λ _. ok (record { bytes = take B (drop at s); next = at + B })

-- k rows from a place on
unfoldable pub rows_from : List ℕ → ℕ → ℕ → ℕ → Bool → Res (List (List ℕ))
rows_from s at B zero packed = ok []
rows_from s at B (suc k) packed =
    row_at s at B packed >>= λ r.
    rows_from s r.next B k packed >>= λ rs.
    ok (r.bytes ∷ rs)

-- where row i of BODY stands in a frame: it is row i / planes of plane i % planes
unfoldable pub place : Sizes → ℕ → ℕ
place z i = (i % z.planes * z.height + i / z.planes) * row_bytes z.width

-- the rows, from row i on, put into a frame
unfoldable pub draw_rows : Sizes → ℕ → List (List ℕ) → List ℕ → List ℕ
draw_rows z i [] f = f
draw_rows z i (r ∷ rs) f = draw_rows z (i + 1) rs (sets f (place z i) r)

-- the picture in a BODY, or 25
unfoldable pub body : List ℕ → Sizes → Bool → Res (List ℕ)
body s z packed =
    rows_from s 0 (row_bytes z.width) (z.height * z.planes) packed >>= λ rs.
    ok (draw_rows z 0 rs (replicate (frame_bytes z) 0))

-- the same for a frame buffer of n bytes: 11 for the sizes and 12 for the buffer come first
unfoldable pub unpack : ℕ → List ℕ → Sizes → Bool → Res (List ℕ)
unpack n s z packed =
    frame_length z >>= λ m.
    need (eqb n m) 12 >>= λ _.
    body s z packed
