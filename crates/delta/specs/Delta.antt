-- A whole DLTA of methods 2, 3, 5 and 7 (document 01, "Deltas"; document 02, E5): what its planes' lists say, or the first fault in the
-- paper's order, and what that makes of a frame.
use Rattle.std.specs.Prelude.{ℕ, zero, suc, ◌+◌, ◌*◌, List, [], ◌∷◌, ◌≡◌, leb, eqb, length, take, drop}
use Rattle.std.proofs.lemmas.List.Edits.{sets}
use Rattle.laws.specs.Result.{Res, Res.ok, ◌>>=◌, need, pick, or_keep}
use Rattle.laws.specs.Bytes.{be32}
use Rattle.state.specs.State.{row_bytes, frame_length}
use Rattle.state.specs.declared.Sizes.{Sizes}
use Rattle.anhd.specs.declared.Items.{Items}
use Rattle.anhd.specs.Anhd.{columns_ok}
use Rattle.delta.specs.Reading.{shape_of, columns_in, Op, ops_in, Reading}
use Rattle.delta.specs.Column.{read_columns}
use Rattle.delta.specs.Words.{read_words}
use Rattle.delta.specs.declared.Shape.{Shape}

-- pointer i, which must lead to a place from the end of the pointers' own bytes to the DLTA's length
unfoldable pub list_pointer : List ℕ → ℕ → ℕ → Res ℕ
list_pointer d pointers i =
    need (leb pointers (be32 d (4 * i))) 41 >>= λ _.
    need (leb (be32 d (4 * i)) (length d)) 41 >>= λ _.
    ok (be32 d (4 * i))

-- where the items of plane p start: only method 7 has data lists
abbrev pub data_pointer : Shape → List ℕ → ℕ → Res ℕ
data_pointer S d p = pick S.inline (ok 0) (list_pointer d S.pointers (p + 8))

-- what a plane's list says: words, or columns from left to right
abbrev pub plane_list : Shape → List ℕ → ℕ → Reading → Res Reading
plane_list S d base c = pick S.words (read_words S d base c) (read_columns S d (columns_in S) base c)

-- plane p: its pointers, then its list from row 0 on; a list pointer of 0 means that it doesn't change
unfoldable pub read_plane : Shape → List ℕ → ℕ → Reading → Res Reading
read_plane S d p c =
    pick (eqb (be32 d (4 * p)) 0) (ok c)
    (list_pointer d S.pointers p >>= λ a.
    data_pointer S d p >>= λ b.
    plane_list S d (p * S.plane) (record { op_at = a; item_at = b; line = 0; ops = c.ops }))

-- k planes from plane p on
unfoldable pub read_planes : Shape → List ℕ → ℕ → ℕ → Reading → Res Reading
read_planes S d zero p c = ok c
read_planes S d (suc k) p c = read_plane S d p c >>= λ c'. read_planes S d k (p + 1) c'

-- all planes, after the pointers' own bytes
unfoldable pub read_picture : Shape → List ℕ → Reading → Res Reading
read_picture S d c = need (leb S.pointers (length d)) 41 >>= λ _. read_planes S d S.planes 0 c

-- the ops of a whole delta, or its first fault
unfoldable pub read_delta : Shape → List ℕ → Res (List Op)
read_delta S d = read_picture S d (record { op_at = 0; item_at = 0; line = 0; ops = [] }) >>= λ c. ok c.ops

-- n items of w bytes to places that are stride apart, from places of d that are step apart
unfoldable pub put : (w stride step : ℕ) → List ℕ → ℕ → ℕ → ℕ → List ℕ → List ℕ
put w stride step d zero from at f = f
put w stride step d (suc n) from at f = put w stride step d n (from + step) (at + stride) (sets f at (take w (drop from d)))

-- what the ops make of a frame
unfoldable pub draw : Shape → List ℕ → List Op → List ℕ → List ℕ
draw S d [] f = f
draw S d (o ∷ ops) f = draw S d ops (put S.item S.row o.step d o.count o.from o.place f)

-- the ops of a delta for a work buffer of n bytes and a picture of m bytes: 11 for the sizes, 12 for the two buffers, 36 for long
-- data of method 7 where B is not a multiple of 4, then the delta's refusals
unfoldable pub read_frame : ℕ → ℕ → List ℕ → Sizes → Items → Res (List Op)
read_frame n m d z i =
    frame_length z >>= λ l.
    need (eqb m l) 12 >>= λ _.
    need (eqb n l) 12 >>= λ _.
    need (columns_ok i (row_bytes z.width)) 36 >>= λ _.
    read_delta (shape_of z i) d

-- the frame that a delta makes of the picture f in a work buffer of n bytes
unfoldable pub new_frame : ℕ → List ℕ → List ℕ → Sizes → Items → Res (List ℕ)
new_frame n f d z i = read_frame n (length f) d z i >>= λ ops. ok (draw (shape_of z i) d ops f)

-- the number of its ops, as `ops_in` counts them
unfoldable pub op_count : ℕ → List ℕ → List ℕ → Sizes → Items → Res ℕ
op_count n f d z i = read_frame n (length f) d z i >>= λ ops. ok (ops_in (shape_of z i) ops)

-- what a call answers, and what it leaves in the work buffer w: the frame, or what was there before if it is refused
pub record Applies (w f d : List ℕ) (z : Sizes) (i : Items) (answer : Res ℕ) (g : List ℕ) : Type 0 where
  pub counts : answer ≡ op_count (length w) f d z i
  pub leaves : g ≡ or_keep w (new_frame (length w) f d z i)
