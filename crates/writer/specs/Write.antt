-- A method 5 delta that is written (document 01, "The writer"), given the old and the new frame and their sizes. Equal planes
-- get pointer 0; the others' lists follow from place 64 in plane order. The second eight pointers are 0.
use Rattle.std.specs.Prelude.{ℕ, zero, suc, ◌+◌, ◌-◌, ◌*◌, ◌/◌, Bool, true, false, List, [], ◌∷◌, ◌++◌, ◌≡◌, leb, eqb, length, get_or, take, drop, replicate}
use Rattle.laws.specs.Bytes.{be32_bytes}
use Rattle.laws.specs.Result.{Res, Res.ok, ◌>>=◌, need, leaves}
use Rattle.state.specs.State.{row_bytes, frame_length}
use Rattle.state.specs.declared.Sizes.{Sizes}
use Rattle.column_writer.specs.Column.{column_bytes}

-- the column that starts at a place of a frame, n rows
unfoldable pub column_at : List ℕ → ℕ → ℕ → ℕ → List ℕ
column_at f row at zero = []
column_at f row at (suc n) = get_or f at 0 ∷ column_at f row (at + row) n

-- the bytes of the column that starts at a place of two frames
unfoldable pub column_in : List ℕ → List ℕ → ℕ → ℕ → ℕ → List ℕ
column_in old new row height at = column_bytes (column_at old row at height) (column_at new row at height)

-- k columns, from the one that starts at a place on
unfoldable pub columns_bytes : List ℕ → List ℕ → ℕ → ℕ → ℕ → ℕ → List ℕ
columns_bytes old new row height zero at = []
columns_bytes old new row height (suc k) at = column_in old new row height at ++ columns_bytes old new row height k (at + 1)

-- whether two planes are equal
unfoldable pub planes_equal : List ℕ → List ℕ → Bool
planes_equal [] [] = true
planes_equal [] (b ∷ t) = false
planes_equal (a ∷ s) [] = false
planes_equal (a ∷ s) (b ∷ t) = elim (eqb a b) [ true ↦ planes_equal s t | false ↦ false ]

-- the list of the plane that starts at a place: nothing if the plane is unchanged
unfoldable pub plane_bytes : List ℕ → List ℕ → ℕ → ℕ → ℕ → List ℕ
plane_bytes old new row height at =
    elim (planes_equal (take (height * row) (drop at old)) (take (height * row) (drop at new))) [ true ↦ [] | false ↦ columns_bytes old new row height row at ]

-- a plane's pointer: its list's place, or 0 where there is none
unfoldable pub plane_pointer : ℕ → List ℕ → ℕ
plane_pointer place [] = 0
plane_pointer place (b ∷ s) = place

-- the pointers of k planes, from the plane that starts at `at`, whose list would stand at `place`; and the lists
unfoldable pub pointers_bytes : List ℕ → List ℕ → ℕ → ℕ → ℕ → ℕ → ℕ → List ℕ
pointers_bytes old new row height zero at place = []
pointers_bytes old new row height (suc k) at place =
    be32_bytes (plane_pointer place (plane_bytes old new row height at))
    ++ pointers_bytes old new row height k (at + height * row) (place + length (plane_bytes old new row height at))

unfoldable pub lists_bytes : List ℕ → List ℕ → ℕ → ℕ → ℕ → ℕ → List ℕ
lists_bytes old new row height zero at = []
lists_bytes old new row height (suc k) at = plane_bytes old new row height at ++ lists_bytes old new row height k (at + height * row)

-- sixteen pointers, those past the planes 0, and the lists from 64 on
unfoldable pub delta_bytes : List ℕ → List ℕ → Sizes → List ℕ
delta_bytes old new z =
    pointers_bytes old new (row_bytes z.width) z.height z.planes 0 64
    ++ replicate (64 - 4 * z.planes) 0
    ++ lists_bytes old new (row_bytes z.width) z.height z.planes 0

-- the delta's length in an output buffer of room bytes: 11 for the sizes, 12 for the frames, 51 if it doesn't fit
unfoldable pub written : ℕ → List ℕ → List ℕ → Sizes → Res ℕ
written room old new z =
    frame_length z >>= λ n.
    need (eqb (length old) n) 12 >>= λ _.
    need (eqb (length new) n) 12 >>= λ _.
    need (leb (length (delta_bytes old new z)) room) 51 >>= λ _.
    ok (length (delta_bytes old new z))

-- the buffer after it: bytes past the delta stay
abbrev pub buffer_after : List ℕ → List ℕ → Res ℕ → List ℕ
buffer_after bytes out q = leaves out (λ _. bytes ++ drop (length bytes) out) q

-- what a call answers, and what it leaves in the output buffer
pub record Writes (out old new : List ℕ) (z : Sizes) (answer : Res ℕ) (out' : List ℕ) : Type 0 where
  pub answers : answer ≡ written (length out) old new z
  pub leaves : out' ≡ buffer_after (delta_bytes old new z) out (written (length out) old new z)

-- the longest column
abbrev pub longest : ℕ → ℕ
longest height = height + height / 2 + 2
