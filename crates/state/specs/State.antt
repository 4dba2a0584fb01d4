-- The state, its limits and the length of a frame (document 01, "Numbers that bound the work"; 11 and 12 of "Refusal numbers"; document 02,
-- E6).
use Rattle.std.specs.Prelude.{ℕ, ◌+◌, ◌*◌, ◌/◌, ◌≤◌, Bool, ◌&&◌, ◌≡◌, leb, eqb}
use Rattle.laws.specs.Result.{Res, Res.ok, ◌>>=◌, need}
use Rattle.colours.specs.Colours.{MAP}
use Rattle.state.specs.declared.Sizes.{Sizes}
use Rattle.state.specs.declared.State.{State}

-- a number from least to most
abbrev pub within : ℕ → ℕ → ℕ → Bool
within least most x = leb least x && leb x most

-- B, the bytes per row
unfoldable pub row_bytes : ℕ → ℕ
row_bytes width = 2 * ((width + 15) / 16)

-- a frame is planes × height × B bytes
unfoldable pub frame_bytes : Sizes → ℕ
frame_bytes z = z.planes * (z.height * row_bytes z.width)

-- the length of a frame of given sizes, or 11 for sizes outside the limits
unfoldable pub frame_length : Sizes → Res ℕ
frame_length z =
    need (within 1 1024 z.width) 11 >>= λ _.
    need (within 1 1024 z.height) 11 >>= λ _.
    need (within 1 8 z.planes) 11 >>= λ _.
    ok (frame_bytes z)

-- the same for a whole state: frame 1 to 1,000,000 and 12 ≤ next ≤ end ≤ 2,147,483,647 besides
unfoldable pub state_length : State → Res ℕ
state_length s =
    need (within 1 1_000_000 s.frame) 11 >>= λ _.
    need (within 12 s.end s.next) 11 >>= λ _.
    need (leb s.end 2_147_483_647) 11 >>= λ _.
    frame_length s.sizes

-- the same where A and B, of so many bytes, are lent: 12 for a buffer of another length than a frame's
unfoldable pub lent_length : State → ℕ → ℕ → Res ℕ
lent_length s a b =
    state_length s >>= λ n.
    need (eqb a n) 12 >>= λ _.
    need (eqb b n) 12 >>= λ _.
    ok n

-- the same where a map, of so many bytes, is lent too: 12 for one that isn't 768 bytes long
unfoldable pub step_length : State → ℕ → ℕ → ℕ → Res ℕ
step_length s a b map =
    lent_length s a b >>= λ n.
    need (eqb map MAP) 12 >>= λ _.
    ok n

-- the state after opening
abbrev pub opened : Sizes → ℕ → ℕ → State
opened z next end = record { sizes = z; frame = 1; next = next; end = end }

-- the state of nothing opened
abbrev pub zeros : State
zeros = record { sizes = record { width = 0; height = 0; planes = 0 }; frame = 0; next = 0; end = 0 }

-- the state after a step to another frame: sizes and end place stay
abbrev pub moved : State → ℕ → ℕ → State
moved s frame place = record { sizes = s.sizes; frame = frame; next = place; end = s.end }

-- sizes within the limits, and what follows of the lengths
pub record Sound (z : Sizes) (n : ℕ) : Type 0 where
  pub width_least : 1 ≤ z.width
  pub width_most : z.width ≤ 1024
  pub height_least : 1 ≤ z.height
  pub height_most : z.height ≤ 1024
  pub planes_least : 1 ≤ z.planes
  pub planes_most : z.planes ≤ 8
  pub row_least : 2 ≤ row_bytes z.width
  pub row_most : row_bytes z.width ≤ 128
  pub plane_most : z.height * row_bytes z.width ≤ 1024 * 128
  pub length : n ≡ frame_bytes z
  pub length_most : n ≤ 8 * 1024 * 128
