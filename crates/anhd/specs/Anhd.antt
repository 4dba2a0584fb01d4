-- ANHD (document 01, "Chunks"): at least 40 bytes; method at 0, relative time at 14, interleave at 18, option bits at 20.
-- Interleave 0 and 2 both mean two frames back, and 1 one frame back (document 02, E7); the first frame's isn't looked at (E1). Methods 2, 3
-- (E5) and 5 want all option bits zero; method 7 wants bits 1 to 31 zero, and bit 0 set means long data. Refusals 32 to 36 in table order.
use Rattle.std.specs.Prelude.{ℕ, ◌/◌, ◌%◌, Bool, true, ◌||◌, List, leb, eqb, length, get_or}
use Rattle.laws.specs.Result.{Res, Res.ok, ◌>>=◌, need, pick}
use Rattle.laws.specs.Bytes.{be32}
use Rattle.anhd.specs.declared.Items.{Items}
use Rattle.anhd.specs.declared.Items.TheVariants.{Bytes, Shorts, Longs, ShortWords, LongWords}
use Rattle.anhd.specs.declared.FrameHeader.{FrameHeader}

-- the methods that are read
abbrev pub method_ok : ℕ → Bool
method_ok method = eqb method 2 || eqb method 3 || eqb method 5 || eqb method 7

-- the interleaves that the first frame, or a later one, takes
abbrev pub interleave_ok : Bool → ℕ → Bool
interleave_ok first interleave = first || leb interleave 2

-- the option bits that a method takes
abbrev pub bits_ok : ℕ → ℕ → Bool
bits_ok method bits = pick (eqb method 7) (eqb (bits / 2) 0) (eqb bits 0)

-- what the items of a method are
abbrev pub items_of : ℕ → ℕ → Items
items_of method bits = pick (eqb method 2) LongWords (pick (eqb method 3) ShortWords (pick (eqb method 5) Bytes (pick (eqb (bits % 2) 1) Longs Shorts)))

-- a row is made of whole columns, unless data is long and B is not a multiple of 4; lists of words have no columns
abbrev pub columns_ok : Items → ℕ → Bool
columns_ok Bytes B = true
columns_ok Shorts B = true
columns_ok Longs B = eqb (B % 4) 0
columns_ok ShortWords B = true
columns_ok LongWords B = true

-- the header of a frame, the first or a later one, whose rows have B bytes
unfoldable pub frame_header : Bool → ℕ → List ℕ → Res FrameHeader
frame_header first B s =
    need (leb 40 (length s)) 32 >>= λ _.
    need (method_ok (get_or s 0 0)) 33 >>= λ _.
    need (interleave_ok first (get_or s 18 0)) 34 >>= λ _.
    need (bits_ok (get_or s 0 0) (be32 s 20)) 35 >>= λ _.
    need (columns_ok (items_of (get_or s 0 0) (be32 s 20)) B) 36 >>= λ _.
    ok (record { method = get_or s 0 0; time = be32 s 14; interleave = get_or s 18 0; items = items_of (get_or s 0 0) (be32 s 20) })
