-- The colour map (document 02, E6): 256 colours of three bytes, zero where never set. A CMAP replaces as many colours as it has and no
-- others.
use Rattle.std.specs.Prelude.{ℕ, ◌%◌, Bool, ◌&&◌, List, leb, eqb, length, replicate}
use Rattle.laws.specs.Result.{Res, Res.ok, ◌>>=◌, need}
use Rattle.laws.specs.Store.{over}

-- the bytes of a map
abbrev pub MAP : ℕ
MAP = 768

-- a map of which no colour was set
abbrev pub unset : List ℕ
unset = replicate MAP 0

-- whether a CMAP may have so many bytes: whole colours, and no more than a map has
unfoldable pub good_length : ℕ → Bool
good_length n = eqb (n % 3) 0 && leb n MAP

-- the colours of a frame, by the contents of its CMAP, which are empty where it has none: 37 for a length that isn't a multiple of 3 or is
-- above 768
unfoldable pub colours : List ℕ → Res (List ℕ)
colours cmap =
    need (good_length (length cmap)) 37 >>= λ _.
    ok cmap

-- a map with the colours of a CMAP in the place of its first ones
abbrev pub coloured : List ℕ → List ℕ → List ℕ
coloured map cmap = over map cmap
