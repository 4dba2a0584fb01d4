-- BMHD (document 01, "Chunks"): 20 bytes; width and height two bytes each at 0 and 2, planes at 8, masking at 9,
-- compression at 10. Masking 1 and compression above 1 are refused. Every fault of it is 24.
use Rattle.std.specs.Prelude.{ℕ, not, List, leb, eqb, length, get_or}
use Rattle.laws.specs.Result.{Res, Res.ok, Res.fault, ◌>>=◌, need}
use Rattle.laws.specs.Bytes.{be16}
use Rattle.state.specs.State.{frame_length}
use Rattle.state.specs.declared.Sizes.{Sizes}
use Rattle.bmhd.specs.declared.Header.{Header}

-- the sizes that a BMHD gives, within the limits or not
abbrev pub sizes_at : List ℕ → Sizes
sizes_at s = record { width = be16 s 0; height = be16 s 2; planes = get_or s 8 0 }

-- any refusal becomes this one
abbrev pub refused_as : {A : Type 0} → ℕ → Res A → Res A
refused_as n (ok a) = ok a
refused_as n (fault m) = fault n

-- the picture's sizes, the length of a frame, and whether BODY is packed; or 24
unfoldable pub bitmap_header : List ℕ → Res Header
bitmap_header s =
    need (eqb (length s) 20) 24 >>= λ _.
    refused_as 24 (frame_length (sizes_at s)) >>= λ n.
    need (not (eqb (get_or s 9 0) 1)) 24 >>= λ _.
    need (leb (get_or s 10 0) 1) 24 >>= λ _.
    ok (record { sizes = sizes_at s; length = n; packed = eqb (get_or s 10 0) 1 })
