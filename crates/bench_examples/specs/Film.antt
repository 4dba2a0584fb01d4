-- A film of 16 × 2 pixels and one plane: frame 1 is four zero bytes, and frame 2, whose FORM stands at 64, has a delta.
use Rattle.std.specs.Prelude.{ℕ, ◌%◌, List, ◌∷◌, ◌++◌, length, replicate}
use Rattle.laws.specs.Bytes.{be32_bytes}
use Rattle.iff.specs.Ids.{FORM, ANIM, ILBM, BMHD, BODY, ANHD, DLTA}

-- a chunk, with its pad
abbrev chunk_of : ℕ → List ℕ → List ℕ
chunk_of id s = be32_bytes id ++ be32_bytes (length s) ++ s ++ replicate (length s % 2) 0

-- BMHD: 16 × 2 pixels, one plane, no masking, not packed
abbrev sixteen_by_two : List ℕ
sixteen_by_two = 0 ∷ 16 ∷ 0 ∷ 2 ∷ 0 ∷ 0 ∷ 0 ∷ 0 ∷ 1 ∷ replicate 11 0

-- ANHD: method 5, relative time 3
abbrev time_three : List ℕ
time_three = 5 ∷ replicate 16 0 ++ (3 ∷ replicate 22 0)

unfoldable pub two_frames : List ℕ → List ℕ
two_frames dlta =
    chunk_of FORM
    (be32_bytes ANIM
    ++ chunk_of FORM (be32_bytes ILBM ++ chunk_of BMHD sixteen_by_two ++ chunk_of BODY (replicate 4 0))
    ++ chunk_of FORM (be32_bytes ILBM ++ chunk_of ANHD time_three ++ chunk_of DLTA dlta))
