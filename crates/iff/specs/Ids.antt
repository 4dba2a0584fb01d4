-- The ids of chunks and the types of FORMs (document 01, "Chunks"): four letters each, as a number.
use Rattle.std.specs.Prelude.{ℕ, ◌+◌, ◌*◌}
use Prim.Native.Char.{code}
use Prim.Native.String.{String, char_at}

-- four letters as a number, the first the highest
abbrev pub id_of : String → ℕ
id_of s = code (char_at s 0) * 16777216 + code (char_at s 1) * 65536 + code (char_at s 2) * 256 + code (char_at s 3)

abbrev pub FORM : ℕ
FORM = id_of "FORM"

abbrev pub ANIM : ℕ
ANIM = id_of "ANIM"

abbrev pub ILBM : ℕ
ILBM = id_of "ILBM"

abbrev pub BMHD : ℕ
BMHD = id_of "BMHD"

abbrev pub BODY : ℕ
BODY = id_of "BODY"

abbrev pub CMAP : ℕ
CMAP = id_of "CMAP"

abbrev pub ANHD : ℕ
ANHD = id_of "ANHD"

abbrev pub DLTA : ℕ
DLTA = id_of "DLTA"
