-- The lines of a listing (document 01, "Bench examples"), as their bytes, and how they are added to a text.
use Rattle.std.specs.Prelude.{ℕ, zero, suc, ◌+◌, ◌/◌, ◌%◌, ◌≤◌, min, true, false, List, [], ◌∷◌, ◌++◌, ◌≡◌, ltb, length, take, drop}
use Prim.Native.Char.{code}
use Prim.Native.String.{String, [] as none, ◌∷◌ as ◌then◌}
use Rattle.laws.specs.Store.{over}
use Rattle.state.specs.declared.Sizes.{Sizes}
use Rattle.state.specs.declared.Report.{Report}
use Rattle.refusal.specs.Number.{number_of}
use Rattle.lines.specs.declared.Line.{Line}
use Rattle.lines.specs.declared.Line.TheVariants.{TooLarge, Picture, Frame, End, Refused}

-- the bytes of a text
abbrev pub ascii : String → List ℕ
ascii none = []
ascii (c then s) = code c ∷ ascii s

-- a number in decimal, of at most so many digits; and in as many as it has
abbrev pub digits : ℕ → ℕ → List ℕ
digits zero n = []
digits (suc k) n = elim (ltb n 10) [ true ↦ (48 + n) ∷ [] | false ↦ digits k (n / 10) ++ ((48 + n % 10) ∷ []) ]

unfoldable pub decimal : ℕ → List ℕ
decimal n = digits (suc n) n

-- a word and a number
abbrev pub field : String → ℕ → List ℕ
field word n = ascii word ++ decimal n

abbrev pub newline : List ℕ
newline = 10 ∷ []

-- the whole output for a file or a frame that is too large
abbrev pub too_large : List ℕ
too_large = ascii "too large\n"

-- the last line of a file that is refused
unfoldable pub refused_line : ℕ → List ℕ
refused_line n = field "refused " n ++ newline

-- the last line of a file that ends at frame n
unfoldable pub end_line : ℕ → List ℕ
end_line n = field "end " n ++ newline

-- the first line: the picture's sizes
unfoldable pub picture_line : Sizes → List ℕ
picture_line z = field "picture " z.width ++ field "x" z.height ++ field "x" z.planes ++ newline

-- frame n, and what stepping on reported of it
unfoldable pub frame_line : ℕ → Report → List ℕ
frame_line n r =
    field "frame " n ++ field " method " r.method ++ field " time " r.time ++ field " changed " r.changed ++ field " record " r.record_length ++ newline

-- the text of each line
abbrev pub line_of : Line → List ℕ
line_of TooLarge = too_large
line_of (Picture z) = picture_line z
line_of (Frame n r) = frame_line n r
line_of (End n) = end_line n
line_of (Refused why) = refused_line (number_of why)

-- bytes added to a buffer at a place, as far as it goes, and the place after them
pub record Adds (out : List ℕ) (at : ℕ) (bytes out' : List ℕ) (next : ℕ) : Type 0 where
  pub from : at ≤ length out
  pub place : next ≡ min (at + length bytes) (length out)
  pub left : out' ≡ take at out ++ over (drop at out) bytes
