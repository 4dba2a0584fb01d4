-- The number of each refusal: document 01's table, row by row, with document 02's 37 (E6) and 45 (E5), but for 44, which is retired (E4)
-- and isn't given again.
use Rattle.std.specs.Prelude.{ℕ, Bool, false, ◌||◌, List, [], ◌∷◌, eqb, Result, Ok, Err}
use Rattle.laws.specs.Result.{Res, Res.ok, Res.fault}
use Rattle.refusal.specs.declared.Refusal.{Refusal}
use Rattle.refusal.specs.declared.Refusal.TheVariants.{OutsideLimits, BufferLength, FileTooLong, NoSuchRow, ChunkPastParent, NotFormAnim, NoPicture, BadBmhd, BadBody, NoDelta, ShortAnhd, UnknownMethod, UnknownInterleave, UnknownOptions, OddLongColumns, BadColours, BadPointer, DeltaTooShort, OpPastLastRow, WordPastPlane, NoRoom, LastFrame, BadRecord, OtherRecord}

abbrev pub number_of : Refusal → ℕ
number_of OutsideLimits = 11
number_of BufferLength = 12
number_of FileTooLong = 13
number_of NoSuchRow = 14
number_of ChunkPastParent = 21
number_of NotFormAnim = 22
number_of NoPicture = 23
number_of BadBmhd = 24
number_of BadBody = 25
number_of NoDelta = 31
number_of ShortAnhd = 32
number_of UnknownMethod = 33
number_of UnknownInterleave = 34
number_of UnknownOptions = 35
number_of OddLongColumns = 36
number_of BadColours = 37
number_of BadPointer = 41
number_of DeltaTooShort = 42
number_of OpPastLastRow = 43
number_of WordPastPlane = 45
number_of NoRoom = 51
number_of LastFrame = 53
number_of BadRecord = 61
number_of OtherRecord = 62

-- the numbers that are given, and whether a number is one of them
abbrev pub numbers : List ℕ
numbers = 11 ∷ 12 ∷ 13 ∷ 14 ∷ 21 ∷ 22 ∷ 23 ∷ 24 ∷ 25 ∷ 31 ∷ 32 ∷ 33 ∷ 34 ∷ 35 ∷ 36 ∷ 37 ∷ 41 ∷ 42 ∷ 43 ∷ 45 ∷ 51 ∷ 53 ∷ 61 ∷ 62 ∷ []

abbrev pub among : ℕ → List ℕ → Bool
among n [] = false
among n (m ∷ ms) = eqb n m || among n ms

abbrev pub is_number : ℕ → Bool
is_number n = among n numbers

-- what an answer says in the paper's terms: the value, or the number of the refusal
abbrev pub result_of : {A : Type 0} → Result A Refusal → Res A
result_of (Ok a) = ok a
result_of (Err why) = fault (number_of why)
