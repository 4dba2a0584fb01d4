-- The contracts of `words` and `write_words`: numbers of eight bytes, the lowest byte first, as a C program on x86-64 keeps them. A
-- state is six of them, in the order of document 01, "Opening, stepping on, stepping back": width, height, planes, frame number,
-- next place, end place.
use Rattle.std.specs.Prelude.{ℕ, ◌*◌, ◌/◌, ◌%◌, List, [], ◌∷◌, ◌++◌, eqb, length, take, drop}
use Rattle.laws.specs.Bytes.{word_of}
use Rattle.laws.specs.Result.{pick}
use Rattle.state.specs.State.{zeros}
use Rattle.state.specs.declared.Report.{Report}
use Rattle.state.specs.declared.State.{State}

-- the number in eight bytes from a place on
unfoldable pub le64 : List ℕ → ℕ → ℕ
le64 s at = word_of (take 8 (drop at s))

-- the bytes of a number
unfoldable pub le32_bytes : ℕ → List ℕ
le32_bytes n = n % 256 ∷ n / 256 % 256 ∷ n / 65536 % 256 ∷ n / 16777216 % 256 ∷ []

unfoldable pub le64_bytes : ℕ → List ℕ
le64_bytes n = le32_bytes (n % 4294967296) ++ le32_bytes (n / 4294967296)

-- the bytes of several numbers, one after the other
unfoldable pub words_bytes : List ℕ → List ℕ
words_bytes [] = []
words_bytes (n ∷ ns) = le64_bytes n ++ words_bytes ns

-- the state in 48 bytes; any other number of bytes holds six zeros
unfoldable pub read_state : List ℕ → State
read_state s =
    pick (eqb (length s) 48)
    (record { sizes = record { width = le64 s 0; height = le64 s 8; planes = le64 s 16 }; frame = le64 s 24; next = le64 s 32; end = le64 s 40 })
    zeros

-- the six numbers of a state
unfoldable pub state_words : State → List ℕ
state_words x = x.sizes.width ∷ x.sizes.height ∷ x.sizes.planes ∷ x.frame ∷ x.next ∷ x.end ∷ []

-- the five numbers of a report
unfoldable pub report_words : Report → List ℕ
report_words r = r.method ∷ r.time ∷ r.changed ∷ r.record_length ∷ r.ops ∷ []

-- numbers laid into a buffer of their length; a buffer of another length stays
unfoldable pub lay : List ℕ → List ℕ → List ℕ
lay out ns = pick (eqb (length out) (8 * length ns)) (words_bytes ns) out
