-- The numbers of a record (document 01, "Opening, stepping on, stepping back"): groups of seven bits, low group first, top bit set
-- on all but the last group, shortest form only, below 2^32.
use Rattle.std.specs.Prelude.{ℕ, zero, suc, ◌+◌, ◌-◌, ◌*◌, ◌/◌, ◌%◌, ◌^◌, ◌≤◌, Bool, true, false, List, [], ◌∷◌, ◌≡◌, ltb, leb, eqb, length, drop, Option as Answer, Some, None}
use Rattle.std.proofs.Math.Option.{Option, none, some}
use Rattle.std.proofs.lemmas.List.Edits.{sets}
use Rattle.laws.specs.Result.{pick, ◌>>?◌, given}
use Rattle.number.specs.declared.Number.{Number}

-- a number that was read, and the bytes after it
pub record Value : Type 0 where
  pub value : ℕ
  pub rest : List ℕ

-- the last group b, at weight m, after groups that come to a: the sum is below 2^32, and b is 0 only where it is the only group
unfoldable pub last_group : ℕ → ℕ → ℕ → List ℕ → Option Value
last_group m a b s =
    given (ltb (a + m * b) (2 ^ 32)) >>? λ _.
    given (pick (eqb m 1) true (ltb 0 b)) >>? λ _.
    some (record { value = a + m * b; rest = s })

-- at most k groups from the front of s, at weight m, after groups that come to a
unfoldable pub groups : ℕ → ℕ → ℕ → List ℕ → Option Value
groups zero m a s = none
groups (suc k) m a [] = none
groups (suc k) m a (b ∷ s) = elim (ltb b 128) [ true ↦ last_group m a b s | false ↦ groups k (m * 128) (a + m * (b - 128)) s ]

-- the number at the front of s, or none if it is malformed: it ends early, isn't in shortest form, or reaches 2^32
unfoldable pub read_number : List ℕ → Option Value
read_number s = groups 5 1 0 s

-- n in at most suc k groups
unfoldable pub write_groups : ℕ → ℕ → List ℕ
write_groups zero n = n ∷ []
write_groups (suc k) n = elim (ltb n 128) [ true ↦ n ∷ [] | false ↦ (128 + n % 128) ∷ write_groups k (n / 128) ]

-- the bytes of a number below 2^32
unfoldable pub write_number : ℕ → List ℕ
write_number n = write_groups 4 n

-- an answer's value and the bytes after it, which are those from the next place on; of None a record's reader makes 61
abbrev pub read_of : List ℕ → Answer Number → Option Value
read_of s (Some n) = some (record { value = n.value; rest = drop n.next s })
read_of s None = none

-- the next place lies in s, or at its end
abbrev pub Within : List ℕ → Answer Number → Type 0
Within s (Some n) = n.next ≤ length s
Within s None = Unit

-- what reading at a place of s answers
pub record ReadAt (s : List ℕ) (at : ℕ) (r : Answer Number) : Type 0 where
  pub is : read_of s r ≡ read_number (drop at s)
  pub within : Within s r

-- whether bytes fit at a place of a buffer
unfoldable pub fits : List ℕ → ℕ → List ℕ → Bool
fits out at bytes = leb (at + length bytes) (length out)

-- the buffer with the bytes at that place, or as it was if they don't fit
unfoldable pub laid : List ℕ → ℕ → List ℕ → List ℕ
laid out at bytes = pick (fits out at bytes) (sets out at bytes) out

-- the place after them, or none if they don't fit
unfoldable pub after : List ℕ → ℕ → List ℕ → Option ℕ
after out at bytes = pick (fits out at bytes) (some (at + length bytes)) none

-- an answer's place; None is none, which a record's writer never comes to, since it gives 51 first
abbrev pub written_of : Answer ℕ → Option ℕ
written_of (Some at) = some at
written_of None = none
