-- Chunks (document 01, "Chunks"): four id bytes, a big-endian length, the contents, and a pad byte of any value if the
-- length is odd. Header, contents and pad lie inside the parent. Within a frame the first chunk of each id counts.
use Rattle.std.specs.Prelude.{ℕ, ◌+◌, ◌-◌, ◌%◌, Bool, true, false, List, [], ◌∷◌, ◌++◌, ◌≡◌, leb, eqb, length, take, drop, get_or, ◌<◌, Result, Ok, Err, Some, None, Option as Maybe}
use Rattle.std.proofs.Math.Option.{Option, none, some}
use Rattle.laws.specs.Result.{Res, Res.ok, Res.fault, ◌>>=◌, need, pick}
use Rattle.laws.specs.Loop.{Step, Step.next, Step.done, iterate}
use Rattle.laws.specs.Bytes.{be32}
use Rattle.refusal.specs.Number.{number_of, result_of}
use Rattle.refusal.specs.declared.Refusal.{Refusal}
use Rattle.iff.specs.declared.Chunk.{Chunk as ReadChunk}
use Rattle.iff.specs.declared.Part.{Part as FoundPart}
use Rattle.iff.specs.declared.Three.{Three}

-- a whole chunk: its id, where its contents start, their length, and the place after it
pub record Chunk : Type 0 where
  pub id : ℕ
  pub start : ℕ
  pub size : ℕ
  pub next : ℕ

-- contents with their pad byte, if any
abbrev pub padded : ℕ → ℕ
padded size = size + size % 2

-- what stands at a place of a parent: a chunk, nothing at its end, or 21 for a chunk that passes it
unfoldable pub chunk_at : List ℕ → ℕ → Res (Option Chunk)
chunk_at s at =
    pick (leb (length s) at) (ok none)
    (need (leb (at + 8) (length s)) 21 >>= λ _.
    need (leb (at + 8 + padded (be32 s (at + 4))) (length s)) 21 >>= λ _.
    ok (some (record { id = be32 s at; start = at + 8; size = be32 s (at + 4); next = at + 8 + padded (be32 s (at + 4)) })))

-- a walk through a parent: the place, and the chunks before it
pub record Walk : Type 0 where
  pub at : ℕ
  pub passed : List Chunk

-- one turn: past a chunk, or to the answer where the parent ends or a chunk passes it
abbrev pub walk_on : Walk → Res (Option Chunk) → Step Walk (Res (List Chunk))
walk_on w (ok (some c)) = next (record { at = c.next; passed = w.passed ++ (c ∷ []) })
walk_on w (ok none) = done (ok w.passed)
walk_on w (fault n) = done (fault n)

abbrev pub walk_step : List ℕ → Walk → Step Walk (Res (List Chunk))
walk_step s w = walk_on w (chunk_at s w.at)

-- the chunks of a parent in order, or 21: it is walked to its end
unfoldable pub chunks : List ℕ → Res (List Chunk)
chunks s = iterate (walk_step s) (λ w. length s - w.at) (fault 21) (record { at = 0; passed = [] })

-- where the contents of a chunk stand in its parent
pub record Part : Type 0 where
  pub start : ℕ
  pub size : ℕ

abbrev pub part_of : Chunk → Part
part_of c = record { start = c.start; size = c.size }

-- the first chunk of an id, if there is one
abbrev pub first : List Chunk → ℕ → Option Part
first [] id = none
first (c ∷ cs) id = pick (eqb c.id id) (some (part_of c)) (first cs id)

-- the same in a parent
unfoldable pub find : List ℕ → ℕ → Res (Option Part)
find s id = chunks s >>= λ cs. ok (first cs id)

-- whether a parent has a chunk of an id
abbrev pub is_there : Option Part → Bool
is_there (some p) = true
is_there none = false

abbrev pub has : List ℕ → ℕ → Res Bool
has s id = find s id >>= λ o. ok (is_there o)

-- the bytes of a part
abbrev pub bytes_of : List ℕ → Part → List ℕ
bytes_of s p = take p.size (drop p.start s)

-- the contents of the first chunk of an id, as a part of the parent; an empty part where there is none
abbrev pub found_in : List ℕ → Res (Option Part) → List ℕ
found_in s (ok (some p)) = bytes_of s p
found_in s (ok none) = []
found_in s (fault n) = []

unfoldable pub contents : List ℕ → ℕ → List ℕ
contents s id = found_in s (find s id)

-- what the answers say in the paper's terms
abbrev pub chunk_of : Maybe ReadChunk → Option Chunk
chunk_of (Some c) = some (record { id = c.id; start = c.start; size = c.len; next = c.next })
chunk_of None = none

abbrev pub standing_of : Result (Maybe ReadChunk) Refusal → Res (Option Chunk)
standing_of (Ok o) = ok (chunk_of o)
standing_of (Err why) = fault (number_of why)

abbrev pub place_of : Maybe FoundPart → Option Part
place_of (Some p) = some (record { start = p.start; size = p.len })
place_of None = none

abbrev pub found_of : Result (Maybe FoundPart) Refusal → Res (Option Part)
found_of (Ok o) = ok (place_of o)
found_of (Err why) = fault (number_of why)

-- the first chunks of ids, found in one walk
pub record FindsAll (s ids : List ℕ) (r : Result (List (Maybe FoundPart)) Refusal) : Type 0 where
  pub each : (k : ℕ) → k < length ids → (result_of r >>= λ found. ok (place_of (get_or found k None))) ≡ find s (get_or ids k 0)

-- those of three
pub record FindsThree (s : List ℕ) (x y z : ℕ) (r : Result Three Refusal) : Type 0 where
  pub first : (result_of r >>= λ t. ok (place_of t.first)) ≡ find s x
  pub second : (result_of r >>= λ t. ok (place_of t.second)) ≡ find s y
  pub third : (result_of r >>= λ t. ok (place_of t.third)) ≡ find s z

-- the part found already, or this one if there is none
abbrev pub or_part : Res (Option Part) → Part → Res (Option Part)
or_part (ok none) p = ok (some p)
or_part (ok (some q)) p = ok (some q)
or_part (fault n) p = fault n
