-- The step record (document 01, "Opening, stepping on, stepping back", and document 02, E6): the frame number reached, the next place before
-- the step, the run list of the hidden picture before and after, and that of the map before and after. It depends on the two numbers, the two
-- pictures and the two maps only.
use Rattle.std.specs.Prelude.{ℕ, ◌*◌, List, ◌++◌, ◌≡◌, leb, ltb, eqb, length, Result, Ok, Err}
use Rattle.std.proofs.Math.Option.{Option, some}
use Rattle.laws.specs.Result.{Res, Res.ok, Res.fault, ◌>>=◌, need, or_refuse, leaves, ◌>>?◌, given}
use Rattle.laws.specs.Store.{with_front}
use Rattle.number.specs.Number.{read_number, write_number}
use Rattle.refusal.specs.Number.{number_of}
use Rattle.colours.specs.Colours.{MAP, coloured}
use Rattle.runs.specs.Runs.{runs_of, differing}
use Rattle.record.specs.RunList.{list_bytes, before_of}
use Rattle.record.specs.declared.Recorded.{Recorded}
use Rattle.refusal.specs.declared.Refusal.{Refusal}

-- the picture part of a record: the two numbers, and the run list of the picture
unfoldable pub picture_bytes : ℕ → ℕ → List ℕ → List ℕ → List ℕ
picture_bytes frame place old new = write_number frame ++ write_number place ++ list_bytes (runs_of old new)

-- the map part: the run list of the map
unfoldable pub map_bytes : List ℕ → List ℕ → List ℕ
map_bytes old new = list_bytes (runs_of old new)

-- the bytes of a record, by the two numbers, the pictures and the maps
unfoldable pub record_bytes : ℕ → ℕ → List ℕ → List ℕ → List ℕ → List ℕ → List ℕ
record_bytes frame place old new map map' = picture_bytes frame place old new ++ map_bytes map map'

-- a record's length and the number of bytes of the picture that changed: what a written record is answered with
pub record Measure : Type 0 where
  pub length : ℕ
  pub changed : ℕ

unfoldable pub measure : ℕ → ℕ → List ℕ → List ℕ → List ℕ → List ℕ → Measure
measure frame place old new map map' = record { length = length (record_bytes frame place old new map map'); changed = differing old new }

-- the record of a step to a frame with this CMAP, written into a buffer of room bytes: 12 for pictures of two lengths or longer than a frame
-- can be, and for a map that isn't 768 bytes long, then 51
unfoldable pub written : ℕ → ℕ → ℕ → List ℕ → List ℕ → List ℕ → List ℕ → Res Measure
written room frame place old new map cmap =
    need (eqb (length old) (length new)) 12 >>= λ _.
    need (leb (length old) (8 * 1024 * 128)) 12 >>= λ _.
    need (eqb (length map) MAP) 12 >>= λ _.
    need (leb (length (record_bytes frame place old new map (coloured map cmap))) room) 51 >>= λ _.
    ok (measure frame place old new map (coloured map cmap))

-- what recording a step answers, and what it leaves in the record buffer, in the hidden buffer and in the map
pub record Commits (out : List ℕ) (frame place : ℕ) (old new map cmap : List ℕ) (r : Res Measure) (out' old' map' : List ℕ) : Type 0 where
  pub answer : r ≡ written (length out) frame place old new map cmap
  pub bytes : out' ≡ leaves out (λ m. with_front out (record_bytes frame place old new map (coloured map cmap))) r
  pub picture : old' ≡ leaves old (λ m. new) r
  pub colours : map' ≡ leaves map (λ m. coloured map cmap) r

-- what a record leads back to
pub record Past : Type 0 where
  pub frame : ℕ
  pub place : ℕ
  pub picture : List ℕ
  pub map : List ℕ

-- none if a number or a list is malformed, there are bytes left over, or an old byte equals the one it replaces
unfoldable pub past_of : List ℕ → List ℕ → List ℕ → Option Past
past_of bytes shown map =
    read_number bytes >>? λ f.
    read_number f.rest >>? λ p.
    before_of p.rest shown >>? λ b.
    before_of b.rest map >>? λ c.
    given (eqb (length c.rest) 0) >>? λ _.
    some (record { frame = f.value; place = p.value; picture = b.buffer; map = c.buffer })

-- a record put back at a frame number and a next place: 61, then 62
unfoldable pub restored : List ℕ → List ℕ → List ℕ → ℕ → ℕ → Res Past
restored bytes shown map frame next =
    or_refuse 61 (past_of bytes shown map) >>= λ p.
    need (leb 2 p.frame) 62 >>= λ _.
    need (eqb p.frame frame) 62 >>= λ _.
    need (leb 12 p.place) 62 >>= λ _.
    need (ltb p.place next) 62 >>= λ _.
    ok p

-- what the answer says in the paper's terms
abbrev pub recorded_of : Result Recorded Refusal → Res Measure
recorded_of (Ok r) = ok (record { length = r.length; changed = r.changed })
recorded_of (Err why) = fault (number_of why)
