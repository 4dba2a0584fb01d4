-- What the private functions answer: the next run of a record, where a run list ends and what taking it leaves in the buffer, the
-- numbers before the lists, whether both lists lead back, and whether the whole record may be put back at a state. A list that is only
-- checked leaves the buffer as it is.
use Rattle.std.specs.Prelude.{ℕ, ◌+◌, ◌≤◌, Bool, true, false, List, [], ◌≡◌, leb, ltb, eqb, length, take, drop, Option as Answer, Some, None, Result, Ok, Err}
use Rattle.std.proofs.Math.Option.{Option, none, some}
use Rattle.std.proofs.lemmas.List.Edits.{sets}
use Rattle.laws.specs.Result.{Res.ok, Res.fault, pick, ◌>>?◌, given}
use Rattle.refusal.specs.Number.{number_of}
use Rattle.runs.specs.Runs.{Run, differ, all_differ, patch}
use Rattle.record.specs.RunList.{Runs, read_run, runs_back, before_of}
use Rattle.record.specs.Record.{Past, past_of, restored}
use Rattle.refusal.specs.declared.Refusal.{Refusal}
use Rattle.restore.specs.declared.Stored.{Stored}
use Rattle.restore.specs.declared.Header.{Header}
use Rattle.restore.specs.declared.Leads.{Leads}

-- the run at a place of a record, as a reader answers it
pub record RunFound (bytes : List ℕ) (at least room gap count start : ℕ) : Type 0 where
  pub is : read_run least room (drop at bytes) ≡ some (record { run = record { gap = gap; bytes = take count (drop start bytes) }; rest = drop (start + count) bytes })
  pub fits : gap + count ≤ room
  pub inside : start + count ≤ length bytes

abbrev pub RunAt : List ℕ → ℕ → ℕ → ℕ → Answer Stored → Type 0
RunAt bytes at least room (Some r) = RunFound bytes at least room r.gap r.count r.start
RunAt bytes at least room None = read_run least room (drop at bytes) ≡ none

-- the bytes of a run at a place: put back, or compared with those that they replace
pub record RunTaken (f : List ℕ) (to : ℕ) (old : List ℕ) (putting : Bool) (f' : List ℕ) (r : Bool) : Type 0 where
  pub is : r ≡ pick putting true (differ old (drop to f))
  pub left : f' ≡ pick putting (sets f to old) f

-- runs were taken whole
pub record Walked (f : List ℕ) (whole : Option Runs) (putting : Bool) (rest f' : List ℕ) : Type 0 where
  pub runs : List Run
  pub read : whole ≡ some (record { runs = runs; rest = rest })
  pub good : putting ≡ false → all_differ runs f ≡ true
  pub left : f' ≡ pick putting (patch runs f) f

-- they were not
pub record Stopped (f : List ℕ) (whole : Option Runs) (putting : Bool) (f' : List ℕ) : Type 0 where
  pub unread : putting ≡ true → whole ≡ none
  pub bad : putting ≡ false → whole >>? runs_back f ≡ none
  pub kept : putting ≡ false → f' ≡ f

-- what taking runs answers and leaves in a buffer, where the definition reads `whole`
abbrev pub Took : List ℕ → List ℕ → Option Runs → Bool → List ℕ → Answer ℕ → Type 0
Took f bytes whole putting f' (Some next) = Walked f whole putting (drop next bytes) f'
Took f bytes whole putting f' None = Stopped f whole putting f'

-- what a record leads back to, by its two numbers and what stands behind them
unfoldable pub past_from : ℕ → ℕ → List ℕ → List ℕ → List ℕ → Option Past
past_from frame place s shown map =
    before_of s shown >>? λ b.
    before_of b.rest map >>? λ c.
    given (eqb (length c.rest) 0) >>? λ _.
    some (record { frame = frame; place = place; picture = b.buffer; map = c.buffer })

-- the two numbers of a record, as a reader answers them
abbrev pub HeaderAt : List ℕ → Answer Header → Type 0
HeaderAt bytes (Some h) = (shown map : List ℕ) → past_of bytes shown map ≡ past_from h.frame h.place (drop h.list bytes) shown map
HeaderAt bytes None = (shown map : List ℕ) → past_of bytes shown map ≡ none

-- two run lists at places of a record that lead back from the shown picture and the map: the second follows the first and ends the record
pub record Lists (bytes : List ℕ) (list map_list : ℕ) (shown map : List ℕ) : Type 0 where
  pub picture : List ℕ
  pub colours : List ℕ
  pub picture_back : before_of (drop list bytes) shown ≡ some (record { buffer = picture; rest = drop map_list bytes })
  pub colours_back : before_of (drop map_list bytes) map ≡ some (record { buffer = colours; rest = [] })

-- the two run lists at a place of a record, as checking them answers: a record with bad ones leads nowhere, whatever its numbers are
abbrev pub ListsAt : List ℕ → ℕ → List ℕ → List ℕ → Answer ℕ → Type 0
ListsAt bytes list shown map (Some map_list) = Lists bytes list map_list shown map
ListsAt bytes list shown map None = (frame place : ℕ) → past_from frame place (drop list bytes) shown map ≡ none

-- a record's frame is the state's and not the first, and its place is from 12 on and before the state's next place
abbrev pub belongs : ℕ → ℕ → ℕ → ℕ → Bool
belongs reached place frame next = pick (leb 2 reached) (pick (eqb reached frame) (pick (leb 12 place) (ltb place next) false) false) false

-- a record that may be put back at a state: where its run lists stand, and what it restores
pub record LeadsTo (bytes shown map : List ℕ) (frame next place list map_list : ℕ) : Type 0 where
  pub reached : ℕ
  pub lists : Lists bytes list map_list shown map
  pub is : restored bytes shown map frame next ≡ ok (record { frame = reached; place = place; picture = lists.picture; map = lists.colours })

abbrev pub LeadsBack : List ℕ → List ℕ → List ℕ → ℕ → ℕ → Result Leads Refusal → Type 0
LeadsBack bytes shown map frame next (Ok l) = LeadsTo bytes shown map frame next l.place l.list l.map_list
LeadsBack bytes shown map frame next (Err why) = restored bytes shown map frame next ≡ fault (number_of why)
