-- The C interface (document 01, "Opening, stepping on, stepping back", and document 02, E6): the contract of each exported function, which is
-- what it answers and what it leaves in the buffers. Each has its function's order of arguments: what they hold at entry, the answer, and
-- what the buffers that are written hold at exit. A state is passed as 48 bytes, a report as 40 and a length as 8 (numbers of eight
-- bytes); a slice for one of them of another length is 11, before everything.
use Rattle.std.specs.Prelude.{ℕ, Bool, ◌&&◌, List, [], ◌∷◌, ◌≡◌, eqb, length}
use Rattle.std.proofs.Math.Option.{none}
use Rattle.laws.specs.Result.{Res, Res.ok, Res.fault, leaves, pick}
use Rattle.laws.specs.Store.{with_front}
use Rattle.state.specs.declared.State.{State}
use Rattle.state.specs.declared.Sizes.{Sizes}
use Rattle.state.specs.Film.{Film}
use Rattle.opening.specs.Open.{frame_size, opening, world_opened}
use Rattle.step_on.specs.declared.SteppedOn.{SteppedOn}
use Rattle.state.specs.World.{World}
use Rattle.state.specs.After.{Answer, Answer.refused, Answer.ended, Answer.took_on, Answer.took_back, After, kept, work_after}
use Rattle.step_on.specs.Step.{step_on, on_of}
use Rattle.step_back.specs.Back.{step_back}
use Rattle.shown.specs.Row.{row_place}
use Rattle.writer.specs.Write.{delta_bytes, written, buffer_after}
use Rattle.words.specs.Words.{read_state, state_words, report_words, lay}

-- 0 where there is a value, otherwise the refusal's number
abbrev pub number_or : {A : Type 0} → Res A → ℕ
number_or (ok a) = 0
number_or (fault n) = n

-- 11 unless the slices for state, report or length have their lengths
abbrev pub sized : {A : Type 0} → Bool → Res A → Res A
sized t q = pick t q (fault 11)

-- both pictures, the map and the state as C lends them and gets them back: the state as its bytes
pub record WorldC : Type 0 where
  pub state : List ℕ
  pub a : List ℕ
  pub b : List ℕ
  pub map : List ℕ

-- the same as a world
abbrev pub world_in : WorldC → World
world_in w = record { a = w.a; b = w.b; map = w.map; state = read_state w.state }

-- what an opening that comes to q leaves
abbrev pub opened_c : WorldC → Res Film → WorldC
opened_c w q =
    let o : World = world_opened w.a w.b w.map q in
    record { state = lay w.state (state_words o.state); a = o.a; b = o.b; map = o.map }

pub record LeavesOpenC (q : Res Film) (w : WorldC) (r : ℕ) (w' : WorldC) : Type 0 where
  pub answer : r ≡ number_or q
  pub left : w' ≡ opened_c w q

-- the contract of `anim_open`
abbrev pub OpensC : (file : List ℕ) (w : WorldC) (r : ℕ) (w' : WorldC) → Type 0
OpensC file w r w' =
    LeavesOpenC (sized (eqb (length w.state) 48) (opening file (length w.a) (length w.b) (length w.map))) w r w'

-- a step's answer: 0 taken, 1 End, otherwise the refusal's number
abbrev pub answer_number : Answer → ℕ
answer_number (refused n) = n
answer_number ended = 1
answer_number (took_on r) = 0
answer_number took_back = 0

-- the state's bytes change where a step is taken, the report's where a step on is
abbrev pub state_left : Answer → State → List ℕ → List ℕ
state_left (refused n) s out = out
state_left ended s out = out
state_left (took_on r) s out = lay out (state_words s)
state_left took_back s out = lay out (state_words s)

abbrev pub report_left : Answer → List ℕ → List ℕ
report_left (refused n) out = out
report_left ended out = out
report_left (took_on r) out = lay out (report_words r)
report_left took_back out = out

-- what a step comes to, or 11 for a slice of a wrong length
abbrev pub sized_step : Bool → World → After → After
sized_step t w o = pick t o (kept w (refused 11) none)

-- what is handed over of a step on
pub record HandsOn (o : SteppedOn) (state report : List ℕ) (r : ℕ) (state' report' : List ℕ) : Type 0 where
  pub answer : r ≡ answer_number (on_of o.answer)
  pub state_out : state' ≡ state_left (on_of o.answer) o.state state
  pub report_out : report' ≡ report_left (on_of o.answer) report

-- what C lends to a step on besides the file: both pictures, the map and the state, the work buffer, the record buffer and the report's bytes
pub record LentC : Type 0 where
  pub world : WorldC
  pub work : List ℕ
  pub rec : List ℕ
  pub report : List ℕ

-- both pictures, the map and the state after a step that comes to o
abbrev pub stepped_c : WorldC → After → WorldC
stepped_c w o = record { state = state_left o.answer o.world.state w.state; a = o.world.a; b = o.world.b; map = o.world.map }

-- the same with the work buffer, the record buffer and the report's bytes
abbrev pub left_c : LentC → After → LentC
left_c l o = record {
  world = stepped_c l.world o;
  work = work_after l.work o.work;
  rec = with_front l.rec o.bytes;
  report = report_left o.answer l.report;
}

-- what stepping on comes to, by the state in its slice
abbrev pub on_c : List ℕ → LentC → After
on_c file l =
    sized_step (eqb (length l.world.state) 48 && eqb (length l.report) 40) (world_in l.world)
    (step_on file (world_in l.world) (length l.work) (length l.rec))

-- stepping on that comes to o
pub record LeavesOnC (o : After) (l : LentC) (r : ℕ) (l' : LentC) : Type 0 where
  pub answer : r ≡ answer_number o.answer
  pub left : l' ≡ left_c l o

-- the contract of `anim_step_on`
abbrev pub StepsOnC : (file : List ℕ) (l : LentC) (r : ℕ) (l' : LentC) → Type 0
StepsOnC file l r l' = LeavesOnC (on_c file l) l r l'

-- what stepping back comes to, by the state in its slice
abbrev pub back_c : WorldC → List ℕ → After
back_c w rec = sized_step (eqb (length w.state) 48) (world_in w) (step_back (world_in w) rec)

-- stepping back that comes to o
pub record LeavesBackC (o : After) (w : WorldC) (r : ℕ) (w' : WorldC) : Type 0 where
  pub answer : r ≡ answer_number o.answer
  pub left : w' ≡ stepped_c w o

-- the contract of `anim_step_back`
abbrev pub StepsBackC : (w : WorldC) (rec : List ℕ) (r : ℕ) (w' : WorldC) → Type 0
StepsBackC w rec r w' = LeavesBackC (back_c w rec) w r w'

-- a row's place, or its refusal, with A and B of these lengths
abbrev pub row_c : (plane row : ℕ) (state : List ℕ) (a b : ℕ) → Res ℕ
row_c plane row state a b = sized (eqb (length state) 48) (row_place (read_state state) a b plane row)

-- the place, 0 if the row is refused
abbrev pub place_or : Res ℕ → ℕ
place_or (ok at) = at
place_or (fault n) = 0

-- the slice for a length: the length is written into it where there is one
abbrev pub length_left : List ℕ → Res ℕ → List ℕ
length_left out q = leaves out (λ n. lay out (n ∷ [])) q

-- what C lends to the writer besides the sizes and the pictures: the output buffer, and the slice for the delta's length
pub record OutputC : Type 0 where
  pub out : List ℕ
  pub len : List ℕ

-- writing a delta that comes to q
pub record LeavesDeltaC (q : Res ℕ) (bytes : List ℕ) (l : OutputC) (r : ℕ) (l' : OutputC) : Type 0 where
  pub answer : r ≡ number_or q
  pub left : l' ≡ record { out = buffer_after bytes l.out q; len = length_left l.len q }

-- the sizes as one record
abbrev pub sizes_in : (width height planes : ℕ) → Sizes
sizes_in width height planes = record { width = width; height = height; planes = planes }

-- the contract of `anim_write_delta`
abbrev pub WritesC : (z : Sizes) (old new : List ℕ) (l : OutputC) (r : ℕ) (l' : OutputC) → Type 0
WritesC z old new l r l' = LeavesDeltaC (sized (eqb (length l.len) 8) (written (length l.out) old new z)) (delta_bytes old new z) l r l'

-- asking for the length of a frame that comes to q
pub record LeavesSizeC (q : Res ℕ) (size : List ℕ) (r : ℕ) (size' : List ℕ) : Type 0 where
  pub answer : r ≡ number_or q
  pub size_out : size' ≡ length_left size q

-- the contract of `anim_frame_size`
abbrev pub SizesC : (file size : List ℕ) (r : ℕ) (size' : List ℕ) → Type 0
SizesC file size r size' = LeavesSizeC (sized (eqb (length size) 8) (frame_size file)) size r size'
