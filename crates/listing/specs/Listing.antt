-- The listing of a file (document 01, "Bench examples"): a line for its first picture, a line for each frame that is stepped on to,
-- and `end N` or `refused N` as the last line. Files of more than 65,536 bytes and frames of more than 16,384 bytes are too large;
-- the file's length is looked at before all else, the frame's right after 24. A map is lent to opening and to each step (document 02, E6).
use Rattle.std.specs.Prelude.{ℕ, ◌-◌, ◌≤◌, min, Bool, true, false, ◌&&◌, List, [], ◌++◌, ◌≡◌, leb, length, take, drop, Result, Ok, Err}
use Rattle.laws.specs.Result.{Res, Res.ok, Res.fault, pick}
use Rattle.laws.specs.Loop.{Step, Step.next, Step.done, iterate}
use Rattle.laws.specs.Store.{over}
use Rattle.colours.specs.Colours.{MAP}
use Rattle.state.specs.State.{opened, zeros}
use Rattle.state.specs.Film.{Film}
use Rattle.state.specs.After.{Answer, Answer.refused, Answer.ended, Answer.took_on, Answer.took_back, Lent, lent, lent_after}
use Rattle.opening.specs.Open.{opening, frame_size}
use Rattle.step_on.specs.Step.{step_on}
use Rattle.lines.specs.Lines.{refused_line, end_line, picture_line, frame_line, too_large, line_of}
use Rattle.lines.specs.declared.Line.{Line}

-- what stands while a file is listed: what a step on is lent, and the text so far
pub record Listing : Type 0 where
  pub lent : Lent
  pub text : List ℕ

-- a line more
abbrev pub add_line : Listing → List ℕ → Listing
add_line c line = record { lent = c.lent; text = c.text ++ line }

-- the line of a step's answer, with the frame reached; no step on answers as a step back
abbrev pub step_line : Answer → ℕ → List ℕ
step_line (took_on r) n = frame_line n r
step_line ended n = end_line n
step_line (refused k) n = refused_line k
step_line took_back n = []

-- whether a step on was taken; the line is the last one unless it was
abbrev pub taken : Answer → Bool
taken (took_on r) = true
taken ended = false
taken (refused k) = false
taken took_back = false

abbrev pub line_on : Answer → Listing → Step Listing Listing
line_on x c = pick (taken x) (next (add_line c (step_line x c.lent.world.state.frame))) (done (add_line c (step_line x c.lent.world.state.frame)))

-- one step on, with a work buffer of `size` bytes and a record buffer of `room` bytes
abbrev pub list_step : List ℕ → ℕ → ℕ → Listing → Step Listing Listing
list_step file size room c =
    line_on (step_on file c.lent.world size room).answer (record { lent = lent_after c.lent (step_on file c.lent.world size room); text = c.text })

-- step on until the end or a refusal: the place rises with each step taken
unfoldable pub list_frames : List ℕ → ℕ → ℕ → Listing → Listing
list_frames file size room c = iterate (list_step file size room) (λ d. length file - d.lent.world.state.next) c c

-- A, B, the map, the work buffer and the record buffer
pub record Buffers : Type 0 where
  pub a : List ℕ
  pub b : List ℕ
  pub map : List ℕ
  pub work : List ℕ
  pub rec : List ℕ

abbrev pub buffers_of : Lent → Buffers
buffers_of l = record { a = l.world.a; b = l.world.b; map = l.world.map; work = l.work; rec = l.rec }

-- before anything is listed
abbrev pub unlisted : Buffers → Listing
unlisted l = record { lent = lent l.a l.b l.map zeros l.work l.rec; text = [] }

-- before the first step: the picture's line
abbrev pub begun : Lent → Listing
begun l = record { lent = l; text = picture_line l.world.state.sizes }

-- an opened file: the picture's line, then its frames
unfoldable pub list_opened : List ℕ → ℕ → ℕ → Buffers → Res Film → Listing
list_opened file size room l (ok F) =
    list_frames file size room (begun (lent F.first F.first F.map (opened F.sizes F.start F.end) l.work l.rec))
list_opened file size room l (fault n) = add_line (unlisted l) (refused_line n)

-- a file that is opened with these buffers
unfoldable pub list_film : List ℕ → Buffers → Listing
list_film file l = list_opened file (length l.work) (length l.rec) l (opening file (length l.a) (length l.b) (length l.map))

-- the length of the record buffer: a record has at most twice the frame's bytes and 12 more, and 1,539 for the map (`record_room_lem`), 34,319
-- for the longest frame, so that no step is refused with 51 (`room_enough`)
abbrev pub ROOM : ℕ
ROOM = 65_536

-- the first n bytes of A, B and the work buffer, MAP bytes of the map, and ROOM bytes of the record buffer; the bytes after them stay
abbrev pub front_of : ℕ → Buffers → Buffers
front_of n l = record { a = take n l.a; b = take n l.b; map = take MAP l.map; work = take n l.work; rec = take ROOM l.rec }

abbrev pub with_rest : ℕ → Buffers → Listing → Listing
with_rest n l d = record {
  lent = lent (d.lent.world.a ++ drop n l.a) (d.lent.world.b ++ drop n l.b) (d.lent.world.map ++ drop MAP l.map)
      d.lent.world.state (d.lent.work ++ drop n l.work) (d.lent.rec ++ drop ROOM l.rec);
  text = d.text;
}

-- a file whose frames have n bytes
unfoldable pub list_front : List ℕ → ℕ → Buffers → Listing
list_front file n l = with_rest n l (list_opened file n ROOM (front_of n l) (opening file n n MAP))

-- how a file is listed: by one line, or frame by frame with frames of so many bytes
pub data Planned : Type 0 where
  single : List ℕ → Planned
  pictures : ℕ → Planned

-- by the length of the first picture's frame
abbrev pub plan_sized : Res ℕ → Planned
plan_sized (ok n) = pick (leb n 16_384) (pictures n) (single too_large)
plan_sized (fault n) = single (refused_line n)

unfoldable pub plan_for : List ℕ → Planned
plan_for file = pick (leb (length file) 65_536) (plan_sized (frame_size file)) (single too_large)

abbrev pub plan_of : Result ℕ Line → Planned
plan_of (Err line) = single (line_of line)
plan_of (Ok n) = pictures n

abbrev pub list_planned : List ℕ → Buffers → Planned → Listing
list_planned file l (single line) = add_line (unlisted l) line
list_planned file l (pictures n) = list_front file n l

unfoldable pub list_file : List ℕ → Buffers → Listing
list_file file l = list_planned file l (plan_for file)

-- the text of a file: what the buffers hold makes no difference (`text_same`)
unfoldable pub listing : List ℕ → List ℕ
listing file = (list_file file (record { a = []; b = []; map = []; work = []; rec = [] })).text

-- buffers that are long enough for every file; with others nothing is listed
abbrev pub long_enough : Buffers → Bool
long_enough l = leb 16_384 (length l.a) && leb 16_384 (length l.b) && leb MAP (length l.map) && leb 16_384 (length l.work) && leb ROOM (length l.rec)

unfoldable pub list_lent : List ℕ → Buffers → Listing
list_lent file l = pick (long_enough l) (list_file file l) (unlisted l)

unfoldable pub lent_text : List ℕ → Buffers → List ℕ
lent_text file l = pick (long_enough l) (listing file) []

-- what a listing leaves in the lent buffers: the text stands at the front of `out`, as far as that goes
pub record Lists (c : Listing) (out : List ℕ) (r : ℕ) (l : Buffers) (out' : List ℕ) : Type 0 where
  pub text : out' ≡ over out c.text
  pub count : r ≡ min (length c.text) (length out)
  pub left : l ≡ buffers_of c.lent

-- the contract of listing: the file's text stands at the front of `out`, as far as that goes, and the other buffers are as its steps left them
pub record MeetsList (file : List ℕ) (l : Buffers) (out : List ℕ) (r : ℕ) (l' : Buffers) (out' : List ℕ) : Type 0 where
  pub text : out' ≡ over out (lent_text file l)
  pub count : r ≡ min (length (lent_text file l)) (length out)
  pub most : r ≤ length out'
  pub left : l' ≡ buffers_of (list_lent file l).lent

-- buffers whose front parts a file with frames of n bytes needs
pub record Holds (n a b map work rec : ℕ) : Type 0 where
  pub left : n ≤ a
  pub right : n ≤ b
  pub colours : MAP ≤ map
  pub drawn : n ≤ work
  pub written : ROOM ≤ rec
