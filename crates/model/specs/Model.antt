-- The model of demand 3 (document 01, "Opening, stepping on, stepping back", and document 02, E1 and E5 to E8). It is fed the file and the
-- calls in order, and holds a number n, at first 1. Here m is n − 1: picture m + 1 is shown at n, and picture m hidden, where picture 0 is
-- picture 1 too.
-- With opening and the steps it shares the readings of chunks, BMHD, BODY, ANHD, CMAP, deltas and records, what ops draw, what a CMAP makes of a
-- map, the bytes of a record, the lengths of a row and of a frame, how many bytes differ, what an odd number is, the ids of chunks, and the
-- types of what a file fixes, of what is handed on and of what is answered; and nothing of what an opening or a step comes to.
use Rattle.std.specs.Prelude.{ℕ, zero, suc, true, ◌||◌, List, [], ◌∷◌, leb, ltb, eqb, length, take, replicate}
use Rattle.std.proofs.Math.Option.{Option, none, some}
use Rattle.laws.specs.Result.{Res, Res.ok, Res.fault, ◌>>=◌, or_refuse, pick, or_keep}
use Rattle.state.specs.State.{row_bytes, frame_bytes}
use Rattle.state.specs.declared.Sizes.{Sizes}
use Rattle.state.specs.Film.{Film}
use Rattle.iff.specs.Ids.{BMHD, BODY, CMAP, ANHD, DLTA}
use Rattle.iff.specs.Chunk.{has, contents}
use Rattle.form.specs.Form.{chunks_of, anim_end, next_form}
use Rattle.bmhd.specs.Header.{bitmap_header}
use Rattle.bmhd.specs.declared.Header.{Header}
use Rattle.body.specs.Body.{body}
use Rattle.anhd.specs.Anhd.{frame_header}
use Rattle.delta.specs.Reading.{shape_of, Op}
use Rattle.delta.specs.Delta.{read_delta, draw}
use Rattle.colours.specs.Colours.{unset, coloured}
use Rattle.runs.specs.Runs.{differing}
use Rattle.record.specs.Record.{record_bytes, Past, past_of}
use Rattle.frame.specs.Frame.{Frame, frame_at}
use Rattle.state.specs.World.{World, is_odd}
use Rattle.state.specs.declared.Report.{Report}
use Rattle.state.specs.After.{Answer, Answer.refused, Answer.ended, Answer.took_on, Answer.took_back}

-- a call, with what it is lent besides the file, the pictures, the map and the state: the lengths of the work and record buffers, or bytes
pub data Call : Type 0 where
  on : ℕ → ℕ → Call
  back : List ℕ → Call

-- what is seen after a call: its answer, the pictures, the map and the state, and a taken step on's record
pub record Seen : Type 0 where
  pub answer : Answer
  pub world : World
  pub bytes : List ℕ

-- what frame 1's delta, by its ANHD and DLTA, makes of an all-zero picture; its interleave isn't looked at
unfoldable pub on_zeros : Sizes → List ℕ → List ℕ → Res (List ℕ)
on_zeros z anhd dlta =
    frame_header true (row_bytes z.width) anhd >>= λ h.
    read_delta (shape_of z h.items) dlta >>= λ ops.
    ok (draw (shape_of z h.items) dlta ops (replicate (frame_bytes z) 0))

-- picture 1, by the chunks of frame 1 and its BMHD: the BODY unpacked if there is one, or else what the delta makes
unfoldable pub picture_one : List ℕ → Header → Res (List ℕ)
picture_one s z =
    has s BODY >>= λ t.
    pick t (body (contents s BODY) z.sizes z.packed) (on_zeros z.sizes (contents s ANHD) (contents s DLTA))

-- the map at frame 1: zeros, with the colours of its CMAP
abbrev pub map_one : List ℕ → List ℕ
map_one s = coloured unset (contents s CMAP)

-- what a file fixes; frame 1 is the first FORM ILBM of FORM ANIM. Which files are refused, and with which number, is opening's to say: demand 3
-- speaks of files that were opened
unfoldable pub film : List ℕ → Res Film
film file =
    anim_end file >>= λ end.
    next_form (take end file) 12 >>= λ o.
    or_refuse 23 o >>= λ x.
    bitmap_header (contents (chunks_of (take end file) x) BMHD) >>= λ z.
    picture_one (chunks_of (take end file) x) z >>= λ f.
    ok (record { file = file; end = end; sizes = z.sizes; start = x.next; first = f; map = map_one (chunks_of (take end file) x) })

-- the next frame from a place on, if there is one
abbrev pub here : Film → ℕ → Res (Option Frame)
here F at = frame_at (take F.end F.file) at (row_bytes F.sizes.width)

-- the place past that frame, or the place itself where there is none
unfoldable pub past : ℕ → Res (Option Frame) → ℕ
past at (ok (some x)) = x.next
past at (ok none) = at
past at (fault n) = at

-- the picture that a frame's interleave names: for 1 that one frame back, for 0 and 2 that two frames back
abbrev pub named : Frame → List ℕ → List ℕ → List ℕ
named x one two = pick (eqb x.header.interleave 1) one two

-- what a frame's delta makes of the picture that its interleave names, by the pictures one and two frames back
unfoldable pub built : Film → Frame → List ℕ → List ℕ → Res (List ℕ)
built F x one two =
    read_delta (shape_of F.sizes x.header.items) x.dlta >>= λ ops.
    ok (draw (shape_of F.sizes x.header.items) x.dlta ops (named x one two))

-- what the frame at a place makes of the pictures one and two frames back; where there is none, or its delta is refused, the latter
unfoldable pub drawn : Film → List ℕ → List ℕ → Res (Option Frame) → List ℕ
drawn F one two (ok (some x)) = or_keep two (built F x one two)
drawn F one two (ok none) = two
drawn F one two (fault n) = two

-- the place past frame m + 1
unfoldable pub place_at : Film → ℕ → ℕ
place_at F zero = F.start
place_at F (suc m) = past (place_at F m) (here F (place_at F m))

-- picture k is what frame k's delta makes of picture k − 1 or k − 2, as its interleave names; for frame 2 both are picture 1
unfoldable pub picture : Film → ℕ → List ℕ
picture F zero = F.first
picture F (suc zero) = F.first
picture F (suc (suc k)) = drawn F (picture F (suc k)) (picture F k) (here F (place_at F k))

-- a map with the colours of the frame at a place, if there is one
unfoldable pub coloured_by : List ℕ → Res (Option Frame) → List ℕ
coloured_by map (ok (some x)) = coloured map x.cmap
coloured_by map (ok none) = map
coloured_by map (fault n) = map

-- the map at frame m + 1: zeros, with the CMAPs of frames 1 to m + 1 applied in turn
unfoldable pub map_at : Film → ℕ → List ℕ
map_at F zero = F.map
map_at F (suc m) = coloured_by (map_at F m) (here F (place_at F m))

-- how many ops of a frame count: each op of each list that is read, once for each plane; those of words, methods 2 and 3, don't
abbrev pub ops_counted : Frame → List Op → ℕ
ops_counted x ops = pick (eqb x.header.method 2 || eqb x.header.method 3) 0 (length ops)

-- how many ops of a frame's delta count
unfoldable pub ops_at : Film → Frame → ℕ
ops_at F x = or_keep 0 (read_delta (shape_of F.sizes x.header.items) x.dlta >>= λ ops. ok (ops_counted x ops))

-- what the delta of x, frame m + 2, makes of picture m + 1 or m
abbrev pub built_at : Film → ℕ → Frame → Res (List ℕ)
built_at F m x = built F x (picture F (suc m)) (picture F m)

-- the record of the step from frame m + 1 to frame m + 2: the hidden picture and the map, before and after
unfoldable pub record_at : Film → ℕ → List ℕ
record_at F m = record_bytes (suc (suc m)) (place_at F m) (picture F m) (picture F (suc (suc m))) (map_at F m) (map_at F (suc m))

-- what stands at frame m + 1
unfoldable pub stands : Film → ℕ → World
stands F m = record {
  a = pick (is_odd (suc m)) (picture F (suc m)) (picture F m);
  b = pick (is_odd (suc m)) (picture F m) (picture F (suc m));
  map = map_at F m;
  state = record { sizes = F.sizes; frame = suc m; next = place_at F m; end = F.end };
}

-- what is reported of frame m + 2
unfoldable pub report_at : Film → ℕ → Frame → Report
report_at F m x = record {
  method = x.header.method;
  time = x.header.time;
  changed = differing (picture F m) (picture F (suc (suc m)));
  record_length = length (record_at F m);
  ops = ops_at F x;
}

-- a step on from frame m + 1, by the frame at the next place and what its delta comes to: it is taken if its record fits
abbrev pub answer_for : Film → ℕ → ℕ → Frame → Res (List ℕ) → Answer
answer_for F m room x (ok f) = pick (leb (length (record_at F m)) room) (took_on (report_at F m x)) (refused 51)
answer_for F m room x (fault n) = refused n

unfoldable pub answer_at : Film → ℕ → ℕ → Res (Option Frame) → Answer
answer_at F m room (fault n) = refused n
answer_at F m room (ok none) = ended
answer_at F m room (ok (some x)) = answer_for F m room x (built_at F m x)

-- a step on from frame m + 1: the first refusal in the order 12, 53, those of the frame, 51; or End; or it is taken. Its state is
-- within the limits, its pictures have a frame's length and its map 768 bytes, so that neither 11 nor 12 for A, B or the map can be met.
unfoldable pub answer_on : Film → ℕ → ℕ → ℕ → Answer
answer_on F m work room =
    pick (eqb work (frame_bytes F.sizes))
    (pick (ltb (suc m) 1_000_000) (answer_at F m room (here F (place_at F m))) (refused 53))
    (refused 12)

-- a step back at frame 1: 61 if that applies, else 62
abbrev pub answer_first : Option Past → Answer
answer_first none = refused 61
answer_first (some p) = refused 62

-- where a step on's answer leads, and the record that it leaves
unfoldable pub number_after : ℕ → Answer → ℕ
number_after m (refused n) = m
number_after m ended = m
number_after m (took_on r) = suc m
number_after m took_back = m

unfoldable pub record_after : Film → ℕ → Answer → List ℕ
record_after F m (refused n) = []
record_after F m ended = []
record_after F m (took_on r) = record_at F m
record_after F m took_back = []

-- what is seen after each call, from frame m + 1 on
unfoldable pub model : Film → ℕ → List Call → List Seen
model F m [] = []
model F m (on work room ∷ cs) =
    let x = answer_on F m work room in
    record { answer = x; world = stands F (number_after m x); bytes = record_after F m x } ∷ model F (number_after m x) cs
model F zero (back bytes ∷ cs) = record { answer = answer_first (past_of bytes F.first F.map); world = stands F zero; bytes = [] } ∷ model F zero cs
model F (suc m) (back bytes ∷ cs) = record { answer = took_back; world = stands F m; bytes = [] } ∷ model F m cs

-- what is seen of a file: after its opening, and after each call
pub record Played : Type 0 where
  pub opened : World
  pub seen : List Seen

unfoldable pub model_of : List ℕ → List Call → Res Played
model_of file calls = film file >>= λ F. ok (record { opened = stands F 0; seen = model F 0 calls })
