-- What demands 1 and 2 speak of (document 01, "Refusal numbers", "Deltas" and "Opening, stepping on, stepping back", and document 02, E1 and
-- E5 to E8).
use Rattle.std.specs.Prelude.{ℕ, suc, ◌≤◌, true, false, List, [], ◌≡◌, eqb, length, take, replicate, Result}
use Rattle.std.proofs.Math.Option.{Option, none, some}
use Rattle.laws.specs.Result.{Res, Res.ok, Res.fault, pick}
use Rattle.laws.specs.Store.{with_front}
use Rattle.refusal.specs.Number.{result_of}
use Rattle.refusal.specs.declared.Refusal.{Refusal}
use Rattle.state.specs.declared.Sizes.{Sizes}
use Rattle.state.specs.State.{row_bytes, frame_bytes, zeros}
use Rattle.state.specs.declared.State.{State}
use Rattle.state.specs.declared.Report.{Report}
use Rattle.state.specs.World.{World, shown_in, hidden_in}
use Rattle.state.specs.After.{Answer, Answer.refused, Answer.ended, Answer.took_on, Answer.took_back, Lent, lent}
use Rattle.iff.specs.Ids.{CMAP, ANHD, DLTA}
use Rattle.iff.specs.Chunk.{contents}
use Rattle.form.specs.Form.{chunks_of}
use Rattle.bmhd.specs.declared.Header.{Header}
use Rattle.anhd.specs.declared.FrameHeader.{FrameHeader}
use Rattle.anhd.specs.Anhd.{frame_header}
use Rattle.delta.specs.Reading.{Op, shape_of}
use Rattle.delta.specs.Delta.{read_delta, draw}
use Rattle.delta.specs.Count.{ops_most}
use Rattle.colours.specs.Colours.{MAP, unset, good_length, coloured}
use Rattle.runs.specs.Runs.{differing}
use Rattle.record.specs.Record.{record_bytes}
use Rattle.frame.specs.Frame.{Frame, frame_at}
use Rattle.opening.specs.declared.OpenedFile.{OpenedFile}
use Rattle.opening.specs.Open.{Places, first_places, first_header, MeetsOpen}
use Rattle.step_on.specs.declared.SteppedOn.{SteppedOn}
use Rattle.step_on.specs.Step.{ready, on_of, MeetsOn}
use Rattle.step_back.specs.declared.SteppedBack.{SteppedBack}
use Rattle.step_back.specs.Back.{back_of, MeetsBack}
use Rattle.writer.specs.Write.{Writes}
use Rattle.model.specs.Model.{ops_counted}

-- the number with which a step is refused, if it is
abbrev pub refusal_of : Answer → Option ℕ
refusal_of (refused n) = some n
refusal_of ended = none
refusal_of (took_on r) = none
refusal_of took_back = none

-- the number with which an opening, or the writer, refuses, if it does
abbrev pub refusal_in : {A : Type 0} → Res A → Option ℕ
refusal_in (ok a) = none
refusal_in (fault n) = some n

-- a call that met its contract: what it was lent, its refusal if any, and what it left there. Before opening the state is six zeros; opening
-- and stepping back are lent no work buffer, and no record buffer to write to. The writer has no part in pictures, map and state, and its output
-- buffer stands in the record buffer's place.
pub data Met : Lent → Option ℕ → Lent → Type 0 where
  opens : (file a b map : List ℕ) (r : OpenedFile) (a' b' map' : List ℕ)
      → MeetsOpen file a b map r (record { a = a'; b = b'; map = map'; state = r.state })
      → Met (lent a b map zeros [] []) (refusal_in (result_of r.answer)) (lent a' b' map' r.state [] [])
  steps_on : (file : List ℕ) (l : Lent) (r : SteppedOn) (a b map work rec : List ℕ) → MeetsOn file l r (lent a b map r.state work rec)
      → Met l (refusal_of (on_of r.answer)) (lent a b map r.state work rec)
  steps_back : (w : World) (bytes : List ℕ) (r : SteppedBack) (a b map : List ℕ) → MeetsBack w bytes r (record { a = a; b = b; map = map; state = r.state })
      → Met (record { world = w; work = []; rec = [] }) (refusal_of (back_of r.answer)) (lent a b map r.state [] [])
  writes : (w : World) (z : Sizes) (old new out : List ℕ) (d : Result ℕ Refusal) (out' : List ℕ) → Writes out old new z (result_of d) out'
      → Met (record { world = w; work = []; rec = out }) (refusal_in (result_of d)) (record { world = w; work = []; rec = out' })

-- what a call refused with n leaves: neither picture, nor the map, nor the state, nor the record buffer is changed, nor the work
-- buffer unless n is 51
pub record Unchanged (n : ℕ) (l l' : Lent) : Type 0 where
  pub world : l'.world ≡ l.world
  pub written : l'.rec ≡ l.rec
  pub drawn : (n ≡ 51 → ⊥) → l'.work ≡ l.work

-- a step on that only its delta (41 to 43, 45) and its record's length (51) can refuse: the tests of state and buffers passed (11, 12, 53), and
-- x, the next frame from the next place on, is whole and has a good header and a good CMAP (21, 31 to 37)
pub record Free (file : List ℕ) (w : World) (work : ℕ) (x : Frame) : Type 0 where
  pub tests : ready (length file) w.state (length w.a) (length w.b) (length w.map) work ≡ ok tt
  pub there : frame_at (take w.state.end file) w.state.next (row_bytes w.state.sizes.width) ≡ ok (some x)

-- the ops of its delta, or its first fault
abbrev pub delta_ops : World → Frame → Res (List Op)
delta_ops w x = read_delta (shape_of w.state.sizes x.header.items) x.dlta

-- the picture that frame x builds on, by its own interleave: for 1 the shown one, for 0 and 2 the hidden one
abbrev pub basis_of : World → Frame → List ℕ
basis_of w x = pick (eqb x.header.interleave 1) (shown_in w) (hidden_in w)

-- the picture that the ops of its delta make of that one
abbrev pub new_of : World → Frame → List Op → List ℕ
new_of w x ops = draw (shape_of w.state.sizes x.header.items) x.dlta ops (basis_of w x)

-- the map that its CMAP makes of the map
abbrev pub map_of : World → Frame → List ℕ
map_of w x = coloured w.map x.cmap

-- the record of a step to frame x, whose picture is f
abbrev pub record_to : World → Frame → List ℕ → List ℕ
record_to w x f = record_bytes (suc w.state.frame) w.state.next (hidden_in w) f w.map (map_of w x)

-- what is reported of a taken step to frame x, whose delta has these ops and whose picture is f
abbrev pub report_to : World → Frame → List Op → List ℕ → Report
report_to w x ops f = record {
  method = x.header.method;
  time = x.header.time;
  changed = differing (hidden_in w) f;
  record_length = length (record_to w x f);
  ops = ops_counted x ops;
}

-- what such a step answers and leaves: f is in the hidden buffer, which is now the shown one, and in the work buffer; the shown picture
-- doesn't change; the map has the colours of x's CMAP; the record stands at the front of its buffer, and the bytes past it stay
pub record Takes (w : World) (rec : List ℕ) (x : Frame) (ops : List Op) (f : List ℕ) (y : Answer) (l : Lent) : Type 0 where
  pub answer : y ≡ took_on (report_to w x ops f)
  pub state : l.world.state ≡ record { sizes = w.state.sizes; frame = suc w.state.frame; next = x.next; end = w.state.end }
  pub shown : shown_in l.world ≡ f
  pub hidden : hidden_in l.world ≡ shown_in w
  pub colours : l.world.map ≡ map_of w x
  pub drawn : l.work ≡ f
  pub written : l.rec ≡ with_front rec (record_to w x f)

-- n is what a step on from w reports of its ops: the number of them in the delta of the next frame from the next place on, at most 255 for
-- each column of each plane that is read
pub record OpsRead (file : List ℕ) (w : World) (n : ℕ) : Type 0 where
  pub frame : Frame
  pub there : frame_at (take w.state.end file) w.state.next (row_bytes w.state.sizes.width) ≡ ok (some frame)
  pub ops : List Op
  pub read : delta_ops w frame ≡ ok ops
  pub counted : n ≡ ops_counted frame ops
  pub most : n ≤ ops_most (shape_of w.state.sizes frame.header.items) frame.dlta

-- the CMAP of a first frame at p
abbrev pub first_cmap : List ℕ → Places → List ℕ
first_cmap file p = contents (chunks_of file p.form) CMAP

-- an opening that only its delta (41 to 43, 45) can refuse: the walk found a first frame at p (13, 21 to 23), without a BODY but with an
-- ANHD (31) and a good BMHD z (24), A and B have a frame's length and the map 768 bytes (12), h is a good header (32, 33, 35, 36), and the
-- CMAP is good (37)
pub record FreeFirst (file : List ℕ) (a b map : ℕ) (p : Places) (z : Header) (h : FrameHeader) : Type 0 where
  pub there : first_places file ≡ ok p
  pub given : p.body ≡ false
  pub sizes : first_header (chunks_of file p.form) false ≡ ok z
  pub left : a ≡ z.length
  pub right : b ≡ z.length
  pub map_long : map ≡ MAP
  pub header : frame_header true (row_bytes z.sizes.width) (contents (chunks_of file p.form) ANHD) ≡ ok h
  pub good : good_length (length (first_cmap file p)) ≡ true

-- its DLTA, and the ops of that, or its first fault
abbrev pub first_dlta : List ℕ → Places → List ℕ
first_dlta file p = contents (chunks_of file p.form) DLTA

abbrev pub first_ops : List ℕ → Places → Header → FrameHeader → Res (List Op)
first_ops file p z h = read_delta (shape_of z.sizes h.items) (first_dlta file p)

-- the picture that the ops make of an all-zero one
abbrev pub first_new : List ℕ → Places → Header → FrameHeader → List Op → List ℕ
first_new file p z h ops = draw (shape_of z.sizes h.items) (first_dlta file p) ops (replicate (frame_bytes z.sizes) 0)

-- what a taken opening whose picture is f answers and leaves: f is in both buffers, the map is zeros with the colours of the CMAP, and the
-- state stands at frame 1
pub record OpensAt (file : List ℕ) (p : Places) (z : Sizes) (f : List ℕ) (y : Res (Unit {0})) (s : State) (a' b' map' : List ℕ) : Type 0 where
  pub answer : y ≡ ok tt
  pub state : s ≡ record { sizes = z; frame = 1; next = p.form.next; end = p.end }
  pub left : a' ≡ f
  pub right : b' ≡ f
  pub colours : map' ≡ coloured unset (first_cmap file p)
