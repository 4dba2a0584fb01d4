-- Stepping on (document 01, "Opening, stepping on, stepping back" and "Refusal numbers", and document 02, E6, E7 and E8), in two parts: what
-- lies ahead, and the step to it, which is recorded and shown.
use Rattle.std.specs.Prelude.{ℕ, suc, List, ◌≡◌, leb, ltb, eqb, length, take, drop, Result, Ok, Err, Some, None}
use Rattle.std.proofs.Math.Option.{Option, none, some}
use Rattle.std.specs.Prelude as Lib
use Rattle.refusal.specs.declared.Refusal.{Refusal}
use Rattle.laws.specs.Result.{Res, Res.ok, Res.fault, ◌>>=◌, need, pick}
use Rattle.refusal.specs.Number.{number_of}
use Rattle.state.specs.State.{row_bytes, step_length, moved}
use Rattle.state.specs.declared.Report.{Report}
use Rattle.state.specs.declared.Sizes.{Sizes}
use Rattle.state.specs.declared.State.{State}
use Rattle.state.specs.World.{World, shown_in, hidden_in, with_hidden}
use Rattle.state.specs.After.{Answer, Answer.refused, Answer.ended, Answer.took_on, After, kept, Lent, work_after, lent_after}
use Rattle.runs.specs.Runs.{differing}
use Rattle.record.specs.Record.{record_bytes}
use Rattle.anhd.specs.declared.FrameHeader.{FrameHeader}
use Rattle.delta.specs.Reading.{shape_of, ops_in}
use Rattle.delta.specs.Delta.{read_delta, draw}
use Rattle.colours.specs.Colours.{coloured}
use Rattle.frame.specs.Frame.{Frame, frame_at}
use Rattle.step_on.specs.declared.Ahead.{Ahead}
use Rattle.step_on.specs.declared.SteppedOn.{SteppedOn}

-- 11, 12 and 53 of stepping on, by the lengths of the file, A, B, the map and the work buffer
unfoldable pub ready : ℕ → State → ℕ → ℕ → ℕ → ℕ → Res (Unit {0})
ready file s a b map work =
    need (leb s.end file) 11 >>= λ _.
    step_length s a b map >>= λ n.
    need (eqb work n) 12 >>= λ _.
    need (ltb s.frame 1_000_000) 53

-- the picture that a frame with this header builds on: the shown one for interleave 1, the hidden one for 0 and 2
abbrev pub basis : FrameHeader → List ℕ → List ℕ → List ℕ
basis h shown hidden = pick (eqb h.interleave 1) shown hidden

-- a frame that was built: its picture, the place past it, its header, the number of its ops, as `ops_in` counts them, and its CMAP
pub record Built : Type 0 where
  pub picture : List ℕ
  pub next : ℕ
  pub header : FrameHeader
  pub ops : ℕ
  pub cmap : List ℕ

-- what a frame makes of the shown and the hidden picture
unfoldable pub change : Sizes → Frame → List ℕ → List ℕ → Res Built
change z x shown hidden =
    read_delta (shape_of z x.header.items) x.dlta >>= λ ops.
    ok (record {
      picture = draw (shape_of z x.header.items) x.dlta ops (basis x.header shown hidden);
      next = x.next;
      header = x.header;
      ops = ops_in (shape_of z x.header.items) ops;
      cmap = x.cmap;
    })

-- a frame, if there is one, is built
abbrev pub build : Sizes → List ℕ → List ℕ → Option Frame → Res (Option Built)
build z shown hidden none = ok none
build z shown hidden (some x) = change z x shown hidden >>= λ y. ok (some y)

-- the frame at the next place of FORM ANIM is built
unfoldable pub look : List ℕ → State → List ℕ → List ℕ → Res (Option Built)
look anim s shown hidden = frame_at anim s.next (row_bytes s.sizes.width) >>= build s.sizes shown hidden

-- what lies ahead, with a work buffer of `work` bytes
unfoldable pub look_ahead : List ℕ → World → ℕ → Res (Option Built)
look_ahead file w work =
    ready (length file) w.state (length w.a) (length w.b) (length w.map) work >>= λ _.
    look (take w.state.end file) w.state (shown_in w) (hidden_in w)

-- the record of a step to a frame whose picture is f, with this CMAP
abbrev pub record_of : World → List ℕ → List ℕ → List ℕ
record_of w f cmap = record_bytes (suc w.state.frame) w.state.next (hidden_in w) f w.map (coloured w.map cmap)

-- what is reported of a step to a frame that was built
abbrev pub report_of : World → Built → Report
report_of w x = record {
  method = x.header.method;
  time = x.header.time;
  changed = differing (hidden_in w) x.picture;
  record_length = length (record_of w x.picture x.cmap);
  ops = x.ops;
}

-- a step to a frame that was built: a record that doesn't fit is 51, and leaves the frame in the work buffer
unfoldable pub commit : World → ℕ → Built → After
commit w room x =
    pick (leb (length (record_of w x.picture x.cmap)) room)
    (record {
      answer = took_on (report_of w x);
      world = with_hidden w x.picture (coloured w.map x.cmap) (moved w.state (suc w.state.frame) x.next);
      bytes = record_of w x.picture x.cmap;
      work = some x.picture;
    })
    (kept w (refused 51) (some x.picture))

-- the step to what lies ahead
unfoldable pub settle : World → ℕ → Res (Option Built) → After
settle w room (fault n) = kept w (refused n) none
settle w room (ok none) = kept w ended none
settle w room (ok (some x)) = commit w room x

-- stepping on, with a work buffer of `work` bytes and a record buffer of `room` bytes
unfoldable pub step_on : List ℕ → World → ℕ → ℕ → After
step_on file w work room = settle w room (look_ahead file w work)

-- what the answers say in the paper's terms; a frame that was built stands in the work buffer, and its CMAP is a part of FORM ANIM
abbrev pub ahead_of : List ℕ → Result (Lib.Option Ahead) Refusal → List ℕ → Res (Option Built)
ahead_of anim (Ok (Some x)) work =
    ok (some (record { picture = work; next = x.next; header = x.header; ops = x.ops; cmap = take x.cmap.len (drop x.cmap.start anim) }))
ahead_of anim (Ok None) work = ok none
ahead_of anim (Err why) work = fault (number_of why)

abbrev pub on_of : Result (Lib.Option Report) Refusal → Answer
on_of (Ok (Some report)) = took_on report
on_of (Ok None) = ended
on_of (Err why) = refused (number_of why)

-- the frame that stands in the work buffer
abbrev pub drawn_of : Res (Option Built) → Option (List ℕ)
drawn_of (ok (some x)) = some x.picture
drawn_of (ok none) = none
drawn_of (fault n) = none

-- what looking ahead in FORM ANIM answers and leaves in the work buffer, where q lies ahead
pub record Looks (anim : List ℕ) (q : Res (Option Built)) (work : List ℕ) (r : Result (Lib.Option Ahead) Refusal) (work' : List ℕ) : Type 0 where
  pub answer : ahead_of anim r work' ≡ q
  pub drawn : work' ≡ work_after work (drawn_of q)

-- what a step on answers and leaves in what it was lent, where it comes to o
pub record LeavesOn (o : After) (l : Lent) (r : SteppedOn) (l' : Lent) : Type 0 where
  pub answer : on_of r.answer ≡ o.answer
  pub left : l' ≡ lent_after l o

-- the contract of stepping on
abbrev pub MeetsOn : (file : List ℕ) (l : Lent) (r : SteppedOn) (l' : Lent) → Type 0
MeetsOn file l r l' = LeavesOn (step_on file l.world (length l.work) (length l.rec)) l r l'
