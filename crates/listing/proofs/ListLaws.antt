-- Laws of the listing: a step on raises the place, and each turn adds its line.
use Prim.Native.Nat.{ℕ, ◌-◌, ◌<◌, ◌≤◌, min}
use native.Mathlib.Omega.{arith}
use mathlib.Core.Bool.{Bool, true, false}
use mathlib.Core.List.{List, ◌++◌}
use mathlib.Core.Option.{Option, none, some}
use mathlib.Core.Path.{◌≡◌, refl, sym, ap, ◌∙◌}
use lib.ListN.{length, take, length-take}
use Rattle.laws.specs.Result.{Res.ok}
use Rattle.laws.proofs.ResultLaws.{Each, Each.each, All, All.all_some, All.all_none, each_bind, each_self, each_some, never}
use Rattle.laws.specs.Loop.{Step.next, Step.done}
use Rattle.laws.proofs.LoopLaws.{Going, starts, turns, stops}
use Rattle.state.specs.declared.State.{State}
use Rattle.state.specs.State.{row_bytes}
use Rattle.frame.specs.Frame.{Frame, frame_at}
use Rattle.frame.proofs.FrameLaws.{frame_rises}
use Rattle.step_on.specs.declared.SteppedOn.{SteppedOn}
use Rattle.state.specs.World.{World, shown_in, hidden_in, with_hidden}
use Rattle.state.specs.After.{Answer, Lent, lent, After, lent_after}
use Rattle.step_on.specs.Step.{Built, build, look, look_ahead, step_on, on_of, MeetsOn}
use Rattle.step_on.proofs.ReadyLaws.{ready_passed}
use Rattle.step_on.proofs.CaseLaws.{on_case}
use Rattle.step_on.proofs.StepLaws.{change_next}
use Rattle.lines.specs.Lines.{picture_line, Adds}
use Rattle.lines.proofs.TextLaws.{adds_then, adds_at, adds_room, adds_size, adds_front}
use Rattle.listing.specs.Listing.{Listing, add_line, step_line, taken, line_on, list_step, list_frames, begun, Lists}

-- a frame that was built raises the place
record Raises (file : ℕ) (s : State) (x : Built) : Type 0 where
  rises : s.next < x.next
  ends : x.next ≤ file

build_raises : (file : List ℕ) (s : State) (shown hidden : List ℕ) → s.end ≤ length file → (o : Option Frame) → frame_at (take s.end file) s.next (row_bytes s.sizes.width) ≡ ok o
    → Each (All (Raises (length file) s)) (build s.sizes shown hidden o)
build_raises file s shown hidden h none e = each all_none
build_raises file s shown hidden h (some x) e =
    let k = frame_rises (take s.end file) (row_bytes s.sizes.width) s.next x e in
    let l : x.next ≤ length file = omega (arith, k.ends, length-take s.end file) in
    each_bind (change_next s.sizes x shown hidden) λ y p. each (all_some (record { rises = rw p k.rises; ends = rw p l }))

ahead_raises : (file : List ℕ) (w : World) (work : ℕ) → Each (All (Raises (length file) w.state)) (look_ahead file w work)
unfolding look_ahead look
ahead_raises file w work =
    each_bind (ready_passed (length file) w.state (length w.a) (length w.b) (length w.map) work) λ _ h.
    each_bind (each_self (frame_at (take w.state.end file) w.state.next (row_bytes w.state.sizes.width))) λ o e.
    build_raises file w.state (shown_in w) (hidden_in w) h.in_file o e

-- a step that is taken raises the place, and stays within the file
pub record Raised (file : ℕ) (s t : State) : Type 0 where
  pub rises : s.next < t.next
  pub ends : t.next ≤ file

pub on_raises : (file : List ℕ) (w : World) (size room : ℕ) → taken (step_on file w size room).answer ≡ true → Raised (length file) w.state (step_on file w size room).world.state
unfolding with_hidden
on_raises file w size room =
    on_case (λ (o : After). taken o.answer ≡ true → Raised (length file) w.state o.world.state) w room file size
    (λ n q e. never (cc)) (λ q e. never (cc)) (λ x q e. let k = each_some q (ahead_raises file w size) in record { rises = k.rises; ends = k.ends }) (λ x q f e. never (cc))

-- while the frames of a file are listed: the text so far stands in `out`, and what is left comes to the whole
pub record Showing (file : List ℕ) (size room : ℕ) (start : Listing) (out₀ a b map work rec out : List ℕ) (s : State) (at : ℕ) : Type 0 where
  pub text : List ℕ
  pub going : Going (list_step file size room) (λ d. length file - d.lent.world.state.next) start (list_frames file size room start) (record { lent = lent a b map s work rec; text = text })
  pub adds : Adds out₀ 0 text out at
  pub left : length a ≡ length start.lent.world.a
  pub right : length b ≡ length start.lent.world.b
  pub colours : length map ≡ length start.lent.world.map
  pub drawn : length work ≡ size
  pub written : length rec ≡ room

pub showing_starts : (file a b map work rec out₀ : List ℕ) (s : State) {out : List ℕ} {at : ℕ} → Adds out₀ (min 0 (length out₀)) (picture_line s.sizes) out at
    → Showing file (length work) (length rec) (begun (lent a b map s work rec)) out₀ a b map work rec out s at
unfolding list_frames
showing_starts file a b map work rec out₀ s h = record { text = picture_line s.sizes; going = starts refl; adds = adds_at (omega arith) h; left = refl; right = refl; colours = refl; drawn = refl; written = refl }

module _ {file : List ℕ} {size room : ℕ} {start : Listing} {out₀ a b map work rec out : List ℕ} {s : State} {at : ℕ} (w : Showing file size room start out₀ a b map work rec out s at)
    {r : SteppedOn} {a' b' map' work' rec' : List ℕ} (m : MeetsOn file (lent a b map s work rec) r (lent a' b' map' r.state work' rec')) where
  before : Listing
  before = record { lent = lent a b map s work rec; text = w.text }

  after : Listing
  after = record { lent = lent a' b' map' r.state work' rec'; text = w.text }

  step : After
  step = step_on file (record { a = a; b = b; map = map; state = s }) (length work) (length rec)

  after_is : after ≡ record { lent = lent_after (lent a b map s work rec) step; text = w.text }
  unfolding after step
  after_is = λ i. record { lent = m.left i; text = w.text }

  turn_is : list_step file size room before ≡ line_on (on_of r.answer) after
  unfolding before step
  turn_is =
      ap (λ (n : ℕ). list_step file n room before) (sym w.drawn) ∙ ap (λ (n : ℕ). list_step file (length work) n before) (sym w.written)
      ∙ ap (λ (y : Answer). line_on y (record { lent = lent_after (lent a b map s work rec) step; text = w.text })) (sym m.answer) ∙ ap (line_on (on_of r.answer)) (sym after_is)

  -- the line of the step is added
  module _ {line out' : List ℕ} {at' : ℕ} (e : line ≡ step_line (on_of r.answer) r.state.frame) (v : Adds out (min at (length out)) line out' at') where
    line_adds : Adds out₀ 0 (w.text ++ step_line (on_of r.answer) r.state.frame) out' at'
    line_adds = adds_then w.adds (rw e at (adds_at (adds_room w.adds) v))

    pub showing_size : length out' ≡ length out₀
    showing_size = adds_size line_adds

    module _ {t : Bool} (f : t ≡ taken (on_of r.answer)) where
      -- the last line
      pub showing_stops : t ≡ false → Lists (list_frames file size room start) out₀ at' (record { a = a'; b = b'; map = map'; work = work'; rec = rec' }) out'
      unfolding before after
      showing_stops d =
          let l : list_step file size room before ≡ done (add_line after (step_line (on_of r.answer) r.state.frame)) = turn_is ∙ rw (sym f ∙ d) refl in
          let g = stops w.going l in
          let p = adds_front line_adds in
          let k : Lists (add_line after (step_line (on_of r.answer) r.state.frame)) out₀ at' (record { a = a'; b = b'; map = map'; work = work'; rec = rec' }) out' = record { text = p.0; count = p.1; left = refl } in
          rw g at k

      -- a step that was taken
      module _ (d : t ≡ true) where
        pub showing_less : length file - r.state.next < length file - s.next
        unfolding step lent_after
        showing_less =
            let k : Raised (length file) s step.world.state = on_raises file (record { a = a; b = b; map = map; state = s }) (length work) (length rec) (ap taken (sym m.answer) ∙ sym f ∙ d) in
            let l : Raised (length file) s r.state = rw (ap (λ (l : Lent). l.world.state) m.left) k in
            omega (arith, l.rises, l.ends)

        turn_taken : list_step file size room before ≡ next (add_line after (step_line (on_of r.answer) r.state.frame))
        unfolding after
        turn_taken = turn_is ∙ rw (sym f ∙ d) refl

        pub showing_turns : length a' ≡ length a → length b' ≡ length b → length map' ≡ length map → length work' ≡ length work → length rec' ≡ length rec → Showing file size room start out₀ a' b' map' work' rec' out' r.state at'
        unfolding before after
        showing_turns g h i k l = record {
          text = w.text ++ step_line (on_of r.answer) r.state.frame;
          going = turns w.going turn_taken showing_less;
          adds = line_adds;
          left = g ∙ w.left;
          right = h ∙ w.right;
          colours = i ∙ w.colours;
          drawn = k ∙ w.drawn;
          written = l ∙ w.written;
        }
