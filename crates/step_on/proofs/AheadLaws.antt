-- What lies ahead of a step on: the tests passed, its picture has a frame's length, and the place past it rises and lies within FORM ANIM.
use Prim.Native.Nat.{ℕ, ◌<◌, ◌≤◌}
use native.Mathlib.Omega.{arith}
use mathlib.Core.List.{List}
use mathlib.Core.Option.{Option, none, some}
use mathlib.Core.Path.{◌≡◌, refl, sym, ◌∙◌}
use lib.Dec.{eqb}
use lib.ListN.{length, take, length-take}
use Rattle.laws.specs.Result.{Res.ok}
use Rattle.laws.proofs.ResultLaws.{Each, Each.each, All, All.all_some, All.all_none, each_any, each_bind, each_self, pick_both}
use Rattle.state.specs.State.{row_bytes}
use Rattle.state.specs.World.{World, is_odd, shown_in, hidden_in}
use Rattle.delta.specs.Reading.{shape_of}
use Rattle.delta.specs.Delta.{read_delta}
use Rattle.delta.proofs.DeltaLaws.{draw_length}
use Rattle.frame.specs.Frame.{Frame, frame_at}
use Rattle.frame.proofs.FrameLaws.{frame_rises}
use Rattle.step_on.specs.Step.{basis, change, Built, build, look, look_ahead}
use Rattle.step_on.proofs.ReadyLaws.{Passed, ready_passed}

pub record BuiltAhead (file : List ℕ) (w : World) (work : ℕ) (x : Built) : Type 0 where
  pub passed : Passed (length file) w.state (length w.a) (length w.b) (length w.map) work
  pub long : length x.picture ≡ length w.a
  pub rises : w.state.next < x.next
  pub ends : x.next ≤ w.state.end

module _ (file : List ℕ) (w : World) {work : ℕ} (p : Passed (length file) w.state (length w.a) (length w.b) (length w.map) work) where
  abbrev Long : List ℕ → Type 0
  Long f = length f ≡ length w.a

  right_long : Long w.b
  right_long = sym p.on_b.same ∙ p.on_a.same

  shown_long : Long (shown_in w)
  unfolding shown_in
  shown_long = pick_both Long (is_odd w.state.frame) refl right_long

  hidden_long : Long (hidden_in w)
  unfolding hidden_in
  hidden_long = pick_both Long (is_odd w.state.frame) right_long refl

  build_ahead : (o : Option Frame) → frame_at (take w.state.end file) w.state.next (row_bytes w.state.sizes.width) ≡ ok o
      → Each (All (BuiltAhead file w work)) (build w.state.sizes (shown_in w) (hidden_in w) o)
  unfolding change
  build_ahead none e = each all_none
  build_ahead (some x) e =
      let k = frame_rises (take w.state.end file) (row_bytes w.state.sizes.width) w.state.next x e in
      each_bind {P = λ (y : Built). BuiltAhead file w work y}
      (each_any (read_delta (shape_of w.state.sizes x.header.items) x.dlta) λ ops.
      each (record {
        passed = p;
        long = draw_length (shape_of w.state.sizes x.header.items) x.dlta ops (basis x.header (shown_in w) (hidden_in w)) ∙ pick_both Long (eqb x.header.interleave 1) shown_long hidden_long;
        rises = k.rises;
        ends = omega (arith, k.ends, length-take w.state.end file);
      }))
      λ y b. each (all_some b)

pub ahead_built : (file : List ℕ) (w : World) (work : ℕ) → Each (All (BuiltAhead file w work)) (look_ahead file w work)
unfolding look_ahead look
ahead_built file w work =
    each_bind (ready_passed (length file) w.state (length w.a) (length w.b) (length w.map) work) λ _ p.
    each_bind (each_self (frame_at (take w.state.end file) w.state.next (row_bytes w.state.sizes.width))) (build_ahead file w p)
