-- Stepping back (document 01, "Opening, stepping on, stepping back" and "Refusal numbers", and document 02, E6).
use Rattle.std.specs.Prelude.{ℕ, ◌-◌, List, [], ◌≡◌, length, Result, Ok, Err}
use Rattle.std.proofs.Math.Option.{none}
use Rattle.laws.specs.Result.{Res, Res.ok, Res.fault, ◌>>=◌}
use Rattle.refusal.specs.Number.{number_of}
use Rattle.state.specs.State.{step_length, moved}
use Rattle.state.specs.World.{World, shown_in, with_shown}
use Rattle.state.specs.After.{Answer, Answer.refused, Answer.took_back, After, kept}
use Rattle.record.specs.Record.{Past, restored}
use Rattle.refusal.specs.declared.Refusal.{Refusal}
use Rattle.step_back.specs.declared.SteppedBack.{SteppedBack}

-- what the record restores, or the first refusal: 11, 12, 61, 62
unfoldable pub retreat : World → List ℕ → Res Past
retreat w bytes =
    step_length w.state (length w.a) (length w.b) (length w.map) >>= λ _.
    restored bytes (shown_in w) w.map w.state.frame w.state.next

-- what a step back comes to: all stays if it is refused; otherwise the frame number less one, the recorded place, and in the shown buffer
-- and the map what the record restores
unfoldable pub settle_back : World → Res Past → After
settle_back w (fault n) = kept w (refused n) none
settle_back w (ok p) = record {
  answer = took_back;
  world = with_shown w p.picture p.map (moved w.state (w.state.frame - 1) p.place);
  bytes = [];
  work = none;
}

-- stepping back with a record
unfoldable pub step_back : World → List ℕ → After
step_back w bytes = settle_back w (retreat w bytes)

-- what an answer says in the paper's terms
abbrev pub back_of : Result (Unit {0}) Refusal → Answer
back_of (Ok done) = took_back
back_of (Err why) = refused (number_of why)

-- what a step back answers and leaves, where it comes to o
pub record LeavesBack (o : After) (r : SteppedBack) (w : World) : Type 0 where
  pub answer : back_of r.answer ≡ o.answer
  pub left : w ≡ o.world

-- the contract of stepping back
abbrev pub MeetsBack : (w : World) (bytes : List ℕ) (r : SteppedBack) (w' : World) → Type 0
MeetsBack w bytes r w' = LeavesBack (step_back w bytes) r w'
