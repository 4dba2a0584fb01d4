-- What demand 2 is proved from: what a step comes to where the papers have no other refusal.
use Prim.Native.Nat.{ℕ, ◌<◌, ◌≤◌}
use mathlib.Core.Bool.{Bool, true, false, not}
use mathlib.Core.List.{List, []}
use mathlib.Core.Option.{none, some}
use mathlib.Core.Path.{◌≡◌, refl, ap, ◌∙◌}
use lib.ListN.{length}
use borrow.Author.Tests.{le-leb, lt-leb}
use Rattle.laws.specs.Result.{Res.ok, Res.fault, pick}
use Rattle.delta.specs.Reading.{Op}
use Rattle.frame.specs.Frame.{Frame}
use Rattle.state.specs.World.{World, is_odd, shown_in, hidden_in, with_hidden}
use Rattle.state.specs.After.{Answer.refused}
use Rattle.step_on.specs.Step.{change, Built, build, look, look_ahead, commit, settle, step_on}
use Rattle.step_on.proofs.CaseLaws.{step_to}
use Rattle.model.specs.Model.{ops_counted}
use Rattle.model.specs.Demands.{Free, delta_ops, new_of, record_to}
use Rattle.model.proofs.Laws.{ops_same, odd_suc}

-- what lies ahead then
free_ahead : (file : List ℕ) (w : World) (work : ℕ) (x : Frame) → Free file w work x → look_ahead file w work ≡ build w.state.sizes (shown_in w) (hidden_in w) (some x)
unfolding look_ahead look
free_ahead file w work x f = rw (f.tests, f.there)

-- a delta that isn't well formed is refused with its first fault, and nothing changes
pub malformed : (file : List ℕ) (w : World) (work room : ℕ) (x : Frame) (n : ℕ) → Free file w work x → delta_ops w x ≡ fault n
    → step_on file w work room ≡ record { answer = refused n; world = w; bytes = []; work = none }
unfolding step_on settle change
malformed file w work room x n f e = rw (free_ahead file w work x f, e) refl

-- the frame that a well-formed one builds
abbrev pub built_by : World → Frame → List Op → Built
built_by w x ops = record { picture = new_of w x ops; next = x.next; header = x.header; ops = ops_counted x ops; cmap = x.cmap }

-- a step to a frame that was built goes by whether its record fits
module _ (file : List ℕ) (w : World) (work room : ℕ) (x : Frame) (ops : List Op) (f : Free file w work x) (e : delta_ops w x ≡ ok ops) where
  commits : step_on file w work room ≡ commit w room (built_by w x ops)
  unfolding step_on settle change
  commits = rw (free_ahead file w work x f, e) (ap (λ (n : ℕ). commit w room (record { picture = new_of w x ops; next = x.next; header = x.header; ops = n; cmap = x.cmap })) (ops_same _ _ _ x f.there w.state.sizes ops))

  -- it is taken, if its record fits
  pub taken : length (record_to w x (new_of w x ops)) ≤ room → step_on file w work room ≡ step_to w (built_by w x ops)
  unfolding commit
  taken h = commits ∙ rw (le-leb (length (record_to w x (new_of w x ops))) room h) refl

  -- else it is 51
  pub unfit : room < length (record_to w x (new_of w x ops)) → step_on file w work room ≡ record { answer = refused 51; world = w; bytes = []; work = some (new_of w x ops) }
  unfolding commit
  unfit h = commits ∙ rw (lt-leb (length (record_to w x (new_of w x ops))) room h) refl

-- after a taken step the hidden picture is the new one and is shown, and the one that was shown is hidden as it was
pub shown_new : (w : World) (x : Built) → shown_in (step_to w x).world ≡ x.picture
unfolding shown_in with_hidden
shown_new w x = rw (odd_suc w.state.frame) (go (is_odd w.state.frame))
  where
    go : (t : Bool) → pick (not t) (pick t w.a x.picture) (pick t x.picture w.b) ≡ x.picture
    go true = refl
    go false = refl

pub shown_kept : (w : World) (x : Built) → hidden_in (step_to w x).world ≡ shown_in w
unfolding shown_in hidden_in with_hidden
shown_kept w x = rw (odd_suc w.state.frame) (go (is_odd w.state.frame))
  where
    go : (t : Bool) → pick (not t) (pick t x.picture w.b) (pick t w.a x.picture) ≡ pick t w.a w.b
    go true = refl
    go false = refl
