-- What holds of every case of a step on holds of the step: a refusal before the record, End, a step that is taken, and a record that doesn't fit.
-- What a step that is taken comes to, and what a call leaves that met its contract.
use Prim.Native.Nat.{ℕ, suc, ◌≤◌}
use mathlib.Core.Bool.{Bool, true, false}
use mathlib.Core.List.{List}
use mathlib.Core.Option.{Option, none, some}
use mathlib.Core.Path.{◌≡◌, refl, ap}
use lib.Dec.{leb}
use lib.ListN.{length}
use borrow.Author.Tests.{le-leb}
use Rattle.laws.specs.Result.{Res, Res.ok, Res.fault}
use Rattle.laws.specs.Store.{with_front}
use Rattle.laws.proofs.ResultLaws.{never, pick_case}
use Rattle.state.specs.State.{moved}
use Rattle.state.specs.declared.Report.{Report}
use Rattle.state.specs.World.{World, with_hidden}
use Rattle.state.specs.After.{Answer.refused, Answer.ended, Answer.took_on, After, kept, Lent, work_after, lent_after}
use Rattle.colours.specs.Colours.{coloured}
use Rattle.step_on.specs.declared.SteppedOn.{SteppedOn}
use Rattle.step_on.specs.Step.{Built, look_ahead, record_of, report_of, commit, settle, step_on, LeavesOn}

-- a step that is taken
abbrev pub step_to : World → Built → After
step_to w x = record {
  answer = took_on (report_of w x);
  world = with_hidden w x.picture (coloured w.map x.cmap) (moved w.state (suc w.state.frame) x.next);
  bytes = record_of w x.picture x.cmap;
  work = some x.picture;
}

-- whether the record of such a step fits
abbrev pub record_fits : World → ℕ → Built → Bool
record_fits w room x = leb (length (record_of w x.picture x.cmap)) room

module _ (P : After → Type 0) (w : World) (room : ℕ) where
  pub commit_case : (x : Built) → (record_fits w room x ≡ true → P (step_to w x)) → (record_fits w room x ≡ false → P (kept w (refused 51) (some x.picture))) → P (commit w room x)
  unfolding commit
  commit_case x p q = pick_case P (record_fits w room x) p q

  pub on_case : (file : List ℕ) (work : ℕ)
      → ((n : ℕ) → look_ahead file w work ≡ fault n → P (kept w (refused n) none))
      → (look_ahead file w work ≡ ok none → P (kept w ended none))
      → ((x : Built) → look_ahead file w work ≡ ok (some x) → P (step_to w x))
      → ((x : Built) → look_ahead file w work ≡ ok (some x) → record_fits w room x ≡ false → P (kept w (refused 51) (some x.picture)))
      → P (step_on file w work room)
  unfolding step_on
  on_case file work f e t u = go (look_ahead file w work) f e t u
    where
      go : (q : Res (Option Built)) → ((n : ℕ) → q ≡ fault n → P (kept w (refused n) none)) → (q ≡ ok none → P (kept w ended none))
          → ((x : Built) → q ≡ ok (some x) → P (step_to w x)) → ((x : Built) → q ≡ ok (some x) → record_fits w room x ≡ false → P (kept w (refused 51) (some x.picture))) → P (settle w room q)
      go (fault n) f e t u = unfold settle in f n refl
      go (ok none) f e t u = unfold settle in e refl
      go (ok (some x)) f e t u = unfold settle in commit_case x (λ _. t x refl) (u x refl)

-- a step that is taken is the step to the frame that lies ahead
pub record Took (file : List ℕ) (w : World) (work : ℕ) (p : Report) (o : After) : Type 0 where
  pub frame : Built
  pub ahead : look_ahead file w work ≡ ok (some frame)
  pub report : report_of w frame ≡ p
  pub is : o ≡ step_to w frame

pub took : (file : List ℕ) (w : World) (work room : ℕ) {p : Report} → (step_on file w work room).answer ≡ took_on p → Took file w work p (step_on file w work room)
took file w work room {p} =
    on_case (λ (o : After). o.answer ≡ took_on p → Took file w work p o) w room file work
    (λ n e q. never (cc)) (λ e q. never (cc)) (λ x e q. record { frame = x; ahead = e; report = cc; is = refl }) (λ x e f q. never (cc))

-- and is taken with every room that its record fits in
pub on_taken : (file : List ℕ) (w : World) (work room : ℕ) (x : Built) → look_ahead file w work ≡ ok (some x) → length (record_of w x.picture x.cmap) ≤ room → step_on file w work room ≡ step_to w x
unfolding step_on settle commit
on_taken file w work room x e h = rw (e, le-leb (length (record_of w x.picture x.cmap)) room h) refl

-- what a step on that met its contract leaves
module _ {o : After} {l : Lent} {r : SteppedOn} {l' : Lent} (m : LeavesOn o l r l') where
  pub on_world : l'.world ≡ o.world
  unfolding lent_after
  on_world = ap (λ (k : Lent). k.world) m.left

  pub on_work : l'.work ≡ work_after l.work o.work
  unfolding lent_after
  on_work = ap (λ (k : Lent). k.work) m.left

  pub on_rec : l'.rec ≡ with_front l.rec o.bytes
  unfolding lent_after
  on_rec = ap (λ (k : Lent). k.rec) m.left
