-- A step on at a frame that can be reached comes to what the model says of it.
use Prim.Native.Nat.{ℕ, suc, ◌<◌}
use mathlib.Core.Bool.{Bool, true, false}
use mathlib.Core.List.{List}
use mathlib.Core.Option.{Option, none, some}
use mathlib.Core.Path.{◌≡◌, refl, sym, ◌∙◌}
use lib.Dec.{leb, ltb, eqb}
use lib.ListN.{length, take}
use borrow.Author.Tests.{le-leb, eq-eqb, ltb-true}
use Rattle.laws.specs.Result.{Res, Res.ok, Res.fault, ◌>>=◌, need, pick}
use Rattle.laws.proofs.ResultLaws.{made_of, made_refused}
use Rattle.state.specs.State.{row_bytes, lent_length, step_length, moved}
use Rattle.colours.specs.Colours.{MAP, coloured}
use Rattle.delta.specs.declared.Shape.{Shape}
use Rattle.delta.specs.Reading.{shape_of, Op}
use Rattle.delta.specs.Delta.{read_delta, draw}
use Rattle.frame.specs.Frame.{Frame, frame_at}
use Rattle.state.specs.World.{is_odd, with_hidden}
use Rattle.state.specs.After.{Answer, Answer.refused, Answer.ended, Answer.took_on, After}
use Rattle.step_on.specs.Step.{ready, change, Built, build, look, look_ahead, record_of, settle, step_on}
use Rattle.step_on.proofs.CaseLaws.{commit_case}
use Rattle.state.specs.Film.{Film}
use Rattle.model.specs.Model.{here, named, built, built_at, ops_at, place_at, picture, map_at, record_at, stands, report_at, answer_at, answer_on, number_after, record_after}
use Rattle.model.proofs.Laws.{ops_same, odd_suc}
use Rattle.model.proofs.Opened.{Opened, size}
use Rattle.model.proofs.Reached.{Reached, place_next, map_next, picture_next, Good, good, state_good, hidden_is, shown_is, left_long, right_long, map_long_lem, Comes, Reached.next, pick_left, pick_right}

-- what is left of the tests of a step on
pub ready_is : (F : Film) → Opened F → (m : ℕ) → Good F m → (work : ℕ) → ready (length F.file) (stands F m).state (length (stands F m).a) (length (stands F m).b) (length (stands F m).map) work ≡ (need (eqb work (size F)) 12 >>= λ _. need (ltb (suc m) 1_000_000) 53)
unfolding ready step_length lent_length
ready_is F o m k work =
    let e : (stands F m).state.end ≡ F.end = unfold stands in refl in
    let f : (stands F m).state.frame ≡ suc m = unfold stands in refl in
    rw (state_good F o m k) (rw (e, f) (simp (le-leb F.end (length F.file) o.in_file, eq-eqb (length (stands F m).a) (size F) (left_long F m k), eq-eqb (length (stands F m).b) (size F) (right_long F m k), eq-eqb (length (stands F m).map) MAP (map_long_lem F m k))))

-- what a frame makes there
pub built_there : Film → ℕ → Option Frame → Res (Option Built)
built_there F m o = build F.sizes (picture F (suc m)) (picture F m) o

pub ahead_is : (F : Film) → Opened F → (m : ℕ) → Good F m → (work : ℕ)
    → look_ahead F.file (stands F m) work ≡ (need (eqb work (size F)) 12 >>= λ _. need (ltb (suc m) 1_000_000) 53 >>= λ _. here F (place_at F m) >>= λ o. built_there F m o)
unfolding look_ahead look built_there
ahead_is F o m k work =
    let h : frame_at (take (stands F m).state.end F.file) (stands F m).state.next (row_bytes (stands F m).state.sizes.width) ≡ here F (place_at F m) = unfold stands in refl in
    let z : (stands F m).state.sizes ≡ F.sizes = unfold stands in refl in
    rw (ready_is F o m k work, shown_is F m, hidden_is F m, h, z) (go (eqb work (size F)) (ltb (suc m) 1_000_000))
  where
    go : (s t : Bool) → (need s 12 >>= (λ _. need t 53) >>= λ _. here F (place_at F m) >>= λ o. built_there F m o) ≡ (need s 12 >>= λ _. need t 53 >>= λ _. here F (place_at F m) >>= λ o. built_there F m o)
    go true true = refl
    go true false = refl
    go false t = refl

pub built_fault : (F : Film) (m : ℕ) (x : Frame) (n : ℕ) → built_at F m x ≡ fault n → built_there F m (some x) ≡ fault n
unfolding built_there built change
built_fault F m x n c = rw (made_refused (read_delta (shape_of F.sizes x.header.items) x.dlta) _ c)

-- frame m + 2 as it is built
pub next_built : Film → ℕ → Frame → Built
next_built F m x = record { picture = picture F (suc (suc m)); next = place_at F (suc m); header = x.header; ops = ops_at F x; cmap = x.cmap }

pub built_ok : (F : Film) (m : ℕ) (x : Frame) (g : List ℕ) → here F (place_at F m) ≡ ok (some x) → built_at F m x ≡ ok g → built_there F m (some x) ≡ ok (some (next_built F m x))
unfolding built_there built change next_built ops_at
built_ok F m x g e c = go (made_of (read_delta (shape_of F.sizes x.header.items) x.dlta) c)
  where
    S : Shape
    S = shape_of F.sizes x.header.items

    go : ((ops : List Op) × (read_delta S x.dlta ≡ ok ops) × (draw S x.dlta ops (named x (picture F (suc m)) (picture F m)) ≡ g)) → built_there F m (some x) ≡ ok (some (next_built F m x))
    go (ops, r, d) =
        rw r
        (λ i. ok (some (record {
          picture = (d ∙ sym (picture_next F m x g e c)) i;
          next = sym (place_next F m x e) i;
          header = x.header;
          ops = ops_same _ _ _ x e F.sizes ops i;
          cmap = x.cmap;
        })))

-- its map and its record
module _ (F : Film) (m : ℕ) (x : Frame) (e : here F (place_at F m) ≡ ok (some x)) where
  map_is : coloured (stands F m).map x.cmap ≡ map_at F (suc m)
  map_is = unfold stands in sym (map_next F m x e)

  pub record_is : record_of (stands F m) (picture F (suc (suc m))) x.cmap ≡ record_at F m
  unfolding record_at
  record_is =
      let f : (stands F m).state.frame ≡ suc m = unfold stands in refl in
      let n : (stands F m).state.next ≡ place_at F m = unfold stands in refl in
      let c : (stands F m).map ≡ map_at F m = unfold stands in refl in
      rw (map_is, hidden_is F m, f, n, c) refl

  -- a step on that is taken stands at frame m + 2
  pub took_stands : with_hidden (stands F m) (picture F (suc (suc m))) (coloured (stands F m).map x.cmap) (moved (stands F m).state (suc (stands F m).state.frame) (place_at F (suc m))) ≡ stands F (suc m)
  unfolding stands with_hidden
  took_stands =
      rw (map_is, odd_suc (suc m), ← (pick_left (is_odd (suc m)) (picture F (suc m)) (picture F m) (picture F (suc (suc m)))), ← (pick_right (is_odd (suc m)) (picture F (suc m)) (picture F m) (picture F (suc (suc m)))))

-- stepping on
module _ (F : Film) (op : Opened F) (m : ℕ) (p : Reached F m) (room : ℕ) where
  Step : Res (Option Built) → Answer → Type 0
  Step r y = Comes F m (number_after m y) y (record_after F m y) (settle (stands F m) room r)

  step_refused : (n : ℕ) → Step (fault n) (refused n)
  unfolding Step number_after record_after settle
  step_refused n = record { answer = refl; world = refl; bytes = refl; there = p }

  step_ended : Step (ok none) ended
  unfolding Step number_after record_after settle
  step_ended = record { answer = refl; world = refl; bytes = refl; there = p }

  step_fits : (x : Frame) (g : List ℕ) → here F (place_at F m) ≡ ok (some x) → built_at F m x ≡ ok g → suc m < 1_000_000
      → Step (ok (some (next_built F m x))) (pick (leb (length (record_at F m)) room) (took_on (report_at F m x)) (refused 51))
  unfolding Step number_after record_after settle next_built report_at
  step_fits x g e c h =
      let y : Answer = pick (leb (length (record_at F m)) room) (took_on (report_at F m x)) (refused 51) in
      commit_case (λ (o : After). Comes F m (number_after m y) y (record_after F m y) o) (stands F m) room (next_built F m x)
      (λ q. rw (rw (record_is F m x e) at q, record_is F m x e, hidden_is F m) (record { answer = refl; world = took_stands F m x e; bytes = refl; there = next x g p e c h }))
      (λ q. rw (rw (record_is F m x e) at q) (record { answer = refl; world = refl; bytes = refl; there = p }))

  step_change : (x : Frame) → here F (place_at F m) ≡ ok (some x) → suc m < 1_000_000 → (c : Res (List ℕ)) → built_at F m x ≡ c
      → Step (built_there F m (some x)) (answer_at F m room (ok (some x)))
  unfolding answer_at
  step_change x e h (fault n) c = rw (built_fault F m x n c, c) (step_refused n)
  step_change x e h (ok g) c = rw (built_ok F m x g e c, c) (step_fits x g e c h)

  step_here : suc m < 1_000_000 → (o : Res (Option Frame)) → here F (place_at F m) ≡ o → Step (o >>= λ q. built_there F m q) (answer_at F m room o)
  step_here h (fault n) e = unfold answer_at in step_refused n
  step_here h (ok none) e = unfold answer_at built_there in step_ended
  step_here h (ok (some x)) e = step_change x e h (built_at F m x) refl

  step_tests : (s t : Bool) → ltb (suc m) 1_000_000 ≡ t
      → Step (need s 12 >>= λ _. need t 53 >>= λ _. here F (place_at F m) >>= λ o. built_there F m o) (pick s (pick t (answer_at F m room (here F (place_at F m))) (refused 53)) (refused 12))
  step_tests true true e = step_here (ltb-true (suc m) 1_000_000 e) (here F (place_at F m)) refl
  step_tests true false e = step_refused 53
  step_tests false t e = step_refused 12

  pub on_comes : (work : ℕ) → let y : Answer = answer_on F m work room in Comes F m (number_after m y) y (record_after F m y) (step_on F.file (stands F m) work room)
  unfolding step_on answer_on Step
  on_comes work = rw (ahead_is F op m (good F op p) work) (step_tests (eqb work (size F)) (ltb (suc m) 1_000_000) refl)
