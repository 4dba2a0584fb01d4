-- A step back at a frame that can be reached comes to what the model says of it.
use Prim.Native.Nat.{ℕ, suc, ◌-◌, ◌<◌, ◌≤◌}
use native.Mathlib.Omega.{arith}
use mathlib.Core.Bool.{Bool, true, false}
use mathlib.Core.List.{List, []}
use mathlib.Core.Option.{Option, none, some}
use mathlib.Core.Path.{◌≡◌, refl, sym, ◌∙◌}
use lib.Dec.{leb, ltb, eqb}
use lib.ListN.{length, take}
use borrow.Author.Tests.{le-leb, lt-ltb, eq-eqb, ne_eqb, leb-true}
use Rattle.laws.specs.Result.{Res.ok, Res.fault, ◌>>=◌, need}
use Rattle.state.specs.State.{row_bytes, lent_length, step_length}
use Rattle.colours.specs.Colours.{MAP}
use Rattle.record.specs.Record.{Past, past_of, restored}
use Rattle.frame.proofs.FrameLaws.{Rises, frame_rises}
use Rattle.state.specs.World.{is_odd, with_shown}
use Rattle.state.specs.After.{Answer.took_back}
use Rattle.step_back.specs.Back.{retreat, settle_back, step_back}
use Rattle.state.specs.Film.{Film}
use Rattle.record.proofs.RoundLaws.{past_record}
use Rattle.model.specs.Model.{place_at, picture, map_at, record_at, stands, answer_first}
use Rattle.model.proofs.Laws.{odd_suc}
use Rattle.model.proofs.Opened.{Opened, size}
use Rattle.model.proofs.Reached.{Reached, place_next, Good, good, state_good, shown_is, left_long, right_long, map_long_lem, Comes, Reached.first, Reached.next, pick_back_left, pick_back_right}

-- what is left of the tests of a step back
pub retreat_is : (F : Film) → Opened F → (m : ℕ) → Good F m → (bytes : List ℕ) → retreat (stands F m) bytes ≡ restored bytes (picture F (suc m)) (map_at F m) (suc m) (place_at F m)
unfolding retreat step_length lent_length
retreat_is F o m k bytes =
    let f : (stands F m).state.frame ≡ suc m = unfold stands in refl in
    let n : (stands F m).state.next ≡ place_at F m = unfold stands in refl in
    let c : (stands F m).map ≡ map_at F m = unfold stands in refl in
    rw (state_good F o m k) (simp (eq-eqb (length (stands F m).a) (size F) (left_long F m k), eq-eqb (length (stands F m).b) (size F) (right_long F m k), eq-eqb (length (stands F m).map) MAP (map_long_lem F m k)) (rw (shown_is F m, f, n, c) refl))

-- stepping back at frame 1: no record's frame is 1
pub restored_none : (bytes shown map : List ℕ) (n k : ℕ) → past_of bytes shown map ≡ none → restored bytes shown map n k ≡ fault 61
unfolding restored
restored_none bytes shown map n k e = rw e

pub restored_first : (bytes shown map : List ℕ) (k : ℕ) (p : Past) → past_of bytes shown map ≡ some p → restored bytes shown map 1 k ≡ fault 62
unfolding restored
restored_first bytes shown map k p e = rw e (go (leb 2 p.frame) refl)
  where
    go : (t : Bool) → leb 2 p.frame ≡ t → (need t 62 >>= λ _. need (eqb p.frame 1) 62 >>= λ _. need (leb 12 p.place) 62 >>= λ _. need (ltb p.place k) 62 >>= λ _. ok p) ≡ fault 62
    go true h = rw (ne_eqb p.frame 1 (λ q. omega (arith, leb-true 2 p.frame h)))
    go false h = refl

pub back_first : (F : Film) → Opened F → (bytes : List ℕ) → Comes F 0 0 (answer_first (past_of bytes F.first F.map)) [] (step_back (stands F 0) bytes)
unfolding step_back
back_first F o bytes = rw (retreat_is F o 0 (good F o first) bytes) (go (past_of bytes F.first F.map) refl)
  where
    one : picture F 1 ≡ F.first
    one = unfold picture in refl

    same : map_at F 0 ≡ F.map
    same = unfold map_at in refl

    go : (q : Option Past) → past_of bytes F.first F.map ≡ q → Comes F 0 0 (answer_first (past_of bytes F.first F.map)) [] (settle_back (stands F 0) (restored bytes (picture F 1) (map_at F 0) 1 (place_at F 0)))
    go none e = rw (one, same, e, restored_none bytes F.first F.map 1 (place_at F 0) e) (unfold settle_back in record { answer = refl; world = refl; bytes = refl; there = first })
    go (some p) e = rw (one, same, e, restored_first bytes F.first F.map (place_at F 0) p e) (unfold settle_back in record { answer = refl; world = refl; bytes = refl; there = first })

-- what was put back stands as at the frame before
pub back_to : Film → ℕ → Past
back_to F m = record { frame = suc (suc m); place = place_at F m; picture = picture F m; map = map_at F m }

pub back_is : (F : Film) (m : ℕ) → settle_back (stands F (suc m)) (ok (back_to F m)) ≡ record { answer = took_back; world = stands F m; bytes = []; work = none }
unfolding settle_back with_shown stands back_to
back_is F m =
    let e : suc (suc m) - 1 ≡ suc m = omega arith in
    rw (e, odd_suc (suc m), pick_back_left (is_odd (suc m)) (picture F m) (picture F (suc (suc m))) (picture F (suc m)), pick_back_right (is_odd (suc m)) (picture F m) (picture F (suc (suc m))) (picture F (suc m)))

-- stepping back with the unaltered record
pub restored_ok : (bytes shown map : List ℕ) (n k : ℕ) (p : Past) → past_of bytes shown map ≡ some p → 2 ≤ n → p.frame ≡ n → 12 ≤ p.place → p.place < k → restored bytes shown map n k ≡ ok p
unfolding restored
restored_ok bytes shown map n k p e h f l u = rw e (simp (le-leb 2 p.frame (omega arith), eq-eqb p.frame n f, le-leb 12 p.place l, lt-ltb p.place k u))

pub back_taken : (F : Film) → Opened F → {m : ℕ} → Reached F (suc m) → Comes F (suc m) m took_back [] (step_back (stands F (suc m)) (record_at F m))
unfolding step_back
back_taken F o {m} (next x g p e c h) = go (good F o p) (good F o (next x g p e c h)) (frame_rises (take F.end F.file) (row_bytes F.sizes.width) (place_at F m) x e)
  where
    go : Good F m → Good F (suc m) → Rises (take F.end F.file) (place_at F m) x → Comes F (suc m) m took_back [] (settle_back (stands F (suc m)) (retreat (stands F (suc m)) (record_at F m)))
    go k k' r =
        let q : past_of (record_at F m) (picture F (suc (suc m))) (map_at F (suc m)) ≡ some (back_to F m) =
        unfold record_at back_to in past_record (suc (suc m)) (place_at F m) (picture F m) (picture F (suc (suc m))) (map_at F m) (map_at F (suc m)) (omega (arith, k'.few)) (omega (arith, k.high, o.short)) (k.hidden ∙ sym k'.shown) (omega (arith, k.hidden, k'.shown, o.sound.length_most)) (k.map_long ∙ sym k'.map_long) (omega (arith, k'.map_long)) in
        let u : place_at F m < place_at F (suc m) = rw (place_next F m x e) r.rises in
        let w : retreat (stands F (suc m)) (record_at F m) ≡ ok (back_to F m) =
        retreat_is F o (suc m) k' (record_at F m) ∙ restored_ok (record_at F m) (picture F (suc (suc m))) (map_at F (suc m)) (suc (suc m)) (place_at F (suc m)) (back_to F m) q (omega arith) (unfold back_to in refl) (unfold back_to in k.low) (unfold back_to in u) in
        rw (w, back_is F m) (record { answer = refl; world = refl; bytes = refl; there = p })
