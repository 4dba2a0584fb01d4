-- The runs that stretches make, and what the next run tells of the runs from a place on.
use Prim.Native.Nat.{ℕ, zero, suc, ◌+◌, ◌-◌, ◌<◌, ◌≤◌}
use native.Mathlib.Nat.{add_assoc}
use native.Mathlib.Omega.{arith}
use mathlib.Core.Bool.{true, false}
use mathlib.Core.List.{List, [], ◌∷◌}
use mathlib.Core.Logic.{◌≢◌}
use mathlib.Core.Option.{none, some}
use mathlib.Core.Path.{◌≡◌, refl, sym, ap, ◌∙◌}
use lib.Dec.{leb, eqb}
use lib.ListN.{length, take, drop, length-drop, drop_of_length-le}
use lib.Seq.{drop-drop}
use borrow.Author.Tests.{eq-eqb, ne_eqb, eqb-true, eqb-false, leb-true, leb-false}
use Rattle.laws.proofs.ResultLaws.{none_some, some_same}
use Rattle.laws.proofs.StoreLaws.{length_part}
use Rattle.runs.specs.Runs.{Run, kept, changed, runs_of, FirstRun, first_run, next_run}
use Rattle.runs.specs.Stretch.{stretch}
use Rattle.runs.proofs.RunLaws.{runs_kept, runs_changed}
use Rattle.runs.proofs.StretchLaws.{by_test, stretch_more, stretch_stop, stretch_end, stretch_none, stretch_short}

-- the next run from a place on, and the runs after it
pub record RunAhead (old new : List ℕ) (at gap count : ℕ) : Type 0 where
  pub runs : runs_of (drop at old) (drop at new) ≡ record { gap = gap; bytes = take count (drop (at + gap) old) } ∷ runs_of (drop (at + (gap + count)) old) (drop (at + (gap + count)) new)
  pub kept : take gap (drop at old) ≡ take gap (drop at new)
  pub filled : 0 < count
  pub inside : at + (gap + count) ≤ length old

pub ahead_length : {old new : List ℕ} {at gap count : ℕ} → RunAhead old new at gap count → length (take count (drop (at + gap) old)) ≡ count
ahead_length {old} {new} {at} {gap} {count} a = length_part old (at + gap) count (omega (arith, a.inside))

-- equal bytes are the same in both
stretch_same : (k : ℕ) (old new : List ℕ) → k ≤ stretch true old new → take k old ≡ take k new
stretch_same zero old new h = refl
stretch_same (suc k) [] new h = absurd (omega (arith, stretch_end true [] new refl))
stretch_same (suc k) (a ∷ old) [] h = absurd (omega (arith, stretch_none true a old))
stretch_same (suc k) (a ∷ old) (b ∷ new) h = by_test true (eqb a b) (go (stretch_same k old new)) (λ e. absurd (omega (arith, stretch_stop true a b old new e)))
  where
    go : (k ≤ stretch true old new → take k old ≡ take k new) → eqb a b ≡ true → a ∷ take k old ≡ b ∷ take k new
    go ih e = rw (eqb-true a b e, ih (omega (arith, stretch_more true a b old new e)))

-- equal buffers have no runs
no_runs : (old new : List ℕ) → stretch true old new ≡ length old → runs_of old new ≡ []
no_runs [] new h = unfold runs_of in refl
no_runs (a ∷ old) [] h = unfold runs_of in refl
no_runs (a ∷ old) (b ∷ new) h = by_test true (eqb a b) (go (no_runs old new)) (λ e. absurd (omega (arith, stretch_stop true a b old new e)))
  where
    go : (stretch true old new ≡ length old → runs_of old new ≡ []) → eqb a b ≡ true → runs_of (a ∷ old) (b ∷ new) ≡ []
    go ih e = runs_kept a b old new e ∙ ap kept (ih (omega (arith, stretch_more true a b old new e))) ∙ unfold kept in refl

-- a changed byte in front of what begins with an unchanged one is a run by itself
pub changed_kept : (a : ℕ) (rs : List Run) → changed a (kept rs) ≡ record { gap = 0; bytes = a ∷ [] } ∷ kept rs
unfolding changed kept
changed_kept a [] = refl
changed_kept a (r ∷ rs) = rw (ne_eqb (suc r.gap) 0 (λ e. absurd (omega arith)), changed)

-- the run that begins after gap bytes, and those after it
run_from : List ℕ → List ℕ → ℕ → ℕ → List Run
run_from old new gap count = record { gap = gap; bytes = take count (drop gap old) } ∷ runs_of (drop count (drop gap old)) (drop count (drop gap new))

run_at_once : (a b : ℕ) (old new : List ℕ) → length old ≡ length new → eqb a b ≡ false → runs_of (a ∷ old) (b ∷ new) ≡ run_from (a ∷ old) (b ∷ new) 0 (suc (stretch false old new))
unfolding run_from
run_at_once a b [] [] l e = runs_changed a b [] [] e ∙ rw (stretch_end false [] [] refl) (unfold changed runs_of in refl)
run_at_once a b [] (d ∷ new) l e = absurd (omega arith)
run_at_once a b (x ∷ old) [] l e = absurd (omega arith)
run_at_once a b (x ∷ old) (y ∷ new) l e = by_test false (eqb x y) (joins (run_at_once x y old new (omega arith))) apart
  where
    joins : (eqb x y ≡ false → runs_of (x ∷ old) (y ∷ new) ≡ run_from (x ∷ old) (y ∷ new) 0 (suc (stretch false old new))) → eqb x y ≡ false
        → runs_of (a ∷ x ∷ old) (b ∷ y ∷ new) ≡ run_from (a ∷ x ∷ old) (b ∷ y ∷ new) 0 (suc (stretch false (x ∷ old) (y ∷ new)))
    joins ih f = runs_changed a b (x ∷ old) (y ∷ new) e ∙ ap (changed a) (ih f) ∙ rw (stretch_more false x y old new f) (unfold changed in refl)

    apart : eqb x y ≡ true → runs_of (a ∷ x ∷ old) (b ∷ y ∷ new) ≡ run_from (a ∷ x ∷ old) (b ∷ y ∷ new) 0 (suc (stretch false (x ∷ old) (y ∷ new)))
    apart f = runs_changed a b (x ∷ old) (y ∷ new) e ∙ rw (stretch_stop false x y old new f, runs_kept x y old new f) (changed_kept a (runs_of old new))

run_next : (old new : List ℕ) → length old ≡ length new → stretch true old new < length old
    → runs_of old new ≡ run_from old new (stretch true old new) (stretch false (drop (stretch true old new) old) (drop (stretch true old new) new))
unfolding run_from
run_next [] new l h = absurd (omega (arith, stretch_end true [] new refl))
run_next (a ∷ old) [] l h = absurd (omega arith)
run_next (a ∷ old) (b ∷ new) l h = by_test true (eqb a b) (later (run_next old new (omega arith))) first
  where
    first : eqb a b ≡ false → runs_of (a ∷ old) (b ∷ new) ≡ run_from (a ∷ old) (b ∷ new) (stretch true (a ∷ old) (b ∷ new)) (stretch false (drop (stretch true (a ∷ old) (b ∷ new)) (a ∷ old)) (drop (stretch true (a ∷ old) (b ∷ new)) (b ∷ new)))
    first e = rw (stretch_stop true a b old new e, stretch_more false a b old new e) (run_at_once a b old new (omega arith) e)

    later : (stretch true old new < length old → runs_of old new ≡ run_from old new (stretch true old new) (stretch false (drop (stretch true old new) old) (drop (stretch true old new) new)))
        → eqb a b ≡ true → runs_of (a ∷ old) (b ∷ new) ≡ run_from (a ∷ old) (b ∷ new) (stretch true (a ∷ old) (b ∷ new)) (stretch false (drop (stretch true (a ∷ old) (b ∷ new)) (a ∷ old)) (drop (stretch true (a ∷ old) (b ∷ new)) (b ∷ new)))
    later ih e =
        let m = stretch_more true a b old new e in
        runs_kept a b old new e ∙ ap kept (ih (omega (arith, m))) ∙ rw m (unfold kept in refl)

run_filled : (old new : List ℕ) → length old ≡ length new → stretch true old new < length old → 0 < stretch false (drop (stretch true old new) old) (drop (stretch true old new) new)
run_filled [] new l h = absurd (omega arith)
run_filled (a ∷ old) [] l h = absurd (omega arith)
run_filled (a ∷ old) (b ∷ new) l h =
    by_test true (eqb a b)
    (λ e. let m = stretch_more true a b old new e in rw m (run_filled old new (omega arith) (omega (arith, m))))
    (λ e. rw (stretch_stop true a b old new e, stretch_more false a b old new e) (omega arith))

-- what a search from a place on finds
ahead : (old new : List ℕ) (at gap count : ℕ) → length old ≡ length new → gap ≡ stretch true (drop at old) (drop at new) → at + gap < length old
    → count ≡ stretch false (drop (at + gap) old) (drop (at + gap) new) → RunAhead old new at gap count
unfolding run_from
ahead old new at gap count l e h f =
    let len : length (drop at old) ≡ length (drop at new) = simp length-drop (omega arith) in
    let short : stretch true (drop at old) (drop at new) < length (drop at old) = omega (arith, length-drop at old) in
    record {
      runs =
          rw (← e, drop-drop gap at old, drop-drop gap at new, ← f, drop-drop count (at + gap) old, drop-drop count (at + gap) new, add_assoc at gap count) at
          (run_next (drop at old) (drop at new) len short);
      kept = stretch_same gap (drop at old) (drop at new) (omega arith);
      filled = rw (← e, drop-drop gap at old, drop-drop gap at new, ← f) at (run_filled (drop at old) (drop at new) len short);
      inside = omega (arith, stretch_short false (drop (at + gap) old) (drop (at + gap) new), length-drop (at + gap) old);
    }

-- what the next run is, test by test
module _ (old new : List ℕ) (at : ℕ) where
  pub two_lengths : length old ≢ length new → none ≡ next_run old new at
  unfolding next_run
  two_lengths h = simp (ne_eqb _ _ h)

  module _ (l : length old ≡ length new) where
    next_is : next_run old new at ≡ first_run (runs_of (drop at old) (drop at new))
    unfolding next_run
    next_is = simp (eq-eqb _ _ l)

    runs_past : length old ≤ at → runs_of (drop at old) (drop at new) ≡ []
    runs_past h = rw (drop_of_length-le old {i = at} h) (unfold runs_of in refl)

    pub past_end : length old ≤ at → none ≡ next_run old new at
    past_end h = sym (next_is ∙ ap first_run (runs_past h) ∙ unfold first_run in refl)

    is_ahead : {gap count : ℕ} → RunAhead old new at gap count → some (record { gap = gap; count = count }) ≡ next_run old new at
    is_ahead a = sym (next_is ∙ ap first_run a.runs ∙ unfold first_run in rw (ahead_length a))

    module _ (start : ℕ) (h : at < length old) (e : start ≡ at + stretch true (drop at old) (drop at new)) where
      runs_none : length old ≤ start → runs_of (drop at old) (drop at new) ≡ []
      runs_none k = no_runs (drop at old) (drop at new) (omega (arith, length-drop at old, stretch_short true (drop at old) (drop at new)))

      pub nothing_ahead : length old ≤ start → none ≡ next_run old new at
      nothing_ahead k = sym (next_is ∙ ap first_run (runs_none k) ∙ unfold first_run in refl)

      ahead_at : (end : ℕ) → start < length old → end ≡ start + stretch false (drop start old) (drop start new) → RunAhead old new at (start - at) (end - start)
      ahead_at end k f =
          let s : at + (start - at) ≡ start = omega arith in
          ahead old new at (start - at) (end - start) l (omega arith) (rw s k) (rw s (omega arith))

      pub run_ahead : (end : ℕ) → start < length old → end ≡ start + stretch false (drop start old) (drop start new) → some (record { gap = start - at; count = end - start }) ≡ next_run old new at
      run_ahead end k f = is_ahead (ahead_at end k f)

-- what the next run tells of the runs from a place on
first_none : (rs : List Run) → first_run rs ≡ none → rs ≡ []
unfolding first_run
first_none [] e = refl
first_none (r ∷ rs) e = none_some (sym e)

module _ (old new : List ℕ) (at : ℕ) where
  pub none_ahead : length old ≡ length new → next_run old new at ≡ none → runs_of (drop at old) (drop at new) ≡ []
  none_ahead l e = first_none (runs_of (drop at old) (drop at new)) (sym (next_is old new at l) ∙ e)

  pub ahead_of : (gap count : ℕ) → next_run old new at ≡ some (record { gap = gap; count = count }) → RunAhead old new at gap count
  ahead_of gap count e = by_test true (eqb (length old) (length new)) (λ t. inside (eqb-true _ _ t)) (λ t. none_some (two_lengths old new at (eqb-false _ _ t) ∙ e))
    where
      start : ℕ
      start = at + stretch true (drop at old) (drop at new)

      same : length old ≡ length new → {g n : ℕ} → RunAhead old new at g n → RunAhead old new at gap count
      same l a =
          let q = some_same (is_ahead old new at l a ∙ e) in
          rw (← (ap (λ (x : FirstRun). x.gap) q), ← (ap (λ (x : FirstRun). x.count) q)) a

      found : length old ≡ length new → at < length old → RunAhead old new at gap count
      found l h =
          by_test true (leb (length old) start)
          (λ t. none_some (nothing_ahead old new at l start h refl (leb-true _ _ t) ∙ e))
          (λ t. same l (ahead_at old new at l start h refl _ (leb-false _ _ t) refl))

      inside : length old ≡ length new → RunAhead old new at gap count
      inside l = by_test true (leb (length old) at) (λ t. none_some (past_end old new at l (leb-true _ _ t) ∙ e)) (λ t. found l (leb-false _ _ t))
