-- The hidden picture while its runs are written: to commit, each run's new bytes take the place of the old ones.
use Prim.Native.Nat.{ℕ, ◌+◌}
use native.Mathlib.Omega.{arith}
use mathlib.Core.Bool.{Bool, true, false, not}
use mathlib.Core.List.{List, ◌++◌, append-nil}
use mathlib.Core.Path.{◌≡◌, refl, sym, ◌∙◌}
use lib.ListN.{length, take, drop, drop_of_length-le, take-append-drop, length-append}
use lib.Seq.{sets, sets-eq, take-add, length-take-le, take_all, take_at, drop_at}
use Rattle.laws.specs.Result.{pick}
use Rattle.laws.proofs.StoreLaws.{length_part}
use Rattle.runs.proofs.NextLaws.{RunAhead}
use Rattle.runs.proofs.StretchLaws.{by_test}

-- the picture old, of which the bytes before a place are done; it was old₀
pub record Committing (commit : Bool) (old₀ new : List ℕ) (at : ℕ) (old : List ℕ) : Type 0 where
  pub done : commit ≡ true → take at old ≡ take at new
  pub kept : commit ≡ false → old ≡ old₀

pub committing_starts : {commit : Bool} {old new : List ℕ} → Committing commit old new 0 old
committing_starts = record { done = λ e. refl; kept = λ e. refl }

pub committing_ends : {commit : Bool} {old₀ new old : List ℕ} {at : ℕ} → Committing commit old₀ new at old → drop at old ≡ drop at new → old ≡ pick commit new old₀
committing_ends {commit = true} {new = new} {old = old} {at = at} w e = sym (take-append-drop at old) ∙ rw (w.done refl, e) (take-append-drop at new)
committing_ends {commit = false} w e = w.kept refl

-- the next run
module _ {old new : List ℕ} {at gap count : ℕ} (a : RunAhead old new at gap count) (l : length old ≡ length new) where
  run_long : length (take count (drop (at + gap) new)) ≡ count
  run_long = length_part new (at + gap) count (omega (arith, a.inside))

  -- the picture with the run's new bytes: what is before the run, the run, and what is after it
  spliced : sets old (at + gap) (take count (drop (at + gap) new)) ≡ (take (at + gap) old ++ take count (drop (at + gap) new)) ++ drop (at + gap + count) old
  spliced = sets-eq (take count (drop (at + gap) new)) old (at + gap) (omega (arith, run_long, a.inside)) ∙ rw run_long

  front_long : length (take (at + gap) old ++ take count (drop (at + gap) new)) ≡ at + gap + count
  front_long = length-append (take (at + gap) old) (take count (drop (at + gap) new)) ∙ rw (length-take-le (at + gap) old (omega (arith, a.inside)), run_long)

  -- what is done of it
  front_done : take at old ≡ take at new → take (at + gap) old ++ take count (drop (at + gap) new) ≡ take (at + gap + count) new
  front_done e = rw (take-add at gap old, e, a.kept, ← (take-add at gap new)) (sym (take-add (at + gap) count new))

  module _ (commit : Bool) {old' : List ℕ} (r : old' ≡ pick commit (sets old (at + gap) (take count (drop (at + gap) new))) old) where
    taken_is : commit ≡ true → old' ≡ (take (at + gap) old ++ take count (drop (at + gap) new)) ++ drop (at + gap + count) old
    taken_is e = (rw e at r) ∙ spliced

    pub replaced_behind : drop (at + gap + count) old' ≡ drop (at + gap + count) old
    replaced_behind =
        by_test true commit
        (λ e. rw (taken_is e) (drop_at (take (at + gap) old ++ take count (drop (at + gap) new)) (drop (at + gap + count) old) (at + gap + count) front_long))
        (λ e. rw (rw e at r))

    pub committing_more : {old₀ : List ℕ} → Committing commit old₀ new at old → Committing commit old₀ new (at + gap + count) old'
    committing_more w = record {
      done = λ e. rw (taken_is e) (take_at (take (at + gap) old ++ take count (drop (at + gap) new)) (drop (at + gap + count) old) (at + gap + count) front_long) ∙ front_done (w.done e);
      kept = λ e. (rw e at r) ∙ w.kept e;
    }

-- the whole of what was not replaced run by run
pub committed_all : (few : Bool) (old : List ℕ) {new old₁ old₂ : List ℕ} → length old ≡ length new → old₁ ≡ pick few new old → old₂ ≡ pick (not few) (sets old₁ 0 (take (length old₁) new)) old₁ → old₂ ≡ new
committed_all true old l e r = r ∙ e
committed_all false old {new} l e r =
    r ∙ rw (e, l, take_all (length new) new (omega arith))
    (sets-eq new old 0 (omega (arith, l)) ∙ rw (drop_of_length-le old {i = 0 + length new} (omega (arith, l)), append-nil new))
