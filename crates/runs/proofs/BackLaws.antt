-- Runs that lead back from a list are the runs between the list that they lead back to and that one.
use Prim.Native.Nat.{ℕ, zero, suc, ◌+◌, ◌-◌}
use native.Mathlib.Omega.{arith}
use mathlib.Core.Bool.{true, false}
use mathlib.Core.List.{List, [], ◌∷◌}
use mathlib.Core.Path.{◌≡◌, refl, sym, ap, ◌∙◌}
use lib.Dec.{eqb}
use lib.ListN.{length}
use borrow.Author.Tests.{eq-eqb, ne_eqb}
use Rattle.laws.proofs.ResultLaws.{false_true}
use Rattle.runs.specs.Runs.{Run, kept, changed, runs_of, all_differ, patch}
use Rattle.runs.proofs.RunLaws.{runs_kept, runs_changed, changed_joins, changed_begins}
use Rattle.runs.proofs.StretchLaws.{by_test}
use Rattle.runs.proofs.DifferLaws.{differ_stop}
use Rattle.runs.proofs.PatchLaws.{Fit, by_changed, patch_kept, patch_changed, differ_kept, differ_changed, fit_from}

-- runs within one element and so many more: the element is kept or changed, in front of runs within the others
data Fronted (room : ℕ) : List Run → Type 0 where
  front_kept : (rs : List Run) → Fit 0 room rs → Fronted room (kept rs)
  front_changed : (a : ℕ) (rs : List Run) → Fit 0 room rs → Fronted room (changed a rs)

-- a changed element in front of runs that don't begin at once
changed_apart : (a room : ℕ) (rs : List Run) → Fit 1 room rs → changed a rs ≡ record { gap = 0; bytes = a ∷ [] } ∷ rs
unfolding Fit
changed_apart a room [] h = unfold changed in refl
changed_apart a room (r ∷ rs) h = changed_begins a r rs (ne_eqb r.gap 0 (λ e. absurd (omega (arith, h.0))))

fronted : (room : ℕ) (rs : List Run) → Fit 0 (suc room) rs → Fronted room rs
unfolding Fit kept
fronted room [] h = front_kept [] tt
fronted room (r ∷ rs) h = go r.gap r.bytes h
  where
    go : (gap : ℕ) (bytes : List ℕ) → Fit 0 (suc room) (record { gap = gap; bytes = bytes } ∷ rs) → Fronted room (record { gap = gap; bytes = bytes } ∷ rs)
    go (suc gap) bytes h =
        let e : suc room - (suc gap + length bytes) ≡ room - (gap + length bytes) = omega arith in
        front_kept (record { gap = gap; bytes = bytes } ∷ rs) (omega arith, h.1, omega (arith, h.2), rw e at h.3)
    go zero [] h = absurd (omega (arith, h.1))
    go zero (a ∷ []) h =
        let e : suc room - (0 + 1) ≡ room = omega arith in
        let f : Fit 1 room rs = rw e at h.3 in
        rw (← (changed_apart a _ rs f)) (front_changed a rs (fit_from _ _ _ rs (omega arith) f))
    go zero (a ∷ c ∷ o) h =
        let e : suc room - (0 + suc (suc (length o))) ≡ room - (0 + suc (length o)) = omega arith in
        let f : Fit 0 room (record { gap = 0; bytes = c ∷ o } ∷ rs) = (omega arith, omega arith, omega (arith, h.2), rw e at h.3) in
        rw (← (changed_joins a (record { gap = 0; bytes = c ∷ o }) rs (eq-eqb 0 0 refl))) (front_changed a (record { gap = 0; bytes = c ∷ o } ∷ rs) f)

-- an element that equals the one that it replaces
differ_equal : (a b : ℕ) (rs : List Run) (f : List ℕ) → eqb a b ≡ true → all_differ (changed a rs) (b ∷ f) ≡ false
unfolding all_differ
differ_equal a b rs f e =
    by_changed (λ cs rs. all_differ cs (b ∷ f) ≡ false) a (rw (differ_stop a b [] f e)) (λ r rs z. rw (differ_stop a b r.bytes f e)) (λ r rs z. rw (differ_stop a b [] f e)) rs

-- there is no run within no elements
runs_none : (r : Run) (rs : List Run) → Fit 0 0 (r ∷ rs) → ⊥
unfolding Fit
runs_none r rs h = omega (arith, h.1, h.2)

-- runs that a reader takes, and whose elements differ from those that they replace, are the runs between the list that they lead back to and
-- the new one
pub runs_patch : (rs : List Run) (f : List ℕ) → Fit 0 (length f) rs → all_differ rs f ≡ true → runs_of (patch rs f) f ≡ rs
runs_patch [] [] h d = unfold patch runs_of in refl
runs_patch (r ∷ rs) [] h d = absurd (runs_none r rs h)
runs_patch rs (b ∷ f) h d = go (fronted (length f) rs h) d (λ rs. runs_patch rs f)
  where
    go : {rs : List Run} → Fronted (length f) rs → all_differ rs (b ∷ f) ≡ true → ((rs : List Run) → Fit 0 (length f) rs → all_differ rs f ≡ true → runs_of (patch rs f) f ≡ rs)
        → runs_of (patch rs (b ∷ f)) (b ∷ f) ≡ rs
    go (front_kept rs h) d ih = rw (patch_kept b rs f) (runs_kept b b (patch rs f) f (eq-eqb b b refl) ∙ ap kept (ih rs h (sym (differ_kept b rs f) ∙ d)))
    go (front_changed a rs h) d ih =
        by_test false (eqb a b)
        (λ e. rw (patch_changed a b rs f) (runs_changed a b (patch rs f) f e ∙ ap (changed a) (ih rs h (sym (differ_changed a b rs f e) ∙ d))))
        (λ e. false_true (sym (differ_equal a b rs f e) ∙ d))
