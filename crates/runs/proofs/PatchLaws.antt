-- Laws of runs, element by element: they lead from the new list back to the old one, differ from it, and lie within both.
use Prim.Native.Nat.{ℕ, suc, ◌+◌, ◌-◌, ◌<◌, ◌≤◌}
use native.Mathlib.Nat.{zero-add, suc-add, pos_of_ne-zero}
use native.Mathlib.Omega.{arith}
use mathlib.Core.Bool.{true, false}
use mathlib.Core.List.{List, [], ◌∷◌}
use mathlib.Core.Path.{◌≡◌, refl, sym, ◌∙◌}
use lib.Dec.{eqb}
use lib.ListN.{length}
use borrow.Author.Tests.{eqb-true, eqb-false}
use Rattle.runs.specs.Runs.{Run, kept, changed, runs_of, differ, all_differ, patch}
use Rattle.runs.proofs.RunLaws.{runs_kept, runs_changed, changed_joins, changed_begins}
use Rattle.runs.proofs.StretchLaws.{by_test}
use Rattle.runs.proofs.DifferLaws.{differ_more}

-- runs that a reader takes: gaps from `least` on, later ones from 1 on, no empty run, all within `room` elements
unfoldable pub Fit : ℕ → ℕ → List Run → Type 0
Fit least room [] = Unit {0}
Fit least room (r ∷ rs) = (least ≤ r.gap) × (0 < length r.bytes) × (r.gap + length r.bytes ≤ room) × Fit 1 (room - (r.gap + length r.bytes)) rs

-- what holds of none, and goes on over a kept and over a changed element, holds of the runs of two lists
module _ (P : List ℕ → List ℕ → List Run → Type 0) (at_end : (new : List ℕ) → P [] new []) (at_end_too : (a : ℕ) (old : List ℕ) → P (a ∷ old) [] [])
    (on_kept : (a b : ℕ) (old new : List ℕ) (rs : List Run) → eqb a b ≡ true → P old new rs → P (a ∷ old) (b ∷ new) (kept rs))
    (on_changed : (a b : ℕ) (old new : List ℕ) (rs : List Run) → eqb a b ≡ false → P old new rs → P (a ∷ old) (b ∷ new) (changed a rs)) where
  pub by_runs : (old new : List ℕ) → P old new (runs_of old new)
  by_runs [] new = unfold runs_of in at_end new
  by_runs (a ∷ old) [] = unfold runs_of in at_end_too a old
  by_runs (a ∷ old) (b ∷ new) =
      let ih = by_runs old new in
      by_test true (eqb a b) (λ e. rw (runs_kept a b old new e) (on_kept a b old new (runs_of old new) e ih)) (λ e. rw (runs_changed a b old new e) (on_changed a b old new (runs_of old new) e ih))

-- the same of one changed element in front of runs: it begins a run, or joins the first
pub by_changed : (P : List Run → List Run → Type 0) (a : ℕ) → P (record { gap = 0; bytes = a ∷ [] } ∷ []) []
    → ((r : Run) (rs : List Run) → r.gap ≡ 0 → P (record { gap = 0; bytes = a ∷ r.bytes } ∷ rs) (r ∷ rs))
    → ((r : Run) (rs : List Run) → 0 < r.gap → P (record { gap = 0; bytes = a ∷ [] } ∷ r ∷ rs) (r ∷ rs))
    → (rs : List Run) → P (changed a rs) rs
by_changed P a p q s [] = unfold changed in p
by_changed P a p q s (r ∷ rs) =
    by_test true (eqb r.gap 0) (λ e. rw (changed_joins a r rs e) (q r rs (eqb-true r.gap 0 e))) (λ e. rw (changed_begins a r rs e) (s r rs (pos_of_ne-zero (eqb-false r.gap 0 e))))

-- the runs lead back
pub patch_kept : (b : ℕ) (rs : List Run) (f : List ℕ) → patch (kept rs) (b ∷ f) ≡ b ∷ patch rs f
unfolding patch kept
patch_kept b [] f = refl
patch_kept b (r ∷ rs) f = rw (suc-add r.gap (length r.bytes))

pub patch_changed : (a b : ℕ) (rs : List Run) (f : List ℕ) → patch (changed a rs) (b ∷ f) ≡ a ∷ patch rs f
unfolding patch
patch_changed a b rs f =
    by_changed (λ cs rs. patch cs (b ∷ f) ≡ a ∷ patch rs f) a refl (λ r rs z. rw (z, zero-add (suc (length r.bytes)), zero-add (length r.bytes))) (λ r rs z. refl) rs

pub patch_runs : (old new : List ℕ) → length old ≡ length new → patch (runs_of old new) new ≡ old
patch_runs =
    by_runs (λ old new rs. length old ≡ length new → patch rs new ≡ old)
    none_left
    (λ a old l. absurd (omega arith))
    (λ a b old new rs e ih l. patch_kept b rs new ∙ rw (ih (omega arith), eqb-true a b e))
    (λ a b old new rs e ih l. patch_changed a b rs new ∙ rw (ih (omega arith)))
  where
    none_left : (new : List ℕ) → 0 ≡ length new → patch [] new ≡ []
    none_left [] l = unfold patch in refl
    none_left (b ∷ new) l = absurd (omega arith)

-- their elements differ from those that they replace
pub differ_kept : (b : ℕ) (rs : List Run) (f : List ℕ) → all_differ (kept rs) (b ∷ f) ≡ all_differ rs f
unfolding all_differ kept
differ_kept b [] f = refl
differ_kept b (r ∷ rs) f = rw (suc-add r.gap (length r.bytes))

pub differ_changed : (a b : ℕ) (rs : List Run) (f : List ℕ) → eqb a b ≡ false → all_differ (changed a rs) (b ∷ f) ≡ all_differ rs f
unfolding all_differ
differ_changed a b rs f e =
    by_changed (λ cs rs. all_differ cs (b ∷ f) ≡ all_differ rs f) a
    (rw (differ_more a b [] f e) (unfold differ in refl))
    (λ r rs z. rw (differ_more a b r.bytes f e, z, zero-add (suc (length r.bytes)), zero-add (length r.bytes)))
    (λ r rs z. rw (differ_more a b [] f e) (unfold differ in refl))
    rs

pub differ_runs : (old new : List ℕ) → all_differ (runs_of old new) new ≡ true
unfolding all_differ
differ_runs =
    by_runs (λ old new rs. all_differ rs new ≡ true) (λ new. refl) (λ a old. refl)
    (λ a b old new rs e ih. differ_kept b rs new ∙ ih) (λ a b old new rs e ih. differ_changed a b rs new e ∙ ih)

fit_kept : (room : ℕ) (rs : List Run) → Fit 0 room rs → Fit 0 (suc room) (kept rs)
unfolding Fit kept
fit_kept room [] h = tt
fit_kept room (r ∷ rs) h =
    let e : suc room - (suc r.gap + length r.bytes) ≡ room - (r.gap + length r.bytes) = omega arith in
    (omega arith, h.1, omega (arith, h.2), rw e h.3)

fit_changed : (a room : ℕ) (rs : List Run) → Fit 0 room rs → Fit 0 (suc room) (changed a rs)
unfolding Fit
fit_changed a room = by_changed (λ cs rs. Fit 0 room rs → Fit 0 (suc room) cs) a (λ h. (omega arith, omega arith, omega arith, tt)) joins begins
  where
    joins : (r : Run) (rs : List Run) → r.gap ≡ 0 → Fit 0 room (r ∷ rs) → Fit 0 (suc room) (record { gap = 0; bytes = a ∷ r.bytes } ∷ rs)
    joins r rs g h =
        let e : suc room - (0 + suc (length r.bytes)) ≡ room - (r.gap + length r.bytes) = omega arith in
        (omega arith, omega arith, omega (arith, h.2), rw e h.3)

    begins : (r : Run) (rs : List Run) → 0 < r.gap → Fit 0 room (r ∷ rs) → Fit 0 (suc room) (record { gap = 0; bytes = a ∷ [] } ∷ r ∷ rs)
    begins r rs g h = let e : suc room - (0 + 1) ≡ room = omega arith in (omega arith, omega arith, omega arith, rw e (g, h.1, h.2, h.3))

pub fit_new : (old new : List ℕ) → Fit 0 (length new) (runs_of old new)
unfolding Fit
fit_new =
    by_runs (λ old new rs. Fit 0 (length new) rs) (λ new. tt) (λ a old. tt) (λ a b old new rs e ih. fit_kept (length new) rs ih) (λ a b old new rs e ih. fit_changed a (length new) rs ih)

pub fit_old : (old new : List ℕ) → Fit 0 (length old) (runs_of old new)
unfolding Fit
fit_old =
    by_runs (λ old new rs. Fit 0 (length old) rs) (λ new. tt) (λ a old. tt) (λ a b old new rs e ih. fit_kept (length old) rs ih) (λ a b old new rs e ih. fit_changed a (length old) rs ih)

-- there are no more runs than elements
fit_count : (least room : ℕ) (rs : List Run) → Fit least room rs → length rs ≤ room
unfolding Fit
fit_count least room [] h = omega arith
fit_count least room (r ∷ rs) h = omega (arith, h.1, h.2, fit_count 1 (room - (r.gap + length r.bytes)) rs h.3)

pub count_runs : (old new : List ℕ) → length (runs_of old new) ≤ length new
count_runs old new = fit_count 0 (length new) (runs_of old new) (fit_new old new)

-- lists of one length with no runs are equal
pub same_of_none : (old new : List ℕ) → length old ≡ length new → runs_of old new ≡ [] → old ≡ new
unfolding patch
same_of_none old new l e = sym (rw e at (patch_runs old new l))

-- gaps from a number on are from every smaller one on
pub fit_from : (least more room : ℕ) (rs : List Run) → least ≤ more → Fit more room rs → Fit least room rs
unfolding Fit
fit_from least more room [] l h = tt
fit_from least more room (r ∷ rs) l h = (omega (arith, h.0), h.1, h.2, h.3)
