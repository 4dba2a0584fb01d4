-- Laws of runs: one element in front of two lists, and the run that begins at once, if there is one, with those after it.
use Prim.Native.Nat.{ℕ, suc, ◌+◌, ◌<◌, ◌≤◌}
use native.Mathlib.Numerals.{add-one}
use native.Mathlib.Omega.{arith}
use mathlib.Core.Bool.{Bool, true, false}
use mathlib.Core.List.{List, [], ◌∷◌}
use mathlib.Core.Path.{◌≡◌, refl, ap, ◌∙◌}
use lib.Dec.{eqb}
use lib.ListN.{length, get_or, drop, drop_of_length-le}
use lib.Seq.{drop-cons}
use borrow.Author.Tests.{eq-eqb, ne_eqb}
use Rattle.runs.specs.Runs.{Run, kept, changed, runs_of}
use Rattle.runs.specs.Front.{runs_at, front, after_front, later}

-- one element in front of two lists
pub runs_kept : (a b : ℕ) (old new : List ℕ) → eqb a b ≡ true → runs_of (a ∷ old) (b ∷ new) ≡ kept (runs_of old new)
unfolding runs_of
runs_kept a b old new e = rw (e, runs_of)

pub runs_changed : (a b : ℕ) (old new : List ℕ) → eqb a b ≡ false → runs_of (a ∷ old) (b ∷ new) ≡ changed a (runs_of old new)
unfolding runs_of
runs_changed a b old new e = rw (e, runs_of)

-- a changed element joins the run that begins at once, or begins one
pub changed_joins : (a : ℕ) (r : Run) (rs : List Run) → eqb r.gap 0 ≡ true → changed a (r ∷ rs) ≡ record { gap = 0; bytes = a ∷ r.bytes } ∷ rs
unfolding changed
changed_joins a r rs e = rw (e, changed)

pub changed_begins : (a : ℕ) (r : Run) (rs : List Run) → eqb r.gap 0 ≡ false → changed a (r ∷ rs) ≡ record { gap = 0; bytes = a ∷ [] } ∷ r ∷ rs
unfolding changed
changed_begins a r rs e = rw (e, changed)

pub runs_end : (old new : List ℕ) (i : ℕ) → length old ≤ i → runs_at old new i ≡ []
unfolding runs_at runs_of
runs_end old new i h = rw (drop_of_length-le old {i = i} h, runs_of)

module _ (old new : List ℕ) (i : ℕ) (h : i < length old) (l : length new ≡ length old) where
  runs_front : runs_at old new i ≡ runs_of (get_or old i 0 ∷ drop (i + 1) old) (get_or new i 0 ∷ drop (i + 1) new)
  unfolding runs_at
  runs_front = rw (add-one i, drop-cons old i 0 h, drop-cons new i 0 (omega arith))

  pub kept_at : get_or old i 0 ≡ get_or new i 0 → runs_at old new i ≡ kept (runs_at old new (i + 1))
  unfolding runs_at
  kept_at e = runs_front ∙ runs_kept _ _ _ _ (eq-eqb _ _ e)

  pub changed_at : (get_or old i 0 ≡ get_or new i 0 → ⊥) → runs_at old new i ≡ changed (get_or old i 0) (runs_at old new (i + 1))
  unfolding runs_at
  changed_at e = runs_front ∙ runs_changed _ _ _ _ (ne_eqb _ _ e)

pub changed_is : (a : ℕ) (rs : List Run) → changed a rs ≡ record { gap = 0; bytes = a ∷ front rs } ∷ after_front rs
unfolding changed front after_front
changed_is a [] = refl
changed_is a (r ∷ rs) = go (eqb r.gap 0) refl
  where
    go : (t : Bool) → eqb r.gap 0 ≡ t → changed a (r ∷ rs) ≡ record { gap = 0; bytes = a ∷ front (r ∷ rs) } ∷ after_front (r ∷ rs)
    go true e = rw (e, changed, front, after_front)
    go false e = rw (e, changed, front, after_front)

pub front_changed : (a : ℕ) (rs : List Run) → front (changed a rs) ≡ a ∷ front rs
front_changed a rs = rw (changed_is a rs) (unfold front in refl)

pub after_front_changed : (a : ℕ) (rs : List Run) → after_front (changed a rs) ≡ after_front rs
after_front_changed a rs = rw (changed_is a rs) (unfold after_front in refl)

pub front_kept : (rs : List Run) → front (kept rs) ≡ []
unfolding front kept
front_kept [] = refl
front_kept (r ∷ rs) = rw (ne_eqb (suc r.gap) 0 (λ e. absurd (omega arith)), front)

pub later_none : (rs : List Run) → later 0 rs ≡ rs
unfolding later
later_none [] = refl
later_none (r ∷ rs) = ap (λ (g : ℕ). record { gap = g; bytes = r.bytes } ∷ rs) (omega arith)

pub later_kept : (n : ℕ) (rs : List Run) → later n (kept rs) ≡ later (n + 1) rs
unfolding later kept
later_kept n [] = refl
later_kept n (r ∷ rs) = ap (λ (g : ℕ). record { gap = g; bytes = r.bytes } ∷ rs) (omega arith)
