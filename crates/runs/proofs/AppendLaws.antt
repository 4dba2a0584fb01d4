-- Laws of runs that follow others.
use Prim.Native.Nat.{ℕ, ◌+◌, ◌≤◌}
use native.Mathlib.Nat.{zero-add}
use native.Mathlib.Omega.{arith}
use mathlib.Core.Bool.{true, ◌&&◌, and_assoc}
use mathlib.Core.List.{List, [], ◌∷◌, ◌++◌}
use mathlib.Core.Path.{◌≡◌, refl, sym, ap, ◌∙◌}
use lib.Dec.{eqb}
use lib.ListN.{length, take, drop, length-append, length-drop}
use lib.Seq.{sets, sets-eq, drop-drop, length-take-le}
use Rattle.laws.proofs.StoreLaws.{sets_behind}
use borrow.Author.Tests.{eq-eqb}
use Rattle.runs.specs.Runs.{Run, kept, changed, runs_of, differ, all_differ, patch}
use Rattle.runs.proofs.RunLaws.{runs_kept, runs_changed}
use Rattle.runs.proofs.StretchLaws.{by_test}

-- the place after runs
unfoldable pub reach : List Run → ℕ
reach [] = 0
reach (r ∷ rs) = r.gap + length r.bytes + reach rs

pub reach_more : (rs : List Run) (r : Run) → reach (rs ++ (r ∷ [])) ≡ reach rs + (r.gap + length r.bytes)
unfolding reach
reach_more [] r = omega arith
reach_more (s ∷ rs) r = omega (arith, reach_more rs r)

pub differ_append : (rs ms : List Run) (f : List ℕ) → all_differ (rs ++ ms) f ≡ (all_differ rs f && all_differ ms (drop (reach rs) f))
unfolding all_differ reach
differ_append [] ms f = refl
differ_append (r ∷ rs) ms f =
    let rest = drop (r.gap + length r.bytes) f in
    rw (differ_append rs ms rest, drop-drop (reach rs) (r.gap + length r.bytes) f) (sym (and_assoc (differ r.bytes (drop r.gap f)) _ _))

pub patch_more : (rs : List Run) (r : Run) (f : List ℕ) → reach rs + (r.gap + length r.bytes) ≤ length f → patch (rs ++ (r ∷ [])) f ≡ sets (patch rs f) (reach rs + r.gap) r.bytes
unfolding patch reach
patch_more [] r f h = rw (zero-add r.gap) (sym (sets-eq r.bytes f r.gap (omega arith)))
patch_more (s ∷ rs) r f h =
    let front = take s.gap f ++ s.bytes in
    let rest = drop (s.gap + length s.bytes) f in
    let l : length front ≡ s.gap + length s.bytes = length-append (take s.gap f) s.bytes ∙ rw (length-take-le s.gap f (omega arith)) in
    let place : s.gap + length s.bytes + reach rs + r.gap ≡ length front + (reach rs + r.gap) = omega (arith, l) in
    ap (λ (t : List ℕ). front ++ t) (patch_more rs r rest (simp length-drop (omega arith)))
    ∙ sym (rw place (sets_behind front (patch rs rest) (reach rs + r.gap) r.bytes))

-- a list has no runs against itself
runs_same : (c : List ℕ) → runs_of c c ≡ []
runs_same [] = unfold runs_of in refl
runs_same (x ∷ c) = runs_kept x x c c (eq-eqb x x refl) ∙ rw (runs_same c) (unfold kept in refl)

-- what two lists have in common at their ends adds no runs
pub runs_common : (a b c : List ℕ) → length a ≡ length b → runs_of (a ++ c) (b ++ c) ≡ runs_of a b
runs_common [] [] c l = runs_same c ∙ sym (runs_same [])
runs_common [] (y ∷ b) c l = absurd (omega arith)
runs_common (x ∷ a) [] c l = absurd (omega arith)
runs_common (x ∷ a) (y ∷ b) c l =
    let ih = runs_common a b c (omega arith) in
    by_test true (eqb x y)
    (λ e. runs_kept x y (a ++ c) (b ++ c) e ∙ ap kept ih ∙ sym (runs_kept x y a b e))
    (λ e. runs_changed x y (a ++ c) (b ++ c) e ∙ ap (changed x) ih ∙ sym (runs_changed x y a b e))
