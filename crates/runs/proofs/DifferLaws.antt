-- Laws of old elements that differ from the new ones at their places.
use Prim.Native.Nat.{ℕ, zero, suc, ◌<◌}
use native.Mathlib.Omega.{arith}
use mathlib.Core.Bool.{true, false}
use mathlib.Core.List.{List, [], ◌∷◌}
use mathlib.Core.Path.{◌≡◌, refl, sym, ◌∙◌}
use lib.Dec.{eqb}
use lib.ListN.{length, get_or, take}
use Rattle.runs.specs.Runs.{differ}
use Rattle.runs.proofs.StretchLaws.{by_test}

-- one element at the front
pub differ_more : (a b : ℕ) (old new : List ℕ) → eqb a b ≡ false → differ (a ∷ old) (b ∷ new) ≡ differ old new
unfolding differ
differ_more a b old new e = rw (e, differ)

pub differ_stop : (a b : ℕ) (old new : List ℕ) → eqb a b ≡ true → differ (a ∷ old) (b ∷ new) ≡ false
unfolding differ
differ_stop a b old new e = rw (e, differ)

-- one element more at the end
pub differ_on : (i : ℕ) (old new : List ℕ) → i < length old → i < length new → eqb (get_or old i 0) (get_or new i 0) ≡ false → differ (take (suc i) old) new ≡ differ (take i old) new
differ_on i [] new h k e = absurd (omega arith)
differ_on i (a ∷ old) [] h k e = absurd (omega arith)
differ_on zero (a ∷ old) (b ∷ new) h k e = differ_more a b [] new e ∙ unfold differ in refl
differ_on (suc i) (a ∷ old) (b ∷ new) h k e =
    by_test false (eqb a b)
    (λ t. differ_more a b (take (suc i) old) new t ∙ differ_on i old new (omega arith) (omega arith) e ∙ sym (differ_more a b (take i old) new t))
    (λ t. differ_stop a b (take (suc i) old) new t ∙ sym (differ_stop a b (take i old) new t))

pub differ_off : (i : ℕ) (old new : List ℕ) → i < length old → i < length new → eqb (get_or old i 0) (get_or new i 0) ≡ true → differ (take (suc i) old) new ≡ false
differ_off i [] new h k e = absurd (omega arith)
differ_off i (a ∷ old) [] h k e = absurd (omega arith)
differ_off zero (a ∷ old) (b ∷ new) h k e = differ_stop a b [] new e
differ_off (suc i) (a ∷ old) (b ∷ new) h k e =
    by_test false (eqb a b)
    (λ t. differ_more a b (take (suc i) old) new t ∙ differ_off i old new (omega arith) (omega arith) e)
    (λ t. differ_stop a b (take (suc i) old) new t)
