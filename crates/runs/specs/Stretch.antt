-- What the private functions answer: how far two buffers agree or differ.
use Rattle.std.specs.Prelude.{ℕ, suc, ◌+◌, ◌≤◌, Bool, true, false, List, [], ◌∷◌, ◌≡◌, eqb, length, drop}
use Rattle.laws.specs.Result.{pick}

-- how many bytes at the front of two buffers are equal (t is true), or differ (t is false)
unfoldable pub stretch : Bool → List ℕ → List ℕ → ℕ
stretch t [] new = 0
stretch t (a ∷ old) [] = 0
stretch true (a ∷ old) (b ∷ new) = pick (eqb a b) (suc (stretch true old new)) 0
stretch false (a ∷ old) (b ∷ new) = pick (eqb a b) 0 (suc (stretch false old new))

-- a search for the end of such a stretch from a place on has come to the place i
pub record Scanned (t : Bool) (old new : List ℕ) (from i : ℕ) : Type 0 where
  pub inside : i ≤ length old
  pub same : i + stretch t (drop i old) (drop i new) ≡ from + stretch t (drop from old) (drop from new)
