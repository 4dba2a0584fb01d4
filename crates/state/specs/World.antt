-- What a call hands on to the next (document 01, "Opening, stepping on, stepping back", and document 02, E6): both pictures, the colour map
-- and the state.
use Rattle.std.specs.Prelude.{ℕ, ◌%◌, Bool, List, eqb}
use Rattle.laws.specs.Result.{pick}
use Rattle.state.specs.declared.State.{State}

-- the pictures in buffers A and B, the map, and the state
pub record World : Type 0 where
  pub a : List ℕ
  pub b : List ℕ
  pub map : List ℕ
  pub state : State

-- whether a number is odd
unfoldable pub is_odd : ℕ → Bool
is_odd n = eqb (n % 2) 1

-- which of A and B is shown at a frame: odd frames are shown in A, even ones in B
abbrev pub shown_of : ℕ → (a b : List ℕ) → List ℕ
shown_of frame a b = pick (is_odd frame) a b

-- the hidden one is the other
abbrev pub hidden_of : ℕ → (a b : List ℕ) → List ℕ
hidden_of frame a b = pick (is_odd frame) b a

-- the shown and the hidden picture
unfoldable pub shown_in : World → List ℕ
shown_in w = shown_of w.state.frame w.a w.b

unfoldable pub hidden_in : World → List ℕ
hidden_in w = hidden_of w.state.frame w.a w.b

-- the same with another picture in the shown buffer, or in the hidden one, another map and another state
unfoldable pub with_shown : World → List ℕ → List ℕ → State → World
with_shown w p m s = record { a = pick (is_odd w.state.frame) p w.a; b = pick (is_odd w.state.frame) w.b p; map = m; state = s }

unfoldable pub with_hidden : World → List ℕ → List ℕ → State → World
with_hidden w p m s = record { a = pick (is_odd w.state.frame) w.a p; b = pick (is_odd w.state.frame) p w.b; map = m; state = s }
