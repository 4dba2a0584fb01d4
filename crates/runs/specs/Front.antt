-- The runs from a place of two lists on: the run that begins at once, if there is one, and those after it.
use Rattle.std.specs.Prelude.{ℕ, ◌+◌, true, false, List, [], ◌∷◌, eqb, drop}
use Rattle.runs.specs.Runs.{Run, runs_of}

-- the runs from a place of two lists on
unfoldable pub runs_at : List ℕ → List ℕ → ℕ → List Run
runs_at old new i = runs_of (drop i old) (drop i new)

-- the elements of a run that begins at once, and the runs after it
unfoldable pub front : List Run → List ℕ
front [] = []
front (r ∷ rs) = elim (eqb r.gap 0) [ true ↦ r.bytes | false ↦ [] ]

unfoldable pub after_front : List Run → List Run
after_front [] = []
after_front (r ∷ rs) = elim (eqb r.gap 0) [ true ↦ rs | false ↦ r ∷ rs ]

-- n unchanged elements in front of the runs
unfoldable pub later : ℕ → List Run → List Run
later n [] = []
later n (r ∷ rs) = record { gap = n + r.gap; bytes = r.bytes } ∷ rs
