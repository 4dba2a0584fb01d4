-- The longest stretches of elements that changed between two lists, in order: the bytes of a picture or of a map for a record, the
-- rows of a column for the writer (document 01, "Opening, stepping on, stepping back" and "The writer").
use Rattle.std.specs.Prelude.{ℕ, suc, ◌+◌, Bool, true, false, ◌&&◌, List, [], ◌∷◌, ◌++◌, eqb, length, take, drop, Option as Answer, Some, None}
use Rattle.std.proofs.Math.Option.{Option, none, some}
use Rattle.laws.specs.Result.{pick, ◌>>?◌, given}
use Rattle.runs.specs.declared.Change.{Change}

-- a run: the unchanged elements since the previous run, and what the first list has in the place of the changed ones
pub record Run : Type 0 where
  pub gap : ℕ
  pub bytes : List ℕ

-- one unchanged element in front of the runs
unfoldable pub kept : List Run → List Run
kept [] = []
kept (r ∷ rs) = record { gap = suc r.gap; bytes = r.bytes } ∷ rs

-- one changed element in front: it joins a run that begins at once
unfoldable pub changed : ℕ → List Run → List Run
changed a [] = record { gap = 0; bytes = a ∷ [] } ∷ []
changed a (r ∷ rs) = elim (eqb r.gap 0) [ true ↦ record { gap = 0; bytes = a ∷ r.bytes } ∷ rs | false ↦ record { gap = 0; bytes = a ∷ [] } ∷ r ∷ rs ]

-- the runs between what was and what is
unfoldable pub runs_of : List ℕ → List ℕ → List Run
runs_of [] new = []
runs_of (a ∷ old) [] = []
runs_of (a ∷ old) (b ∷ new) = elim (eqb a b) [ true ↦ kept (runs_of old new) | false ↦ changed a (runs_of old new) ]

-- how many elements differ
unfoldable pub differing : List ℕ → List ℕ → ℕ
differing [] new = 0
differing (a ∷ old) [] = 0
differing (a ∷ old) (b ∷ new) = pick (eqb a b) (differing old new) (suc (differing old new))

-- the first of the runs: its gap, and how many elements it has
pub record FirstRun : Type 0 where
  pub gap : ℕ
  pub count : ℕ

unfoldable pub first_run : List Run → Option FirstRun
first_run [] = none
first_run (r ∷ rs) = some (record { gap = r.gap; count = length r.bytes })

-- the next run from a place on; none for lists of two lengths
unfoldable pub next_run : List ℕ → List ℕ → ℕ → Option FirstRun
next_run old new at = given (eqb (length old) (length new)) >>? λ _. first_run (runs_of (drop at old) (drop at new))

-- what the answer says of it
abbrev pub change_of : Answer Change → Option FirstRun
change_of (Some c) = some (record { gap = c.gap; count = c.count })
change_of None = none

-- no old element equals the new one at its place
unfoldable pub differ : List ℕ → List ℕ → Bool
differ [] new = true
differ (a ∷ old) [] = false
differ (a ∷ old) (b ∷ new) = elim (eqb a b) [ true ↦ false | false ↦ differ old new ]

-- no element of a run equals the one that it replaces
unfoldable pub all_differ : List Run → List ℕ → Bool
all_differ [] f = true
all_differ (r ∷ rs) f = differ r.bytes (drop r.gap f) && all_differ rs (drop (r.gap + length r.bytes) f)

-- a list with the elements of runs in their places
unfoldable pub patch : List Run → List ℕ → List ℕ
patch [] f = f
patch (r ∷ rs) f = take r.gap f ++ r.bytes ++ patch rs (drop (r.gap + length r.bytes) f)
