-- The answers of the C interface, a row's place aside.
use Rattle.std.specs.Prelude.{ℕ, Bool, ◌||◌, List, ◌≡◌, eqb}
use Rattle.refusal.specs.Number.{is_number}
use Rattle.state.specs.declared.Sizes.{Sizes}
use Rattle.anim.specs.Export.{WorldC, LentC, OutputC, SizesC, OpensC, StepsOnC, StepsBackC, row_c, WritesC, number_or}

-- the answer of a call that met its contract: a case for each exported function but `anim_row_place`, which answers a place
pub data Answers : ℕ → Type 0 where
  sizes : (file size : List ℕ) (r : ℕ) (size' : List ℕ) → SizesC file size r size' → Answers r
  opens : (file : List ℕ) (w : WorldC) (r : ℕ) (w' : WorldC) → OpensC file w r w' → Answers r
  steps_on : (file : List ℕ) (l : LentC) (r : ℕ) (l' : LentC) → StepsOnC file l r l' → Answers r
  steps_back : (w : WorldC) (rec : List ℕ) (r : ℕ) (w' : WorldC) → StepsBackC w rec r w' → Answers r
  rows : (plane row : ℕ) (state : List ℕ) (a b r : ℕ) → r ≡ number_or (row_c plane row state a b) → Answers r
  writes : (z : Sizes) (old new : List ℕ) (l : OutputC) (r : ℕ) (l' : OutputC) → WritesC z old new l r l' → Answers r

-- 0, 1 for End, or a refusal
abbrev pub is_answer : ℕ → Bool
is_answer n = is_number n || (eqb n 0 || eqb n 1)
