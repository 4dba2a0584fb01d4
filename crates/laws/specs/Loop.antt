-- What a loop computes: a step is taken again and again until one is done.
use Rattle.std.specs.Prelude.{ℕ, zero, suc}

-- what one turn gives: the state of the next turn, or the answer
pub data Step (S O : Type 0) : Type 0 where
  next : S → Step S O
  done : O → Step S O

-- at most n turns from s on; `late` is the answer where they are too few
abbrev pub run : {S O : Type 0} → (S → Step S O) → O → ℕ → S → O
run f late zero s = late
run f late (suc n) s = elim (f s) [ next t ↦ run f late n t | done o ↦ o ]

-- the answer from s on; where `left` falls with each turn, `late` is never the answer
unfoldable pub iterate : {S O : Type 0} → (S → Step S O) → (S → ℕ) → O → S → O
iterate f left late s = run f late (suc (left s)) s
