-- Laws of measuring and writing a column: the order of the checks, what is left in the buffer, and that a column that fits is written.
use Prim.Native.Nat.{ℕ, ◌+◌, ◌≤◌, ◌<◌}
use mathlib.Core.List.{List}
use mathlib.Core.Path.{◌≡◌, refl, sym}
use lib.ListN.{length}
use borrow.Author.Tests.{eq-eqb, le-leb, lt-leb}
use Rattle.laws.specs.Result.{Res.ok, Res.fault}
use Rattle.laws.specs.Put.{Put}
use Rattle.column_writer.specs.Column.{column_bytes}
use Rattle.column_writer.specs.Place.{column_length, placed, Places}

-- what measuring comes to
pub measured : (old new : List ℕ) → length old ≡ length new → length new ≤ 1024 → column_length old new ≡ ok (length (column_bytes old new))
unfolding column_length
measured old new l h = simp (eq-eqb _ _ l, le-leb _ _ h)

-- what writing answers, and what it leaves in the buffer
module _ (old new out : List ℕ) (at : ℕ) where
  pub not_measured : {k : ℕ} → column_length old new ≡ fault k → Places out at old new (fault k) out
  unfolding placed
  not_measured e = record { answer = simp e; buffer = refl }

  module _ {n : ℕ} (e : column_length old new ≡ ok n) where
    pub no_room : length out < at + n → Places out at old new (fault 51) out
    unfolding placed
    no_room h = record { answer = simp (e, lt-leb _ _ h); buffer = refl }

    pub fits : at + n ≤ length out → placed (length out) at old new ≡ ok (at + n)
    unfolding placed
    fits h = simp (e, le-leb _ _ h)

  pub is_written : {left : List ℕ} {next : ℕ} → length old ≡ length new → length new ≤ 1024 → at + length (column_bytes old new) ≤ length out → Put out at (column_bytes old new) left next → Places out at old new (ok next) left
  is_written l s h p = record { answer = rw p.place (sym (fits (measured old new l s) h)); buffer = p.left }
