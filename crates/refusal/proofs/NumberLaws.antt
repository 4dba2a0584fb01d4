-- Every refusal has a number of the table. The numbers have two digits. What `?` passes on is the refusal that it was given.
use Prim.Native.Nat.{ℕ, ◌<◌}
use native.Mathlib.Omega.{arith}
use mathlib.Core.Bool.{Bool, true, false, ◌&&◌, ◌||◌}
use mathlib.Core.List.{List, [], ◌∷◌}
use mathlib.Core.Path.{◌≡◌, refl}
use lib.Dec.{eqb, ltb}
use Rattle.std.specs.Prelude.{Result, Ok, Err, IsErrAnd}
use borrow.Author.Tests.{eqb-true, ltb-true}
use Rattle.laws.proofs.ResultLaws.{false_true}
use Rattle.refusal.specs.Number.{number_of, numbers, among, is_number}
use Rattle.refusal.specs.declared.Refusal.{Refusal}
use Rattle.refusal.specs.declared.Refusal.TheVariants.{OutsideLimits, BufferLength, FileTooLong, NoSuchRow, ChunkPastParent, NotFormAnim, NoPicture, BadBmhd, BadBody, NoDelta, ShortAnhd, UnknownMethod, UnknownInterleave, UnknownOptions, OddLongColumns, BadColours, BadPointer, DeltaTooShort, OpPastLastRow, WordPastPlane, NoRoom, LastFrame, BadRecord, OtherRecord}

pub is_number_lem : (r : Refusal) → is_number (number_of r) ≡ true
is_number_lem OutsideLimits = refl
is_number_lem BufferLength = refl
is_number_lem FileTooLong = refl
is_number_lem NoSuchRow = refl
is_number_lem ChunkPastParent = refl
is_number_lem NotFormAnim = refl
is_number_lem NoPicture = refl
is_number_lem BadBmhd = refl
is_number_lem BadBody = refl
is_number_lem NoDelta = refl
is_number_lem ShortAnhd = refl
is_number_lem UnknownMethod = refl
is_number_lem UnknownInterleave = refl
is_number_lem UnknownOptions = refl
is_number_lem OddLongColumns = refl
is_number_lem BadColours = refl
is_number_lem BadPointer = refl
is_number_lem DeltaTooShort = refl
is_number_lem OpPastLastRow = refl
is_number_lem WordPastPlane = refl
is_number_lem NoRoom = refl
is_number_lem LastFrame = refl
is_number_lem BadRecord = refl
is_number_lem OtherRecord = refl

-- one computed test over the numbers
all_below : ℕ → List ℕ → Bool
all_below b [] = true
all_below b (m ∷ ms) = ltb m b && all_below b ms

among_below : (b n : ℕ) (ms : List ℕ) → all_below b ms ≡ true → among n ms ≡ true → n < b
unfolding all_below
among_below b n [] a e = false_true e
among_below b n (m ∷ ms) a e = go (eqb n m) refl (ltb m b) refl (among_below b n ms) a e
  where
    go : (t : Bool) → eqb n m ≡ t → (u : Bool) → ltb m b ≡ u → (all_below b ms ≡ true → among n ms ≡ true → n < b) → u && all_below b ms ≡ true → t || among n ms ≡ true → n < b
    go true q true p later a e = omega (arith, eqb-true n m q, ltb-true m b p)
    go false q true p later a e = later a e
    go t q false p later a e = false_true a

pub two_digits : (n : ℕ) → is_number n ≡ true → n < 100
unfolding all_below
two_digits n e = among_below 100 n numbers refl e

-- a refusal that is passed on
pub err_is : {A : Type 0} {why : Refusal} (r : Result A Refusal) → IsErrAnd r (λ e. e ≡ why) → r ≡ Err why
err_is (Ok a) e = absurd e
err_is (Err x) e = rw e
