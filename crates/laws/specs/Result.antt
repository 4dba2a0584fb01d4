-- What a definition comes to: a value or a refusal number of document 01, chained so that the first refusal counts; and what holds of the
-- value, if there is one.
use Rattle.std.specs.Prelude.{ℕ, Bool, true, false}
use Rattle.std.proofs.Math.Option.{Option, none, some}

pub data Res (A : Type 0) : Type 0 where
  ok : A → Res A
  fault : ℕ → Res A

infixl 20 ◌>>=◌
-- the first refusal, or what the second makes of the first's value
abbrev pub ◌>>=◌ : {A B : Type 0} → Res A → (A → Res B) → Res B
◌>>=◌ (ok a) f = f a
◌>>=◌ (fault n) f = fault n

-- refuses with n unless the test holds
abbrev pub need : Bool → ℕ → Res (Unit {0})
need true n = ok tt
need false n = fault n

-- refuses with n where there is no value
abbrev pub or_refuse : {A : Type 0} → ℕ → Option A → Res A
or_refuse n (some a) = ok a
or_refuse n none = fault n

-- the value, or what was there before if there is none
abbrev pub or_keep : {A : Type 0} → A → Res A → A
or_keep b (ok a) = a
or_keep b (fault n) = b

-- what a call leaves: what is made of the value, or what was there before if there is none
abbrev pub leaves : {A B : Type 0} → B → (A → B) → Res A → B
leaves b f (ok a) = f a
leaves b f (fault n) = b

-- whether there is a value, with the refusal otherwise
abbrev pub answer : {A : Type 0} → Res A → Res (Unit {0})
answer (ok a) = ok tt
answer (fault n) = fault n

-- the first if the test holds, else the second
abbrev pub pick {ℓ} : {A : Type ℓ} → Bool → A → A → A
pick true a b = a
pick false a b = b

infixl 20 ◌>>?◌
-- a chain of what is well formed or not, with no number of its own
abbrev pub ◌>>?◌ : {A B : Type 0} → Option A → (A → Option B) → Option B
◌>>?◌ (some a) f = f a
◌>>?◌ none f = none

-- malformed unless the test holds
abbrev pub given : Bool → Option (Unit {0})
given true = some tt
given false = none
