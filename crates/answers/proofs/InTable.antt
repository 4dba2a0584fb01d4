-- A value, or a refusal with a number of the table, for what only reads another than 51, and how results of that kind are put together.
use Prim.Native.Nat.{ℕ}
use mathlib.Core.Bool.{Bool, true, false, ◌&&◌, not}
use mathlib.Core.Option.{Option, none, some}
use mathlib.Core.Path.{◌≡◌}
use lib.Dec.{eqb}
use Rattle.laws.specs.Result.{Res, Res.ok, Res.fault, ◌>>=◌, need, or_refuse}
use Rattle.laws.proofs.ResultLaws.{never, two_true}
use Rattle.refusal.specs.Number.{is_number}

-- a value, or a refusal with a number that the test takes
pub data Numbered {A : Type 0} (takes : ℕ → Bool) : Res A → Type 0 where
  table_value : {a : A} → Numbered takes (ok a)
  table_refusal : {n : ℕ} → takes n ≡ true → Numbered takes (fault n)

-- a number of the table but 51: nothing that only reads is refused with that
abbrev pub is_number_but51 : ℕ → Bool
is_number_but51 n = is_number n && not (eqb n 51)

-- a value, or a refusal with such a number
abbrev pub InTable : {A : Type 0} → Res A → Type 0
InTable q = Numbered is_number_but51 q

-- it is one of the table
pub listed : {A : Type 0} {q : Res A} → InTable q → Numbered is_number q
listed table_value = table_value
listed (table_refusal {n = n} h) = table_refusal (two_true (is_number n) (not (eqb n 51)) h).0

module _ {takes : ℕ → Bool} where
  pub table_number : {A : Type 0} {q : Res A} {n : ℕ} → Numbered takes q → q ≡ fault n → takes n ≡ true
  table_number table_value e = never (cc)
  table_number {n = n} (table_refusal {n = m} h) e = let z : m ≡ n = cc in rw z at h

  pub table_bind : {A B : Type 0} {r : Res A} {f : A → Res B} → Numbered takes r → ((a : A) → Numbered takes (f a)) → Numbered takes (r >>= f)
  table_bind (table_value {a = a}) k = k a
  table_bind (table_refusal h) k = table_refusal h

  pub table_need : {B : Type 0} (t : Bool) (n : ℕ) (f : Unit {0} → Res B) → takes n ≡ true → Numbered takes (f tt) → Numbered takes (need t n >>= f)
  table_need true n f h k = k
  table_need false n f h k = table_refusal h

  pub table_test : (t : Bool) (n : ℕ) → takes n ≡ true → Numbered takes (need t n)
  table_test true n h = table_value
  table_test false n h = table_refusal h

  pub table_refuse : {A : Type 0} (n : ℕ) (o : Option A) → takes n ≡ true → Numbered takes (or_refuse n o)
  table_refuse n (some a) h = table_value
  table_refuse n none h = table_refusal h
