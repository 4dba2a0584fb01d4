-- Laws of results: what holds of a chain's value, if it comes to one.
use Prim.Native.Nat.{ℕ}
use native.Mathlib.Omega.{arith}
use mathlib.Core.Path.{◌≡◌, refl, sym, ap, ◌∙◌, subst}
use mathlib.Core.Bool.{Bool, true, false, not, ◌&&◌}
use mathlib.Core.Option.{Option, none, some}
use borrow.Author.Tests.{not-true, not-false}
use Rattle.laws.specs.Result.{Res, Res.ok, Res.fault, ◌>>=◌, need, or_refuse, answer, pick, ◌>>?◌, given}

-- P holds of the value, or there is none
pub data Each {A : Type 0} (P : A → Type 0) : Res A → Type 0 where
  each : {a : A} → P a → Each P (ok a)
  no_value : {n : ℕ} → Each P (fault n)

-- P holds of what there is, or there is nothing
pub data All {A : Type 0} (P : A → Type 0) : Option A → Type 0 where
  all_some : {a : A} → P a → All P (some a)
  all_none : All P none

-- two constructors are never equal: where a fact says that they are, `cc` shows that 0 is 1, and anything follows
pub never : {A : Type 0} → ◌≡◌ {A = ℕ} 0 1 → A
never z = absurd (omega arith)

-- a test doesn't come out both ways
pub false_true : {A : Type 0} → false ≡ true → A
false_true e = never (cc)

-- a result comes to one value, and isn't refused then
pub ok_same : {A : Type 0} {a b : A} → ok a ≡ ok b → a ≡ b
ok_same e = cc

pub ok_fault : {A B : Type 0} {a : A} {n : ℕ} → fault n ≡ ok a → B
ok_fault e = never (cc)

-- where a value was made of another, there is that other
pub made_of : {A B : Type 0} (r : Res A) {f : A → B} {b : B} → (r >>= λ a. ok (f a)) ≡ ok b → (a : A) × (r ≡ ok a) × (f a ≡ b)
made_of (ok a) e = (a, refl, ok_same e)
made_of (fault n) e = ok_fault e

pub made_refused : {A B : Type 0} (r : Res A) (f : A → B) {n : ℕ} → (r >>= λ a. ok (f a)) ≡ fault n → r ≡ fault n
made_refused (ok a) f e = never (cc)
made_refused (fault m) f {n} e = let q : m ≡ n = cc in rw q

-- a result is the value that it comes to
pub each_self : {A : Type 0} (r : Res A) → Each (λ (a : A). r ≡ ok a) r
each_self (ok a) = each refl
each_self (fault n) = no_value

pub each_bind : {A B : Type 0} {P : A → Type 0} {Q : B → Type 0} {r : Res A} {f : A → Res B} → Each P r → ((a : A) → P a → Each Q (f a)) → Each Q (r >>= f)
each_bind (each {a = a} p) q = q a p
each_bind no_value q = no_value

pub each_need : {B : Type 0} {Q : B → Type 0} (t : Bool) (n : ℕ) (f : Unit {0} → Res B) → (t ≡ true → Each Q (f tt)) → Each Q (need t n >>= f)
each_need true n f q = q refl
each_need false n f q = no_value

pub each_any : {A B : Type 0} {Q : B → Type 0} (r : Res A) {f : A → Res B} → ((a : A) → Each Q (f a)) → Each Q (r >>= f)
each_any (ok a) q = q a
each_any (fault n) q = no_value

pub each_map : {A : Type 0} {P Q : A → Type 0} {r : Res A} → ((a : A) → P a → Q a) → Each P r → Each Q r
each_map q (each {a = a} p) = each (q a p)
each_map q no_value = no_value

pub each_ok : {A : Type 0} {P : A → Type 0} {a : A} → Each P (ok a) → P a
each_ok (each p) = p

pub each_is : {A : Type 0} {P : A → Type 0} {r : Res A} {a : A} → r ≡ ok a → Each P r → P a
each_is {P = P} e p = each_ok (subst (Each P) e p)

-- what a function that answered a test says of it, where a branch asked for the negation
pub told_false : {r t : Bool} → r ≡ t → not r ≡ true → t ≡ false
told_false {r} e h = sym e ∙ not-true r h

pub told_true : {r t : Bool} → r ≡ t → not r ≡ false → t ≡ true
told_true {r} e h = sym e ∙ not-false r h

pub all_value : {A : Type 0} {P : A → Type 0} {a : A} → All P (some a) → P a
all_value (all_some p) = p

pub all_is : {A : Type 0} {P : A → Type 0} {o : Option A} {a : A} → o ≡ some a → All P o → P a
all_is {P = P} e p = all_value (subst (All P) e p)

-- the same of a chain of what is well formed or not
pub all_self : {A : Type 0} (o : Option A) → All (λ (a : A). o ≡ some a) o
all_self (some a) = all_some refl
all_self none = all_none

pub all_bind : {A B : Type 0} {P : A → Type 0} {Q : B → Type 0} {o : Option A} {f : A → Option B} → All P o → ((a : A) → P a → All Q (f a)) → All Q (o >>? f)
all_bind (all_some {a = a} p) q = q a p
all_bind all_none q = all_none

pub all_map : {A : Type 0} {P Q : A → Type 0} {o : Option A} → ((a : A) → P a → Q a) → All P o → All Q o
all_map q (all_some {a = a} p) = all_some (q a p)
all_map q all_none = all_none

pub all_given : {B : Type 0} {Q : B → Type 0} (t : Bool) (f : Unit {0} → Option B) → (t ≡ true → All Q (f tt)) → All Q (given t >>? f)
all_given true f q = q refl
all_given false f q = all_none

-- and of a result that is refused where there is none
pub each_of : {A : Type 0} {P : A → Type 0} (n : ℕ) {o : Option A} → All P o → Each P (or_refuse n o)
each_of n (all_some p) = each p
each_of n all_none = no_value

-- the same of a result that may be nothing
pub each_some : {A : Type 0} {P : A → Type 0} {r : Res (Option A)} {a : A} → r ≡ ok (some a) → Each (All P) r → P a
each_some e p = all_value (each_is e p)

-- what an answer comes to, from what its call ensures and the case that it is
pub told : {A B : Type 0} (of : A → B) {r x : A} {b : B} → of r ≡ b → r ≡ x → b ≡ of x
told of e w = sym e ∙ ap of w

-- what holds of both holds of the one that is picked; each need hold only where its test comes out so
pub pick_case : {A : Type 0} (P : A → Type 0) (t : Bool) {x y : A} → (t ≡ true → P x) → (t ≡ false → P y) → P (pick t x y)
pick_case P true p q = p refl
pick_case P false p q = q refl

pub pick_both : {A : Type 0} (P : A → Type 0) (t : Bool) {x y : A} → P x → P y → P (pick t x y)
pick_both P t p q = pick_case P t (λ _. p) (λ _. q)

pub each_pick : {A : Type 0} {P : A → Type 0} (t : Bool) {x y : Res A} → (t ≡ true → Each P x) → (t ≡ false → Each P y) → Each P (pick t x y)
each_pick {P = P} t p q = pick_case (Each P) t p q

-- the same of what is well formed or not: there is one value, and the tests on the way to it held
pub none_some : {A B : Type 0} {a : A} → none ≡ some a → B
none_some e = never (cc)

pub some_same : {A : Type 0} {a b : A} → some a ≡ some b → a ≡ b
some_same e = cc

pub given_some : {A : Type 0} (t : Bool) (f : Unit {0} → Option A) {a : A} → given t >>? f ≡ some a → (t ≡ true) × (f tt ≡ some a)
given_some true f e = (refl, e)
given_some false f e = none_some e

-- where nothing comes of the rest, a test before it changes nothing
pub given_none : {A : Type 0} (t : Bool) (f : Unit {0} → Option A) → f tt ≡ none → given t >>? f ≡ none
given_none true f e = e
given_none false f e = refl

-- what is made of a value does not change whether there is one
pub answer_ok : {A B : Type 0} (r : Res A) (f : A → B) → answer (r >>= λ a. ok (f a)) ≡ answer r
answer_ok (ok a) f = refl
answer_ok (fault n) f = refl

pub answered : {A : Type 0} (r : Res A) → ok tt ≡ answer r → (a : A) × (r ≡ ok a)
answered (ok a) e = (a, refl)
answered (fault n) e = never (cc)

pub answer_refused : {A : Type 0} (r : Res A) {n : ℕ} → answer r ≡ fault n → r ≡ fault n
answer_refused (ok a) e = never (cc)
answer_refused (fault m) {n} e = let q : m ≡ n = cc in rw q

-- two tests that hold together
pub two_true : (a b : Bool) → (a && b) ≡ true → (a ≡ true) × (b ≡ true)
two_true true b e = (refl, e)
two_true false b e = never (cc)
