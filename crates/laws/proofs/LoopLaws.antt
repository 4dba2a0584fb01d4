-- Laws of `iterate`: what a loop's proof cites where it begins, at each turn and where it returns; and what a theorem cites.
use Prim.Native.Nat.{ℕ, zero, suc, ◌<◌}
use native.Mathlib.Nat.{not-suc-le-zero, le_of_suc-le-suc, le_trans, le_refl}
use mathlib.Core.Path.{◌≡◌, refl, sym, ◌∙◌}
use mathlib.Core.Bool.{Bool, true, false}
use Rattle.laws.specs.Result.{pick}
use Rattle.laws.specs.Loop.{Step, Step.next, Step.done, run, iterate}
use Rattle.laws.proofs.ResultLaws.{pick_case, never}

-- a loop at the state s is on the way to the answer o
pub record Going {S O : Type 0} (f : S → Step S O) (left : S → ℕ) (late o : O) (s : S) : Type 0 where
  pub turns_left : ℕ
  pub enough : left s < turns_left
  pub same : o ≡ run f late turns_left s

module _ {S O : Type 0} (f : S → Step S O) (late : O) where
  run_done : (n : ℕ) (s : S) (o : O) → f s ≡ done o → run f late (suc n) s ≡ o
  run_done n s o e = rw (e, run)

  run_next : (n : ℕ) (s t : S) → f s ≡ next t → run f late (suc n) s ≡ run f late n t
  run_next n s t e = rw (e, run)

module _ {S O : Type 0} {f : S → Step S O} {left : S → ℕ} {late : O} where
  pub starts : {s : S} {o : O} → o ≡ iterate f left late s → Going f left late o s
  unfolding iterate
  starts {s} e = record { turns_left = suc (left s); enough = le_refl (suc (left s)); same = e }

  pub turns : {o : O} {s t : S} → Going f left late o s → f s ≡ next t → left t < left s → Going f left late o t
  turns {o} {s} {t} g e h = go g.turns_left g.enough g.same
    where
      go : (n : ℕ) → left s < n → o ≡ run f late n s → Going f left late o t
      go zero l p = absurd (not-suc-le-zero l)
      go (suc n) l p = record { turns_left = n; enough = le_trans h (le_of_suc-le-suc l); same = p ∙ run_next f late n s t e }

  pub stops : {o a : O} {s : S} → Going f left late o s → f s ≡ done a → a ≡ o
  stops {o} {a} {s} g e = go g.turns_left g.enough g.same
    where
      go : (n : ℕ) → left s < n → o ≡ run f late n s → a ≡ o
      go zero l p = absurd (not-suc-le-zero l)
      go (suc n) l p = sym (p ∙ run_done f late n s a e)

-- what a step comes to: P of the next state, or Q of the answer
pub data Comes {S O : Type 0} (P : S → Type 0) (Q : O → Type 0) : Step S O → Type 0 where
  comes_next : {t : S} → P t → Comes P Q (next t)
  comes_done : {o : O} → Q o → Comes P Q (done o)

pub comes_pick : {S O : Type 0} {P : S → Type 0} {Q : O → Type 0} (t : Bool) {x y : Step S O} → (t ≡ true → Comes P Q x) → (t ≡ false → Comes P Q y) → Comes P Q (pick t x y)
comes_pick {P = P} {Q = Q} t p q = pick_case (Comes P Q) t p q

-- what every step keeps, and every end comes to, holds of the answer
module _ {S O : Type 0} (f : S → Step S O) (left : S → ℕ) (late : O) (P : S → Type 0) (Q : O → Type 0) (at_late : Q late) (step : (s : S) → P s → Comes P Q (f s)) where
  run_holds : (n : ℕ) (s : S) → P s → Q (run f late n s)
  run_holds zero s p = at_late
  run_holds (suc n) s p = go (f s) refl (step s p) (λ t q. run_holds n t q)
    where
      go : (x : Step S O) → f s ≡ x → Comes P Q x → ((t : S) → P t → Q (run f late n t)) → Q (run f late (suc n) s)
      go (next t) e (comes_next q) ih = rw (run_next f late n s t e) (ih t q)
      go (done o) e (comes_done q) ih = rw (run_done f late n s o e) q

  pub iterate_holds : (s : S) → P s → Q (iterate f left late s)
  unfolding iterate
  iterate_holds s p = run_holds (suc (left s)) s p

-- what a step that goes on comes to
comes_at : {S O : Type 0} {P : S → Type 0} {Q : O → Type 0} {x : Step S O} {t : S} → Comes P Q x → x ≡ next t → P t
comes_at {P = P} {t = t} (comes_next {t = u} p) e = let q : u ≡ t = cc in rw q at p
comes_at (comes_done q) e = never (cc)

-- where `left` falls with each turn, turns to spare change nothing: the answer is that from the next state on
module _ {S O : Type 0} (f : S → Step S O) (left : S → ℕ) (late : O) (falls : (s : S) → Comes (λ (t : S). left t < left s) (λ (o : O). Unit {0}) (f s)) where
  to_spare : (n m : ℕ) (s : S) → left s < n → left s < m → run f late n s ≡ run f late m s
  to_spare zero m s h k = absurd (not-suc-le-zero h)
  to_spare (suc n) zero s h k = absurd (not-suc-le-zero k)
  to_spare (suc n) (suc m) s h k = go (f s) refl (falls s) (λ t l u. to_spare n m t l u)
    where
      go : (x : Step S O) → f s ≡ x → Comes (λ (t : S). left t < left s) (λ (o : O). Unit {0}) x → ((t : S) → left t < n → left t < m → run f late n t ≡ run f late m t)
          → run f late (suc n) s ≡ run f late (suc m) s
      go (next t) e (comes_next q) ih = run_next f late n s t e ∙ ih t (le_trans q (le_of_suc-le-suc h)) (le_trans q (le_of_suc-le-suc k)) ∙ sym (run_next f late m s t e)
      go (done o) e q ih = run_done f late n s o e ∙ sym (run_done f late m s o e)

  pub iterate_next : {s t : S} → f s ≡ next t → iterate f left late s ≡ iterate f left late t
  unfolding iterate
  iterate_next {s} {t} e = run_next f late (left s) s t e ∙ to_spare (left s) (suc (left t)) t (comes_at (falls s) e) (le_refl (suc (left t)))
