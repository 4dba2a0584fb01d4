-- Laws of the groups that a number is made of: one at a time, and for as many as there are.
use Prim.Native.Nat.{ℕ, zero, suc, ◌+◌, ◌-◌, ◌*◌, ◌/◌, ◌%◌, ◌^◌, ◌<◌, ◌≤◌}
use native.Mathlib.Nat.{div-add-mod, div-lt_iff_lt-mul, pow-suc}
use native.Mathlib.Decide.{dec_lt}
use native.Mathlib.Omega.{arith}
use mathlib.Core.Bool.{Bool, true, false}
use mathlib.Core.List.{List, [], ◌∷◌, ◌++◌}
use mathlib.Core.Logic.{◌⊎◌, inl, inr, ⊎_elim}
use mathlib.Core.Option.{none, some}
use mathlib.Core.Path.{◌≡◌, refl, sym, ap, subst, ◌∙◌}
use lib.Dec.{ltb, eqb, lit<}
use lib.ListN.{length, drop}
use borrow.Author.Tests.{lt-ltb, le-ltb, eq-eqb, ne_eqb, ltb-true, eqb-true}
use Rattle.laws.specs.Result.{pick}
use Rattle.laws.proofs.ResultLaws.{given_some, given_none, none_some, some_same, pick_both}
use Rattle.laws.specs.Bytes.{Bytes}
use Rattle.number.specs.Number.{Value, last_group, groups, write_groups}

-- one group of a number that is read
pub groups_none : (m a : ℕ) (s : List ℕ) → groups 0 m a s ≡ none
unfolding groups
groups_none m a s = refl

pub groups_end : (k m a : ℕ) → groups k m a [] ≡ none
unfolding groups
groups_end zero m a = refl
groups_end (suc k) m a = refl

pub groups_last : (k m a b : ℕ) (s : List ℕ) → b < 128 → groups (suc k) m a (b ∷ s) ≡ last_group m a b s
unfolding groups
groups_last k m a b s h = rw (lt-ltb b 128 h, groups)

pub groups_more : (k m a b : ℕ) (s : List ℕ) → 128 ≤ b → groups (suc k) m a (b ∷ s) ≡ groups k (m * 128) (a + m * (b - 128)) s
unfolding groups
groups_more k m a b s h = rw (le-ltb b 128 h, groups)

shortest_test : (m b : ℕ) → (0 < b) ⊎ (m ≡ 1) → pick (eqb m 1) true (ltb 0 b) ≡ true
shortest_test m b (inr p) = rw (eq-eqb m 1 p)
shortest_test m b (inl p) = rw (lt-ltb 0 b p) (pick_both (λ (t : Bool). t ≡ true) (eqb m 1) refl refl)

pub last_ok : (m a b : ℕ) (s : List ℕ) → (0 < b) ⊎ (m ≡ 1) → a + m * b < 2 ^ 32 → last_group m a b s ≡ some (record { value = a + m * b; rest = s })
unfolding last_group
last_ok m a b s p q = simp (lt-ltb (a + m * b) (2 ^ 32) q, shortest_test m b p)

pub last_big : (m a b : ℕ) (s : List ℕ) → 2 ^ 32 ≤ a + m * b → last_group m a b s ≡ none
unfolding last_group
last_big m a b s h = simp (le-ltb (a + m * b) (2 ^ 32) h)

pub last_zero : (m a b : ℕ) (s : List ℕ) → (m ≡ 1 → ⊥) → b ≡ 0 → last_group m a b s ≡ none
unfolding last_group
last_zero m a b s p q = given_none (ltb (a + m * b) (2 ^ 32)) _ (simp (ne_eqb m 1 p, le-ltb 0 b (omega arith)))

-- one group of a number that is written
pub last_written : (k n : ℕ) → n < 128 → write_groups k n ≡ n ∷ []
unfolding write_groups
last_written zero n h = refl
last_written (suc k) n h = rw (lt-ltb n 128 h, write_groups)

pub more_written : (k n : ℕ) → 128 ≤ n → write_groups (suc k) n ≡ (128 + n % 128) ∷ write_groups k (n / 128)
unfolding write_groups
more_written k n h = rw (le-ltb n 128 h, write_groups)

written_case : (P : List ℕ → Type 0) (k n : ℕ) → (n < 128 → P (n ∷ [])) → (128 ≤ n → P ((128 + n % 128) ∷ write_groups k (n / 128))) → P (write_groups (suc k) n)
written_case P k n p q = go (dec_lt n 128)
  where
    go : Dec (n < 128) → P (write_groups (suc k) n)
    go (yes h) = rw (last_written (suc k) n h) (p h)
    go (no h) = let l : 128 ≤ n = omega arith in rw (more_written k n l) (q l)

-- no more bytes than groups
pub groups_most : (k n : ℕ) → length (write_groups k n) ≤ suc k
groups_most zero n = unfold write_groups in omega arith
groups_most (suc k) n = let ih = groups_most k (n / 128) in written_case (λ (s : List ℕ). length s ≤ suc (suc k)) k n (λ h. omega arith) (λ h. omega arith)

-- one byte, and at most one more for each 128
pub groups_short : (k n : ℕ) → length (write_groups k n) ≤ 1 + n / 128
groups_short zero n = unfold write_groups in omega arith
groups_short (suc k) n = let ih = groups_short k (n / 128) in written_case (λ (s : List ℕ). length s ≤ 1 + n / 128) k n (λ h. omega arith) (λ h. omega arith)

-- without its last seven bits a number below 128 ^ suc (suc k) is below 128 ^ suc k
pub high_below : (k n : ℕ) → n < 128 ^ suc (suc k) → n / 128 < 128 ^ suc k
high_below k n h = (div-lt_iff_lt-mul (lit< tt)).1 (rw (← (pow-suc 128 (suc k))) h)

-- a number below 128 ^ suc j takes at most suc j bytes
pub groups_few : (k j n : ℕ) → n < 128 ^ suc j → length (write_groups k n) ≤ suc j
groups_few zero j n h = unfold write_groups in omega arith
groups_few (suc k) zero n h = let l : n < 128 = omega arith in rw (last_written (suc k) n l) (omega arith)
groups_few (suc k) (suc j) n h = let ih = groups_few k j (n / 128) (high_below j n h) in written_case (λ (s : List ℕ). length s ≤ suc (suc j)) k n (λ l. omega arith) (λ l. omega arith)

-- bytes that are n in shortest form, at most suc k of them
pub data Encoded : ℕ → ℕ → List ℕ → Type 0 where
  encoded_last : {k n : ℕ} → n < 128 → Encoded k n (n ∷ [])
  encoded_more : {k n : ℕ} {bytes : List ℕ} → 128 ≤ n → Encoded k (n / 128) bytes → Encoded (suc k) n ((128 + n % 128) ∷ bytes)

pub encoded : (k n : ℕ) → n < 128 ^ suc k → Encoded k n (write_groups k n)
encoded zero n h = let l : n < 128 = omega arith in rw (last_written 0 n l) (encoded_last l)
encoded (suc k) n h = let ih = encoded k (n / 128) (high_below k n h) in written_case (Encoded (suc k) n) k n (λ l. encoded_last l) (λ l. encoded_more l ih)

pub encoded_is : {k n : ℕ} {bytes : List ℕ} → Encoded k n bytes → write_groups k n ≡ bytes
encoded_is (encoded_last {k = k} {n = n} h) = last_written k n h
encoded_is (encoded_more {k = k} {n = n} h w) = more_written k n h ∙ ap (λ (t : List ℕ). (128 + n % 128) ∷ t) (encoded_is w)

pub wider : {k n : ℕ} {bytes : List ℕ} → Encoded k n bytes → Encoded (suc k) n bytes
wider (encoded_last h) = encoded_last h
wider (encoded_more h w) = encoded_more h (wider w)

pub encoded_length : {k n : ℕ} {bytes : List ℕ} → Encoded k n bytes → (1 ≤ length bytes) × (length bytes ≤ suc k)
encoded_length (encoded_last h) = (omega arith, omega arith)
encoded_length (encoded_more h w) = let l = encoded_length w in (omega arith, omega arith)

-- what is encoded is read back
sum_again : (m a n : ℕ) → a + m * (128 + n % 128 - 128) + m * 128 * (n / 128) ≡ a + m * n
sum_again m a n =
    let e : 128 + n % 128 - 128 ≡ n % 128 = omega arith in
    rw e (omega (arith, ap (λ (x : ℕ). m * x) (div-add-mod n 128)))

pub read_back : {k n : ℕ} {bytes : List ℕ} → Encoded k n bytes → (m a : ℕ) (s : List ℕ) → (0 < n) ⊎ (m ≡ 1) → a + m * n < 2 ^ 32
    → groups (suc k) m a (bytes ++ s) ≡ some (record { value = a + m * n; rest = s })
read_back (encoded_last {k = k} {n = n} h) m a s p q = groups_last k m a n s h ∙ last_ok m a n s p q
read_back (encoded_more {k = k} {n = n} {bytes = bytes} h w) m a s p q =
    groups_more (suc k) m a (128 + n % 128) (bytes ++ s) (omega arith)
    ∙ read_back w (m * 128) (a + m * (128 + n % 128 - 128)) s (inl (omega arith)) (rw (sum_again m a n) q)
    ∙ ap (λ (v : ℕ). some (record { value = v; rest = s })) (sum_again m a n)

-- how at most k groups at the front of s were read, at weight m, after groups that come to a
pub data Decoded : ℕ → ℕ → ℕ → List ℕ → Value → Type 0 where
  decoded_last : {k m a b : ℕ} {s : List ℕ} → b < 128 → (0 < b) ⊎ (m ≡ 1) → a + m * b < 2 ^ 32 → Decoded (suc k) m a (b ∷ s) (record { value = a + m * b; rest = s })
  decoded_more : {k m a b : ℕ} {s : List ℕ} {v : Value} → 128 ≤ b → Decoded k (m * 128) (a + m * (b - 128)) s v → Decoded (suc k) m a (b ∷ s) v

shortest_told : (m b : ℕ) → pick (eqb m 1) true (ltb 0 b) ≡ true → (0 < b) ⊎ (m ≡ 1)
shortest_told m b e = go (eqb m 1) refl e
  where
    go : (t : Bool) → eqb m 1 ≡ t → pick t true (ltb 0 b) ≡ true → (0 < b) ⊎ (m ≡ 1)
    go true e p = inr (eqb-true m 1 e)
    go false e p = inl (ltb-true 0 b p)

last_decoded : (k m a b : ℕ) (s : List ℕ) (v : Value) → b < 128 → last_group m a b s ≡ some v → Decoded (suc k) m a (b ∷ s) v
unfolding last_group
last_decoded k m a b s v h e =
    let below = given_some _ _ e in
    let shortest = given_some _ _ below.1 in
    subst (Decoded (suc k) m a (b ∷ s)) (some_same shortest.1) (decoded_last h (shortest_told m b shortest.0) (ltb-true _ _ below.0))

pub decoded : (k m a : ℕ) (s : List ℕ) (v : Value) → groups k m a s ≡ some v → Decoded k m a s v
decoded zero m a s v e = none_some (sym (groups_none m a s) ∙ e)
decoded (suc k) m a [] v e = none_some (sym (groups_end (suc k) m a) ∙ e)
decoded (suc k) m a (b ∷ s) v e = go (dec_lt b 128) (decoded k (m * 128) (a + m * (b - 128)) s v)
  where
    go : Dec (b < 128) → (groups k (m * 128) (a + m * (b - 128)) s ≡ some v → Decoded k (m * 128) (a + m * (b - 128)) s v) → Decoded (suc k) m a (b ∷ s) v
    go (yes h) d = last_decoded k m a b s v h (sym (groups_last k m a b s h) ∙ e)
    go (no h) d = let big : 128 ≤ b = omega arith in decoded_more big (d (sym (groups_more k m a b s big) ∙ e))

-- the value and the rest of a number that was read
pub record Front (s : List ℕ) (v : Value) : Type 0 where
  pub small : v.value < 2 ^ 32
  pub shorter : length v.rest < length s
  pub behind : v.rest ≡ drop (length s - length v.rest) s

pub decoded_front : {k m a : ℕ} {s : List ℕ} {v : Value} → Decoded k m a s v → Front s v
decoded_front (decoded_last {b = b} {s = s} h p q) =
    let e : suc (length s) - length s ≡ 1 = omega arith in
    record { small = q; shorter = omega arith; behind = rw e }
decoded_front (decoded_more {b = b} {s = s} {v = v} h d) =
    let f = decoded_front d in
    let e : suc (length s) - length v.rest ≡ suc (length s - length v.rest) = omega arith in
    record { small = f.small; shorter = omega arith; behind = rw e f.behind }

-- the bytes of a number that was read are those that would be written
pub record Taken (k m a : ℕ) (s : List ℕ) (v : Value) : Type 0 where
  pub number : ℕ
  pub shortest : (0 < number) ⊎ (m ≡ 1)
  pub sum : v.value ≡ a + m * number
  pub split : s ≡ write_groups k number ++ v.rest

cons_written : (k b n : ℕ) → 128 ≤ b → b < 256 → 0 < n → write_groups (suc k) (b - 128 + 128 * n) ≡ b ∷ write_groups k n
cons_written k b n h l p =
    let high : (b - 128 + 128 * n) / 128 ≡ n = omega arith in
    let low : 128 + (b - 128 + 128 * n) % 128 ≡ b = omega arith in
    more_written k (b - 128 + 128 * n) (omega arith) ∙ rw (high, low)

pub decoded_taken : {k m a : ℕ} {s : List ℕ} {v : Value} → Bytes s → Decoded (suc k) m a s v → Taken k m a s v
decoded_taken {k = k} y (decoded_last {b = b} h p q) = record { number = b; shortest = p; sum = refl; split = rw (last_written k b h) }
decoded_taken y (decoded_more {k = zero} h d) = elim d [ ]
decoded_taken y (decoded_more {k = suc k} {b = b} h d) =
    let t = decoded_taken (λ i. y (suc i)) d in
    let p : 0 < t.number = ⊎_elim (λ p. p) (λ e. absurd (omega arith)) t.shortest in
    record {
      number = b - 128 + 128 * t.number;
      shortest = inl (omega arith);
      sum = t.sum ∙ omega arith;
      split = rw (cons_written k b t.number h (y 0) p) (ap (λ (x : List ℕ). b ∷ x) t.split);
    }
