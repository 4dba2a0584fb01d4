-- Laws of texts that go to the front of a buffer, as far as it goes.
use Prim.Native.Nat.{ℕ, zero, suc, ◌+◌, ◌-◌, ◌/◌, ◌%◌, ◌<◌, ◌≤◌, min}
use native.Mathlib.Omega.{arith}
use mathlib.Core.Bool.{Bool, true, false}
use mathlib.Core.List.{List, [], ◌∷◌, ◌++◌, append_assoc}
use mathlib.Core.Path.{◌≡◌, refl, sym, ap, ◌∙◌}
use lib.Dec.{ltb}
use lib.ListN.{length, take, drop, length-append, length-take, length-drop}
use lib.Seq.{take_at, drop_at, take-append-add, drop-append-add, drop-drop, length-take-le}
use borrow.Author.Tests.{lt-ltb, le-ltb, ltb-false}
use Rattle.laws.specs.Store.{over}
use Rattle.laws.proofs.StoreLaws.{length_over}
use Rattle.lines.specs.Lines.{digits, decimal, Adds}

take_append : (n : ℕ) (xs ys : List ℕ) → take n (xs ++ ys) ≡ take n xs ++ take (n - length xs) ys
take_append zero xs ys = let e : zero - length xs ≡ 0 = omega arith in rw e refl
take_append (suc n) [] ys = let e : suc n - 0 ≡ suc n = omega arith in rw e refl
take_append (suc n) (x ∷ xs) ys = let e : n - length xs ≡ suc n - length (x ∷ xs) = omega arith in ap (λ (t : List ℕ). x ∷ t) (take_append n xs ys ∙ ap (λ (k : ℕ). take n xs ++ take k ys) e)

-- two texts, one after the other
over_append : (xs ys d : List ℕ) → over d (xs ++ ys) ≡ take (length d) xs ++ over (drop (length xs) d) ys
unfolding over
over_append xs ys d = simp (take_append (length d) xs ys, length-append xs ys, length-drop (length xs) d, drop-drop (length ys) (length xs) d, append_assoc)

-- past a front of a known length
seam_take : (p q : List ℕ) (n m : ℕ) → length p ≡ n → take (n + m) (p ++ q) ≡ p ++ take m q
seam_take p q n m e = rw (sym e) (take-append-add p q m)

seam_drop : (p q : List ℕ) (n m : ℕ) → length p ≡ n → drop (n + m) (p ++ q) ≡ drop m q
seam_drop p q n m e = rw (sym e) (drop-append-add p q m)

-- where the first one ends
take_over : (q : ℕ) (xs d : List ℕ) → q ≡ min (length xs) (length d) → take q (over d xs) ≡ take (length d) xs
unfolding over
take_over q xs d e =
    let l : length (take (length d) xs) ≡ q = length-take (length d) xs ∙ omega arith in
    take_at (take (length d) xs) (drop (length xs) d) q l

drop_over : (q : ℕ) (xs d : List ℕ) → q ≡ min (length xs) (length d) → drop q (over d xs) ≡ drop (length xs) d
unfolding over
drop_over q xs d e =
    let l : length (take (length d) xs) ≡ q = length-take (length d) xs ∙ omega arith in
    drop_at (take (length d) xs) (drop (length xs) d) q l

module _ {out : List ℕ} {at : ℕ} {bytes out' : List ℕ} {next : ℕ} (v : Adds out at bytes out' next) where
  head : length (take at out) ≡ at
  head = length-take-le at out v.from

  pub adds_size : length out' ≡ length out
  adds_size = ap length v.left ∙ length-append (take at out) (over (drop at out) bytes) ∙ omega (arith, head, length_over bytes (drop at out), length-drop at out, v.from)

  pub adds_room : next ≤ length out'
  adds_room = omega (arith, v.place, adds_size)

pub adds_then : {out : List ℕ} {at : ℕ} {xs ys out' out'' : List ℕ} {p q : ℕ} → Adds out at xs out' p → Adds out' p ys out'' q → Adds out at (xs ++ ys) out'' q
adds_then {out} {at} {xs} {ys} {out'} {out''} {p} {q} v w =
    let d : List ℕ = drop at out in
    let m : p - at ≡ min (length xs) (length d) = omega (arith, v.place, v.from, length-drop at out) in
    let k : p ≡ at + (p - at) = omega (arith, v.place, v.from) in
    let f : take p out' ≡ take at out ++ take (length d) xs = rw (v.left, k) (seam_take (take at out) (over d xs) at (p - at) (head v) ∙ ap (λ (t : List ℕ). take at out ++ t) (take_over (p - at) xs d m)) in
    let g : drop p out' ≡ drop (length xs) d = rw (v.left, k) (seam_drop (take at out) (over d xs) at (p - at) (head v) ∙ drop_over (p - at) xs d m) in
    record {
      from = v.from;
      place = omega (arith, w.place, v.place, adds_size v, length-append xs ys, v.from);
      left = w.left ∙ rw (f, g) (append_assoc (take at out) (take (length d) xs) (over (drop (length xs) d) ys) ∙ ap (λ (t : List ℕ). take at out ++ t) (sym (over_append xs ys d)));
    }

-- the same bytes by another name
pub adds_as : {out : List ℕ} {at : ℕ} {xs ys out' : List ℕ} {next : ℕ} → Adds out at xs out' next → ys ≡ xs → Adds out at ys out' next
adds_as v e = rw e v

-- at a place within the buffer
pub adds_at : {out : List ℕ} {at : ℕ} {bytes out' : List ℕ} {next : ℕ} → at ≤ length out → Adds out (min at (length out)) bytes out' next → Adds out at bytes out' next
adds_at {out} {at} h v = let e : min at (length out) ≡ at = omega arith in rw e at v

-- at the front of a buffer
pub adds_front : {out bytes out' : List ℕ} {next : ℕ} → Adds out 0 bytes out' next → (out' ≡ over out bytes) × (next ≡ min (length bytes) (length out))
adds_front {out} {bytes} v = (v.left, v.place ∙ omega arith)

-- decimal numbers, digit by digit
enough : (k l n : ℕ) → n < k → n < l → digits k n ≡ digits l n
enough zero l n h i = absurd (omega arith)
enough (suc k) zero n h i = absurd (omega arith)
enough (suc k) (suc l) n h i = go (ltb n 10) refl (λ m. enough k l (n / 10) (omega arith) (omega arith))
  where
    go : (t : Bool) → ltb n 10 ≡ t → (10 ≤ n → digits k (n / 10) ≡ digits l (n / 10)) → digits (suc k) n ≡ digits (suc l) n
    go true e ih = rw (e, digits) refl
    go false e ih = rw (e, digits) (ap (λ (t : List ℕ). t ++ ((48 + n % 10) ∷ [])) (ih (ltb-false n 10 e)))

pub decimal_digit : (n : ℕ) → n < 10 → decimal n ≡ (48 + n) ∷ []
unfolding decimal
decimal_digit n h = rw (lt-ltb n 10 h, digits) refl

pub decimal_more : (n : ℕ) → 10 ≤ n → decimal n ≡ decimal (n / 10) ++ ((48 + n % 10) ∷ [])
unfolding decimal
decimal_more n h = rw (le-ltb n 10 h, digits) (ap (λ (t : List ℕ). t ++ ((48 + n % 10) ∷ [])) (enough n (suc (n / 10)) (n / 10) (omega arith) (omega arith)))
