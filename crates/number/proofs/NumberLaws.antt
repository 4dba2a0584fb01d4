-- Laws of the numbers of a record: how they are written, that what is written is read back, and that what reads well is what would be written.
use Prim.Native.Nat.{ℕ, zero, suc, ◌+◌, ◌-◌, ◌/◌, ◌%◌, ◌^◌, ◌<◌, ◌≤◌}
use native.Mathlib.Nat.{le-div_iff_mul-le, one-le-pow, pow-suc}
use native.Mathlib.Omega.{arith}
use mathlib.Core.List.{List, [], ◌∷◌, ◌++◌}
use mathlib.Core.Logic.{inr}
use mathlib.Core.Option.{none, some}
use mathlib.Core.Path.{◌≡◌, refl, sym, ap, ◌∙◌}
use lib.Dec.{lit<}
use lib.ListN.{length, drop, length-drop}
use lib.Seq.{sets}
use borrow.Author.Tests.{le-leb, lt-leb}
use Rattle.laws.specs.Bytes.{Bytes}
use Rattle.laws.proofs.BytesLaws.{bytes_drop}
use Rattle.number.specs.Number.{Value, read_number, write_number, ReadAt, fits, after, laid}
use Rattle.std.specs.Prelude.{Some, None}
use Rattle.number.specs.declared.Number.{Number}
use Rattle.number.proofs.GroupLaws.{last_written, more_written, groups_most, groups_short, groups_few, high_below, Encoded, encoded, encoded_is, wider, encoded_length, read_back, Decoded, decoded, Front, decoded_front, decoded_taken}

-- one group of a number that is written
pub write_last : (n : ℕ) → n < 128 → write_number n ≡ n ∷ []
unfolding write_number
write_last n h = last_written 4 n h

pub write_more : (n : ℕ) → 128 ≤ n → n < 2 ^ 32 → write_number n ≡ (128 + n % 128) ∷ write_number (n / 128)
unfolding write_number
write_more n h l = more_written 3 n h ∙ ap (λ (t : List ℕ). (128 + n % 128) ∷ t) (sym (encoded_is (wider (encoded 3 (n / 128) (omega arith)))))

-- how many bytes are written: one for each power of 128 that the number reaches, and one more
pub length_last : (n : ℕ) → n < 128 → length (write_number n) ≡ 1
length_last n h = ap length (write_last n h)

pub length_more : (k n : ℕ) → n < 2 ^ 32 → 128 ^ suc k ≤ n → n < 128 ^ suc (suc k) → length (write_number n) ≡ suc (suc k)
length_more zero n f h l = rw (write_more n (omega arith) f, write_last (n / 128) (omega arith))
length_more (suc k) n f h l =
    let big : 128 ≤ n = omega (arith, pow-suc 128 (suc k), one-le-pow (suc k) 128 (lit< tt)) in
    rw (write_more n big f) (ap suc (length_more k (n / 128) (omega arith)
    ((le-div_iff_mul-le (lit< tt)).1 (rw (← (pow-suc 128 (suc k))) h)) (high_below (suc k) n l)))

write_encoded : (n : ℕ) → n < 2 ^ 32 → Encoded 4 n (write_number n)
unfolding write_number
write_encoded n h = encoded 4 n (omega arith)

pub write_length : (n : ℕ) → n < 2 ^ 32 → (1 ≤ length (write_number n)) × (length (write_number n) ≤ 5)
write_length n h = encoded_length (write_encoded n h)

pub write_most : (n : ℕ) → length (write_number n) ≤ 5
unfolding write_number
write_most n = groups_most 4 n

pub write_short : (n : ℕ) → length (write_number n) ≤ 1 + n / 128
unfolding write_number
write_short n = groups_short 4 n

-- a number below 128 ^ suc k takes at most suc k bytes
pub write_few : (k n : ℕ) → n < 128 ^ suc k → length (write_number n) ≤ suc k
unfolding write_number
write_few k n h = groups_few 4 k n h

-- what is written is read back
pub read_write : (n : ℕ) (s : List ℕ) → n < 2 ^ 32 → read_number (write_number n ++ s) ≡ some (record { value = n; rest = s })
unfolding read_number
read_write n s h = read_back (write_encoded n h) 1 0 s (inr refl) (omega arith) ∙ ap (λ (v : ℕ). some (record { value = v; rest = s })) (omega arith)

-- a number that was read is below 2^32, and its rest is what stands after it
read_decoded : {s : List ℕ} {v : Value} → read_number s ≡ some v → Decoded 5 1 0 s v
unfolding read_number
read_decoded {s} {v} e = decoded 5 1 0 s v e

pub read_front : (s : List ℕ) (v : Value) → read_number s ≡ some v → Front s v
read_front s v e = decoded_front (read_decoded e)

pub rest_bytes : (s : List ℕ) (v : Value) → Bytes s → read_number s ≡ some v → Bytes v.rest
rest_bytes s v y e = rw (read_front s v e).behind (bytes_drop (length s - length v.rest) s y)

-- what reads well is what would be written
pub write_read : (s : List ℕ) (v : Value) → Bytes s → read_number s ≡ some v → s ≡ write_number v.value ++ v.rest
unfolding write_number
write_read s v y e =
    let t = decoded_taken y (read_decoded e) in
    let n : v.value ≡ t.number = omega (arith, t.sum) in
    rw n t.split

-- bytes that fit at a place, and bytes that don't
pub fitting : (out : List ℕ) (at : ℕ) (bytes : List ℕ) {next : ℕ} {left : List ℕ} → at + length bytes ≤ length out
    → (next ≡ at + length bytes) × (left ≡ sets out at bytes) → (some next ≡ after out at bytes) × (left ≡ laid out at bytes)
unfolding fits after laid
fitting out at bytes h w = let e = le-leb (at + length bytes) (length out) h in (rw (e, w.0), rw e w.1)

pub not_fitting : (out : List ℕ) (at : ℕ) (bytes : List ℕ) → length out < at + length bytes → (none ≡ after out at bytes) × (out ≡ laid out at bytes)
unfolding fits after laid
not_fitting out at bytes h = let e = lt-leb (at + length bytes) (length out) h in (rw e, rw e)

-- what an answer of `read` tells its caller
pub record Found (s : List ℕ) (at value next : ℕ) : Type 0 where
  pub is : read_number (drop at s) ≡ some (record { value = value; rest = drop next s })
  pub later : at < next
  pub inside : next ≤ length s
  pub small : value < 2 ^ 32

pub number_found : {s : List ℕ} {at : ℕ} {n : Number} → ReadAt s at (Some n) → Found s at n.value n.next
number_found {s} {at} {n} w =
    let front = read_front (drop at s) (record { value = n.value; rest = drop n.next s }) (sym w.is) in
    record { is = sym w.is; later = omega (arith, w.within, length-drop n.next s, length-drop at s, front.shorter); inside = w.within; small = front.small }

pub none_found : {s : List ℕ} {at : ℕ} → ReadAt s at None → read_number (drop at s) ≡ none
none_found w = sym w.is
