-- Laws of numbers in bytes: their bounds, a number as the sum of its bytes, and what is written read back.
use Prim.Native.Nat.{ℕ, ◌+◌, ◌*◌, ◌/◌, ◌%◌, ◌^◌, ◌<◌, ◌≤◌}
use native.Mathlib.Nat.{div-add-mod', div-lt_iff_lt-mul, div-div-eq-div-mul, mod-eq_of_lt, pow-suc}
use native.Mathlib.Decide.{dec_lt}
use native.Mathlib.Omega.{arith}
use mathlib.Core.Path.{◌≡◌, refl, sym, ◌∙◌}
use mathlib.Core.List.{List, [], ◌∷◌, ◌++◌}
use lib.Dec.{lit<}
use lib.ListN.{length, get_or, take, drop, length-take, get_or-eq_default}
use lib.Seq.{get_or-drop, get_or-take, take-add, drop-drop, get_or-append-add, get_or-append_seam}
use Rattle.laws.specs.Bytes.{be32, be32_bytes, word_of, Bytes}
use Rattle.laws.proofs.StoreLaws.{four_at, length_part}

pub be32_bound : (s : List ℕ) (at : ℕ) → Bytes s → be32 s at < 4294967296
unfolding be32
be32_bound s at h = omega (arith, h at, h (at + 1), h (at + 2), h (at + 3))

-- what is left of bytes is bytes
pub bytes_drop : (n : ℕ) (s : List ℕ) → Bytes s → Bytes (drop n s)
bytes_drop n s h i = rw (get_or-drop n s i 0) (h (n + i))

pub bytes_take : (n : ℕ) (s : List ℕ) → Bytes s → Bytes (take n s)
bytes_take n s h i = go (dec_lt i n)
  where
    go : Dec (i < n) → get_or (take n s) i 0 < 256
    go (yes k) = rw (get_or-take n s i 0 k) (h i)
    go (no k) = rw (get_or-eq_default (take n s) 0 {n = i} (omega (arith, length-take n s))) (omega arith)

-- a number below 2^32 is the sum of its four bytes
digits : (n a b c r s t u : ℕ) → a * 256 + r ≡ n → b * 256 + s ≡ a → c * 256 + t ≡ b → u ≡ c → u * 16777216 + t * 65536 + s * 256 + r ≡ n
digits n a b c r s t u p q e z = omega arith

top : (n : ℕ) → n < 4294967296 → n / 256 / 256 / 256 < 256
top n h = (div-lt_iff_lt-mul (lit< tt)).1 ((div-lt_iff_lt-mul (lit< tt)).1 ((div-lt_iff_lt-mul (lit< tt)).1 h))

pub four_bytes : (n : ℕ) → n < 4294967296 → n / 16777216 % 256 * 16777216 + n / 65536 % 256 * 65536 + n / 256 % 256 * 256 + n % 256 ≡ n
four_bytes n h =
    let e : n / 65536 ≡ n / 256 / 256 = sym (div-div-eq-div-mul n 256 256) in
    let e' : n / 16777216 ≡ n / 256 / 256 / 256 = sym (div-div-eq-div-mul n 256 65536) ∙ sym (div-div-eq-div-mul (n / 256) 256 256) in
    rw (e', e) (digits n (n / 256) (n / 256 / 256) (n / 256 / 256 / 256) (n % 256) (n / 256 % 256) (n / 256 / 256 % 256) (n / 256 / 256 / 256 % 256) (div-add-mod' n 256) (div-add-mod' (n / 256) 256) (div-add-mod' (n / 256 / 256) 256) (mod-eq_of_lt (top n h)))

pub length_be32 : (n : ℕ) → length (be32_bytes n) ≡ 4
unfolding be32_bytes
length_be32 n = refl

-- a number in four bytes is read back
pub be32_at : (xs ys : List ℕ) (n p : ℕ) → length xs ≡ p → n < 4294967296 → be32 (xs ++ (be32_bytes n ++ ys)) p ≡ n
unfolding be32 be32_bytes
be32_at xs ys n p e h =
    let l : List ℕ = be32_bytes n ++ ys in
    rw (← e) (rw (get_or-append_seam xs (n / 16777216 % 256) (n / 65536 % 256 ∷ n / 256 % 256 ∷ n % 256 ∷ ys) 0, get_or-append-add xs l 1 0, get_or-append-add xs l 2 0, get_or-append-add xs l 3 0) (four_bytes n h))

-- a word of four bytes at a place, and one of two halves
pub word_four : (s : List ℕ) (at : ℕ) → at + 4 ≤ length s → word_of (take 4 (drop at s)) ≡ get_or s at 0 + 256 * get_or s (at + 1) 0 + 65536 * get_or s (at + 2) 0 + 16777216 * get_or s (at + 3) 0
unfolding word_of
word_four s at h = rw (four_at s at h) (omega arith)

word_append : (xs ys : List ℕ) → word_of (xs ++ ys) ≡ word_of xs + 256 ^ length xs * word_of ys
unfolding word_of
word_append [] ys = omega arith
word_append (x ∷ xs) ys = rw (word_append xs ys, pow-suc 256 (length xs)) (omega arith)

pub word_halves : (s : List ℕ) (at : ℕ) → at + 8 ≤ length s → word_of (take 8 (drop at s)) ≡ word_of (take 4 (drop at s)) + 4294967296 * word_of (take 4 (drop (at + 4) s))
word_halves s at h =
    rw (take-add 4 4 (drop at s), drop-drop 4 at s, word_append (take 4 (drop at s)) (take 4 (drop (at + 4) s)), length_part s at 4 (omega arith))
