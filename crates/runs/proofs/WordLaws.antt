-- Laws of words: the numbers that they are, and their bytes under bit operations.
use Prim.Native.Nat.{ℕ, zero, suc, ◌+◌, ◌*◌, ◌<◌, ◌≤◌}
use native.Mathlib.Decide.{ℕ_discrete as dec_eq}
use native.Mathlib.Omega.{arith}
use mathlib.Core.Bool.{Bool, true, ◌&&◌}
use mathlib.Core.List.{List, [], ◌∷◌, map, zip_with}
use mathlib.Core.Path.{◌≡◌, refl, ap, ◌∙◌}
use lib.Bits.{bit_and, bit_or, bit_xor, xor_lt, xor_block, and_block, and_le_r, or_block, or_lt}
use lib.Dec.{lit<, eqb}
use lib.ListN.{length, take, drop, replicate}
use borrow.Author.Tests.{eqb-true}
use Rattle.std.proofs.lemmas.List.{take_all}
use Rattle.std.specs.Int.{w64, from_le_bytes}
use Rattle.laws.proofs.BytesLaws.{word_four, word_halves}
use Rattle.laws.specs.Bytes.{word_of, Bytes}
use Rattle.laws.proofs.ResultLaws.{two_true}
use Rattle.runs.specs.Word.{zero_bytes}

-- eight bytes as a number, the lowest first
pub le_word : (s : List ℕ) → length s ≡ 8 → from_le_bytes w64 s ≡ word_of s
le_word s h =
    let all : take 8 (drop 0 s) ≡ s = take_all 8 s (omega arith) in
    omega (arith, rw all at (word_halves s 0 (omega arith)), word_four s 0 (omega arith), word_four s 4 (omega arith))

-- the bytes of the word of two words under a bit operation
pub xor_word : (xs ys : List ℕ) → length xs ≡ length ys → Bytes xs → Bytes ys → bit_xor (word_of xs) (word_of ys) ≡ word_of (zip_with bit_xor xs ys)
unfolding word_of zip_with
xor_word [] [] l hx hy = refl
xor_word [] (y ∷ ys) l hx hy = absurd (omega arith)
xor_word (x ∷ xs) [] l hx hy = absurd (omega arith)
xor_word (x ∷ xs) (y ∷ ys) l hx hy =
    xor_block 8 (word_of xs) (word_of ys) x y (hx 0) (hy 0)
    ∙ ap (λ (w : ℕ). w * 256 + bit_xor x y) (xor_word xs ys (omega arith) (λ i. hx (suc i)) (λ i. hy (suc i)))

pub xor_bytes : (xs ys : List ℕ) → Bytes xs → Bytes ys → Bytes (zip_with bit_xor xs ys)
unfolding zip_with
xor_bytes [] ys hx hy i = lit< tt
xor_bytes (x ∷ xs) [] hx hy i = lit< tt
xor_bytes (x ∷ xs) (y ∷ ys) hx hy zero = xor_lt 8 x y (hx 0) (hy 0)
xor_bytes (x ∷ xs) (y ∷ ys) hx hy (suc i) = xor_bytes xs ys (λ k. hx (suc k)) (λ k. hy (suc k)) i

-- what zero_bytes makes of one byte
unfoldable pub zero_byte : ℕ → ℕ
zero_byte = zero_bytes 127 128

unfoldable pub words : ℕ → ℕ → ℕ
words n b = word_of (replicate n b)

-- zero_bytes of a word goes byte by byte
pub zero_word : (xs : List ℕ) → Bytes xs → zero_bytes (words (length xs) 127) (words (length xs) 128) (word_of xs) ≡ word_of (map zero_byte xs)
unfolding zero_bytes zero_byte words word_of
zero_word [] h = refl
zero_word (x ∷ xs) h =
    let w : ℕ = word_of xs in
    let low : ℕ = word_of (replicate (length xs) 127) in
    let high : ℕ = word_of (replicate (length xs) 128) in
    let b : bit_and x 127 ≤ 127 = and_le_r x 127 in
    let p = bit_or (bit_and w low + low) w in
    let q = bit_or (bit_and x 127 + 127) x in
    let e : bit_and (w * 256 + x) (low * 256 + 127) + (low * 256 + 127) ≡ (bit_and w low + low) * 256 + (bit_and x 127 + 127) = omega (arith, and_block 8 w low x 127 (h 0) (lit< tt)) in
    let f : bit_or (bit_and (w * 256 + x) (low * 256 + 127) + (low * 256 + 127)) (w * 256 + x) ≡ p * 256 + q = rw e (or_block 8 (bit_and w low + low) w (bit_and x 127 + 127) x (omega arith) (h 0)) in
    let g : bit_and (p * 256 + q) (high * 256 + 128) ≡ bit_and p high * 256 + bit_and q 128 = and_block 8 p high q 128 (or_lt 8 (bit_and x 127 + 127) x (omega arith) (h 0)) (lit< tt) in
    rw (f, g, ← (zero_word xs (λ i. h (suc i)))) (omega (arith, and_le_r p high, and_le_r q 128))

-- 128 for 0, and 0 for every other byte
pub zero_of_zero : zero_byte 0 ≡ 128
unfolding zero_byte zero_bytes
zero_of_zero = refl

every : ℕ → (ℕ → Bool) → Bool
every zero p = true
every (suc n) p = p n && every n p

every_at : (n : ℕ) (p : ℕ → Bool) → every n p ≡ true → (k : ℕ) → k < n → p k ≡ true
unfolding every
every_at zero p e k h = absurd (omega arith)
every_at (suc n) p e k h = let w = two_true (p n) (every n p) e in go (dec_eq k n) w.0 (every_at n p w.1 k)
  where
    go : Dec (k ≡ n) → p n ≡ true → (k < n → p k ≡ true) → p k ≡ true
    go (yes f) w ih = rw f w
    go (no f) w ih = ih (omega arith)

pub zero_of_other : (x : ℕ) → 0 < x → x < 256 → zero_byte x ≡ 0
unfolding zero_byte zero_bytes every
zero_of_other zero l h = absurd (omega arith)
zero_of_other (suc x) l h = eqb-true _ _ (every_at 255 (λ n. eqb (zero_byte (suc n)) 0) refl x (omega arith))
