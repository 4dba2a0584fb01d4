-- Laws of numbers in bytes: what is written reads back, and numbers laid one after the other fill their buffer.
use Prim.Native.Nat.{ℕ, zero, suc, ◌<◌, ◌+◌, ◌-◌, ◌*◌, ◌/◌, ◌%◌}
use native.Mathlib.Numerals.{add-one}
use native.Mathlib.Omega.{arith}
use mathlib.Core.List.{List, [], ◌∷◌, ◌++◌, append-nil, append_assoc}
use mathlib.Core.Path.{◌≡◌, refl, sym, ◌∙◌}
use lib.ListN.{length, get_or, take, drop, length-append, drop_of_length-le}
use lib.Seq.{sets-eq, take-suc, drop-drop, drop-append_seam}
use borrow.Author.Tests.{eq-eqb, ne_eqb}
use Rattle.std.proofs.lemmas.Nat.{le_bytes_8}
use Rattle.std.specs.Int.{w64, from_le_bytes, to_le_bytes}
use Rattle.laws.specs.Bytes.{word_of}
use Rattle.laws.proofs.BytesLaws.{four_bytes}
use Rattle.laws.proofs.StoreLaws.{sets_part}
use Rattle.laws.specs.Put.{Put}
use Rattle.laws.proofs.PutLaws.{put_is, put_nothing, put_then}
use Rattle.state.specs.declared.State.{State}
use Rattle.words.specs.Words.{le64, read_state, state_words, le32_bytes, le64_bytes, words_bytes, lay}

length_four : (n : ℕ) → length (le32_bytes n) ≡ 4
unfolding le32_bytes
length_four n = refl

length_eight : (n : ℕ) → length (le64_bytes n) ≡ 8
unfolding le64_bytes
length_eight n = omega (arith, length-append (le32_bytes (n % 4294967296)) (le32_bytes (n / 4294967296)), length_four (n % 4294967296), length_four (n / 4294967296))

words_length : (ns : List ℕ) → length (words_bytes ns) ≡ 8 * length ns
unfolding words_bytes
words_length [] = refl
words_length (n ∷ ns) = omega (arith, length-append (le64_bytes n) (words_bytes ns), length_eight n, words_length ns)

pub put_none : {out : List ℕ} → Put out 0 (words_bytes []) out 0
unfolding words_bytes
put_none = put_nothing

words_more : (ns : List ℕ) (n : ℕ) → words_bytes (ns ++ (n ∷ [])) ≡ words_bytes ns ++ le64_bytes n
unfolding words_bytes
words_more [] n = append-nil (le64_bytes n)
words_more (m ∷ ns) n = rw (words_more ns n) (sym (append_assoc (le64_bytes m) (words_bytes ns) (le64_bytes n)))

put_more : {out out' out'' : List ℕ} (ns : List ℕ) (n : ℕ) {p q : ℕ} → Put out 0 (words_bytes ns) out' p → Put out' p (le64_bytes n) out'' q → Put out 0 (words_bytes (ns ++ (n ∷ []))) out'' q
put_more ns n v w = rw (words_more ns n) (put_then v w)

-- numbers that fill their buffer, and a buffer of another length
pub laid : {out out' : List ℕ} (ns : List ℕ) {p : ℕ} → length out ≡ 8 * length ns → Put out 0 (words_bytes ns) out' p → out' ≡ lay out ns
unfolding lay
laid {out} {out'} ns h v =
    let l = words_length ns in
    simp (eq-eqb (length out) (8 * length ns) h) (v.left ∙ sets-eq (words_bytes ns) out 0 (omega (arith, l)) ∙ simp (drop_of_length-le out {i = 0 + length (words_bytes ns)} (omega (arith, l)), append-nil))

pub not_laid : {out : List ℕ} (ns : List ℕ) → (length out ≡ 8 * length ns → ⊥) → out ≡ lay out ns
unfolding lay
not_laid {out} ns h = simp (ne_eqb (length out) (8 * length ns) h)

-- eight bytes as one number, in the library's words and in these
pub number_of_eight : (s : List ℕ) → length s ≡ 8 → from_le_bytes w64 s ≡ word_of s
unfolding word_of
number_of_eight [] l = absurd (omega arith)
number_of_eight (a ∷ []) l = absurd (omega arith)
number_of_eight (a ∷ b ∷ []) l = absurd (omega arith)
number_of_eight (a ∷ b ∷ c ∷ []) l = absurd (omega arith)
number_of_eight (a ∷ b ∷ c ∷ d ∷ []) l = absurd (omega arith)
number_of_eight (a ∷ b ∷ c ∷ d ∷ e ∷ []) l = absurd (omega arith)
number_of_eight (a ∷ b ∷ c ∷ d ∷ e ∷ f ∷ []) l = absurd (omega arith)
number_of_eight (a ∷ b ∷ c ∷ d ∷ e ∷ f ∷ g ∷ []) l = absurd (omega arith)
number_of_eight (a ∷ b ∷ c ∷ d ∷ e ∷ f ∷ g ∷ h ∷ []) l = omega arith
number_of_eight (a ∷ b ∷ c ∷ d ∷ e ∷ f ∷ g ∷ h ∷ x ∷ s) l = absurd (omega arith)

-- what is written reads back
eight_skip : (xs s : List ℕ) (k : ℕ) → le64 (xs ++ s) (length xs + k) ≡ le64 s k
unfolding le64
eight_skip xs s k = rw (← drop-drop k (length xs) (xs ++ s), drop-append_seam xs s)

eight_back : (n : ℕ) (r : List ℕ) → n < 18446744073709551616 → le64 (le64_bytes n ++ r) 0 ≡ n
unfolding le64 le64_bytes le32_bytes word_of
eight_back n r h = omega (arith, four_bytes (n % 4294967296) (omega arith), four_bytes (n / 4294967296) (omega arith))

-- the bytes of a number, in the library's words and in these
eight_small : (n i : ℕ) → get_or (le64_bytes n) i 0 < 256
unfolding le64_bytes le32_bytes
eight_small n zero = omega arith
eight_small n (suc zero) = omega arith
eight_small n (suc (suc zero)) = omega arith
eight_small n (suc (suc (suc zero))) = omega arith
eight_small n (suc (suc (suc (suc zero)))) = omega arith
eight_small n (suc (suc (suc (suc (suc zero))))) = omega arith
eight_small n (suc (suc (suc (suc (suc (suc zero)))))) = omega arith
eight_small n (suc (suc (suc (suc (suc (suc (suc zero))))))) = omega arith
eight_small n (suc (suc (suc (suc (suc (suc (suc (suc i)))))))) = omega arith

eight_read : (n : ℕ) → n < 18446744073709551616 → word_of (le64_bytes n) ≡ n
unfolding le64 le64_bytes le32_bytes word_of
eight_read n h = eight_back n [] h

bytes_of_eight : (n : ℕ) → n < 18446744073709551616 → to_le_bytes w64 n ≡ le64_bytes n
bytes_of_eight n h =
    le_bytes_8 (le64_bytes n) n (length_eight n) (eight_small n) (sym (number_of_eight (le64_bytes n) (length_eight n) ∙ eight_read n h))

-- one number more, copied into the part of the buffer that was lent for it
pub put_word : {out out' : List ℕ} {y : List ℕ} (ns : List ℕ) (i : ℕ) → length out ≡ 8 * length ns → i < length ns → get_or ns i 0 < 18446744073709551616
    → Put out 0 (words_bytes (take i ns)) out' (8 * i) → y ≡ to_le_bytes w64 (get_or ns i 0)
    → Put out 0 (words_bytes (take (i + 1) ns)) (take (8 * i) out' ++ (y ++ drop (8 * i + 8 - 8 * i) (drop (8 * i) out'))) (8 * (i + 1))
put_word {out} {out'} {y} ns i l h b v e =
    let n : ℕ = get_or ns i 0 in
    let w : y ≡ le64_bytes n = e ∙ bytes_of_eight n b in
    let p : Put out' (8 * i) (le64_bytes n) (take (8 * i) out' ++ (y ++ drop (8 * i + 8 - 8 * i) (drop (8 * i) out'))) (8 * (i + 1)) =
    put_is (omega (arith, length_eight n)) (rw w (sets_part (8 * i) (8 * i + 8) out' (le64_bytes n) (omega arith) (omega (arith, v.size)) (omega (arith, length_eight n)))) in
    let t : take (i + 1) ns ≡ take i ns ++ (n ∷ []) = rw add-one (take-suc ns i 0 h) in
    rw t (put_more (take i ns) n v p)

-- the number at a place of many
word_back : (ns : List ℕ) (i : ℕ) → ((n : ℕ) → get_or ns n 0 < 18446744073709551616) → i < length ns → le64 (words_bytes ns) (8 * i) ≡ get_or ns i 0
unfolding words_bytes
word_back [] i b h = absurd (omega arith)
word_back (n ∷ ns) zero b h = eight_back n (words_bytes ns) (b 0)
word_back (n ∷ ns) (suc i) b h =
    let e : 8 * suc i ≡ length (le64_bytes n) + 8 * i = omega (arith, length_eight n) in
    rw e (eight_skip (le64_bytes n) (words_bytes ns) (8 * i) ∙ word_back ns i (λ k. b (suc k)) (omega arith))

-- a state whose numbers fit into eight bytes
pub state_back : (x : State) → ((n : ℕ) → get_or (state_words x) n 0 < 18446744073709551616) → read_state (words_bytes (state_words x)) ≡ x
unfolding read_state state_words
state_back x b =
    let ns : List ℕ = state_words x in
    rw (eq-eqb (length (words_bytes ns)) 48 (words_length ns), word_back ns 0 b (omega arith), word_back ns 1 b (omega arith), word_back ns 2 b (omega arith), word_back ns 3 b (omega arith), word_back ns 4 b (omega arith), word_back ns 5 b (omega arith)) refl
