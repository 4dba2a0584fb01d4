-- Where a stretch of equal, or of different, bytes stops within a word.
use Prim.Native.Nat.{ℕ, zero, suc, ◌+◌, ◌*◌, ◌/◌, ◌%◌, ◌^◌, ◌<◌, ◌≤◌}
use native.Mathlib.Nat.{zero-add, suc-add, mul-one, mul_assoc, pow-suc, mod-one, mul-mod_left, mul-div_cancel}
use native.Mathlib.Omega.{arith}
use mathlib.Core.Bool.{Bool, true, false, not}
use mathlib.Core.List.{List, [], ◌∷◌, ◌++◌, map, zip_with}
use mathlib.Core.Path.{◌≡◌, refl, sym, ap, ◌∙◌}
use lib.Arith.{mod-mul, digits_mod}
use lib.Bits.{bit_xor, xor_self, xor_lt, xor_add_and, and_le_l, and_le_r}
use lib.Count.{count_trailing_zeros, trailing_le, under}
use lib.Dec.{lit<, eqb}
use lib.ListN.{length, take, drop, take-append-drop}
use lib.Pow.{pow_pos}
use borrow.Author.Tests.{eqb-true, eqb-false}
use Rattle.laws.specs.Bytes.{word_of, Bytes}
use Rattle.laws.proofs.BytesLaws.{bytes_take, bytes_drop}
use Rattle.laws.proofs.StoreLaws.{length_part}
use Rattle.runs.specs.Stretch.{stretch, Scanned}
use Rattle.runs.specs.Word.{zero_bytes, Stop}
use Rattle.runs.proofs.StretchLaws.{by_test, stretch_more, stretch_stop}
use Rattle.runs.proofs.WordLaws.{xor_word, xor_bytes, zero_byte, words, zero_word, zero_of_zero, zero_of_other}

-- the zeros below the lowest set bit
tz_double : (k m : ℕ) → count_trailing_zeros (suc k) (m * 2) ≡ suc (count_trailing_zeros k m)
unfolding count_trailing_zeros
tz_double k m = rw (mul-mod_left m 2, mul-div_cancel m {n = 2} (lit< tt))

tz_shift : (j k m : ℕ) → count_trailing_zeros (j + k) (m * 2 ^ j) ≡ j + count_trailing_zeros k m
tz_shift zero k m = rw (zero-add k, mul-one m, zero-add (count_trailing_zeros k m))
tz_shift (suc j) k m =
    let e : m * 2 ^ suc j ≡ m * 2 ^ j * 2 = ap (λ (x : ℕ). m * x) (pow-suc 2 j) ∙ sym (mul_assoc m (2 ^ j) 2) in
    rw (suc-add j k, e, suc-add j (count_trailing_zeros k m)) (tz_double (j + k) (m * 2 ^ j) ∙ ap suc (tz_shift j k m))

tz_low : (j k n : ℕ) → 0 < n % 2 ^ j → count_trailing_zeros k n < j
unfolding count_trailing_zeros
tz_low zero k n h = absurd (omega (arith, mod-one n))
tz_low (suc j) zero n h = omega arith
tz_low (suc j) (suc k) n h = go (n % 2) refl (tz_low j k (n / 2))
  where
    e : n % 2 ^ suc j ≡ (n / 2 % 2 ^ j) * 2 + n % 2
    e = ap (λ (x : ℕ). n % x) (pow-suc 2 j) ∙ mod-mul n (pow_pos j) (lit< tt)

    go : (d : ℕ) → n % 2 ≡ d → (0 < n / 2 % 2 ^ j → count_trailing_zeros k (n / 2) < j) → under d (count_trailing_zeros k (n / 2)) < suc j
    go zero f ih = omega (arith, ih (omega (arith, e, f)))
    go (suc d) f ih = omega arith

-- bytes that are 0 just where those of two lists are equal (t is true), or different
data Stops : Bool → List ℕ → List ℕ → List ℕ → Type 0 where
  ended : {t : Bool} → Stops t [] [] []
  goes : {t : Bool} {x y : ℕ} {xs ys ss : List ℕ} → eqb x y ≡ t → Stops t xs ys ss → Stops t (x ∷ xs) (y ∷ ys) (0 ∷ ss)
  stops : {t : Bool} {x y s : ℕ} {xs ys ss : List ℕ} → eqb x y ≡ not t → 0 < s → s < 256 → Stops t xs ys ss → Stops t (x ∷ xs) (y ∷ ys) (s ∷ ss)

-- numbers made of two bytes each that are so
module _ (t : Bool) (f : ℕ → ℕ → ℕ) (on : (x y : ℕ) → x < 256 → y < 256 → eqb x y ≡ t → f x y ≡ 0)
    (off : (x y : ℕ) → x < 256 → y < 256 → eqb x y ≡ not t → (0 < f x y) × (f x y < 256)) where
  stops_all : (xs ys : List ℕ) → length xs ≡ length ys → Bytes xs → Bytes ys → Stops t xs ys (zip_with f xs ys)
  unfolding zip_with
  stops_all [] [] l hx hy = ended
  stops_all [] (y ∷ ys) l hx hy = absurd (omega arith)
  stops_all (x ∷ xs) [] l hx hy = absurd (omega arith)
  stops_all (x ∷ xs) (y ∷ ys) l hx hy =
      let rest = stops_all xs ys (omega arith) (λ i. hx (suc i)) (λ i. hy (suc i)) in
      by_test t (eqb x y)
      (λ e. rw (on x y (hx 0) (hy 0) e) (goes e rest))
      (λ e. let s = off x y (hx 0) (hy 0) e in stops e s.0 s.1 rest)

-- the differences of two bytes
same_none : (x y : ℕ) → eqb x y ≡ true → bit_xor x y ≡ 0
same_none x y e = rw (eqb-true x y e) (xor_self y)

other_some : (x y : ℕ) → eqb x y ≡ false → 0 < bit_xor x y
other_some x y e = go (bit_xor x y) refl
  where
    go : (d : ℕ) → bit_xor x y ≡ d → 0 < d
    go zero f = absurd (eqb-false x y e (omega (arith, xor_add_and x y, f, and_le_l x y, and_le_r x y)))
    go (suc d) f = omega arith

abbrev zero_of : ℕ → ℕ → ℕ
zero_of x y = zero_byte (bit_xor x y)

xor_stops : (xs ys : List ℕ) → length xs ≡ length ys → Bytes xs → Bytes ys → Stops true xs ys (zip_with bit_xor xs ys)
xor_stops = stops_all true bit_xor (λ x y hx hy e. same_none x y e) (λ x y hx hy e. (other_some x y e, xor_lt 8 x y hx hy))

zero_stops : (xs ys : List ℕ) → length xs ≡ length ys → Bytes xs → Bytes ys → Stops false xs ys (zip_with zero_of xs ys)
zero_stops =
    stops_all false zero_of
    (λ x y hx hy e. zero_of_other (bit_xor x y) (other_some x y e) (xor_lt 8 x y hx hy))
    (λ x y hx hy e. rw (same_none x y e, zero_of_zero) (lit< tt, lit< tt))

zero_each : (xs ys : List ℕ) → map zero_byte (zip_with bit_xor xs ys) ≡ zip_with zero_of xs ys
unfolding zip_with
zero_each [] ys = refl
zero_each (x ∷ xs) [] = refl
zero_each (x ∷ xs) (y ∷ ys) = ap (λ (l : List ℕ). zero_of x y ∷ l) (zero_each xs ys)

-- what a word of such bytes tells of the stretch at the front
none_stops : {t : Bool} {xs ys ss : List ℕ} (p q : List ℕ) → Stops t xs ys ss → word_of ss ≡ 0 → length ss ≤ stretch t (xs ++ p) (ys ++ q)
unfolding word_of
none_stops p q ended e = omega arith
none_stops p q (goes {t} {x} {y} {xs} {ys} f w) e = omega (arith, none_stops p q w (omega arith), stretch_more t x y (xs ++ p) (ys ++ q) f)
none_stops p q (stops f l h w) e = absurd (omega arith)

tz_none : (n w : ℕ) → count_trailing_zeros (8 * suc n) (w * 256 + 0) ≡ 8 + count_trailing_zeros (8 * n) w
tz_none n w =
    let e : 8 * suc n ≡ 8 + 8 * n = omega arith in
    let f : w * 256 + 0 ≡ w * 2 ^ 8 = omega arith in
    rw (e, f) (tz_shift 8 (8 * n) w)

tz_some : (n w s : ℕ) → 0 < s → s < 256 → count_trailing_zeros (8 * suc n) (w * 256 + s) < 8
tz_some n w s l h = tz_low 8 (8 * suc n) (w * 256 + s) (rw (digits_mod w {m = 256} h) l)

first_stop : {t : Bool} {xs ys ss : List ℕ} (p q : List ℕ) → Stops t xs ys ss → 0 < word_of ss → stretch t (xs ++ p) (ys ++ q) ≡ count_trailing_zeros (8 * length ss) (word_of ss) / 8
unfolding word_of
first_stop p q ended e = absurd (omega arith)
first_stop p q (goes {t} {x} {y} {xs} {ys} {ss} f w) e =
    omega (arith, first_stop p q w (omega arith), stretch_more t x y (xs ++ p) (ys ++ q) f, tz_none (length ss) (word_of ss))
first_stop p q (stops {t} {x} {y} {s} {xs} {ys} {ss} f l h w) e =
    omega (arith, stretch_stop t x y (xs ++ p) (ys ++ q) f, tz_some (length ss) (word_of ss) s l h)

stops_length : {t : Bool} {xs ys ss : List ℕ} → Stops t xs ys ss → length ss ≡ length xs
stops_length ended = refl
stops_length (goes f w) = ap suc (stops_length w)
stops_length (stops f l h w) = ap suc (stops_length w)

-- the words of eight bytes at a place of two buffers
module _ (old new : List ℕ) (at : ℕ) (l : length old ≡ length new) (h : at + 8 ≤ length old) where
  eight_long : length (take 8 (drop at old)) ≡ 8
  eight_long = length_part old at 8 (omega arith)

  same_long : length (take 8 (drop at old)) ≡ length (take 8 (drop at new))
  same_long = eight_long ∙ sym (length_part new at 8 (omega arith))

  told : {t : Bool} {ss : List ℕ} → Stops t (take 8 (drop at old)) (take 8 (drop at new)) ss → Stop t old new at (word_of ss)
  told {t} {ss} w =
      let n : length ss ≡ 8 = stops_length w ∙ eight_long in
      record {
        none = λ z. rw (take-append-drop 8 (drop at old), take-append-drop 8 (drop at new), n) at (none_stops (drop 8 (drop at old)) (drop 8 (drop at new)) w z);
        first = λ z. rw (take-append-drop 8 (drop at old), take-append-drop 8 (drop at new), n) at (first_stop (drop 8 (drop at old)) (drop 8 (drop at new)) w z);
      }

  module _ (bo : Bytes old) (bn : Bytes new) (x y : ℕ) (ex : x ≡ word_of (take 8 (drop at old))) (ey : y ≡ word_of (take 8 (drop at new))) where
    old_bytes : Bytes (take 8 (drop at old))
    old_bytes = bytes_take 8 (drop at old) (bytes_drop at old bo)

    new_bytes : Bytes (take 8 (drop at new))
    new_bytes = bytes_take 8 (drop at new) (bytes_drop at new bn)

    pub equal_stop : Stop true old new at (bit_xor x y)
    equal_stop =
        rw (ex, ey, xor_word (take 8 (drop at old)) (take 8 (drop at new)) same_long old_bytes new_bytes)
        (told (xor_stops (take 8 (drop at old)) (take 8 (drop at new)) same_long old_bytes new_bytes))

    pub differ_stop : Stop false old new at (zero_bytes 9187201950435737471 9259542123273814144 (bit_xor x y))
    unfolding words word_of
    differ_stop =
        let ts : List ℕ = zip_with bit_xor (take 8 (drop at old)) (take 8 (drop at new)) in
        let n : length ts ≡ 8 = stops_length (xor_stops (take 8 (drop at old)) (take 8 (drop at new)) same_long old_bytes new_bytes) ∙ eight_long in
        rw (ex, ey, xor_word (take 8 (drop at old)) (take 8 (drop at new)) same_long old_bytes new_bytes, rw n at (zero_word ts (xor_bytes (take 8 (drop at old)) (take 8 (drop at new)) old_bytes new_bytes)), zero_each (take 8 (drop at old)) (take 8 (drop at new)))
        (told (zero_stops (take 8 (drop at old)) (take 8 (drop at new)) same_long old_bytes new_bytes))

-- the lowest byte of a word that isn't 0, in a search
pub eighth : (r : ℕ) → count_trailing_zeros 64 r / 8 ≤ 8
eighth r = omega (arith, trailing_le 64 r)

pub scan_word : {t : Bool} {old new : List ℕ} {from i r : ℕ} → Scanned t old new from i → Stop t old new i r → 0 < r → i + count_trailing_zeros 64 r / 8 ≡ from + stretch t (drop from old) (drop from new)
scan_word w s h = omega (arith, w.same, s.first h)
