-- What copies and stores leave in a buffer.
use Prim.Native.Nat.{ℕ, zero, suc, ◌+◌, ◌-◌, ◌<◌, ◌≤◌, min}
use native.Mathlib.Nat.{not-suc-le-zero, le_of_suc-le-suc, zero-add, suc-add, add-suc}
use native.Mathlib.Numerals.{add-one}
use native.Mathlib.Omega.{arith}
use native.Mathlib.Decide.{dec_le, ℕ_discrete}
use mathlib.Core.Bool.{Bool}
use mathlib.Core.Path.{◌≡◌, refl, sym, ap, ◌∙◌}
use mathlib.Core.Logic.{◌⊎◌, inl, inr}
use mathlib.Core.List.{List, [], ◌∷◌, ◌++◌, append-nil, append_assoc}
use lib.ListN.{length, get_or, set, take, drop, replicate, drop_of_length-le, length-set, length-append, length-take, length-drop, length-replicate}
use lib.Seq.{take-take, take_all, take-append-le, length-take-le, drop-cons, drop-drop, set_out, sets, sets-eq, length-sets, get_or-set_same, get_or-set_other}
use Rattle.laws.specs.Result.{pick}
use Rattle.laws.specs.Store.{Copied, over}
use Rattle.laws.proofs.ResultLaws.{pick_both}

-- bytes that are there are as many as were asked for
pub length_part : (s : List ℕ) (from count : ℕ) → from + count ≤ length s → length (take count (drop from s)) ≡ count
length_part s from count h = length-take-le count (drop from s) (simp length-drop (omega arith))

pub copied_none : {s d : List ℕ} → Copied d s 0 d
copied_none = record { is = refl }

copy_suc : (n : ℕ) (s d : List ℕ) → n < length s → n < length d → set (take n s ++ drop n d) n (get_or s n 0) ≡ take (suc n) s ++ drop (suc n) d
copy_suc n [] d h k = absurd (not-suc-le-zero h)
copy_suc n (x ∷ s) [] h k = absurd (not-suc-le-zero k)
copy_suc zero (x ∷ s) (y ∷ d) h k = refl
copy_suc (suc n) (x ∷ s) (y ∷ d) h k = ap (λ (t : List ℕ). x ∷ t) (copy_suc n s d (le_of_suc-le-suc h) (le_of_suc-le-suc k))

pub copied_more : {s d x : List ℕ} {n : ℕ} → Copied d s n x → n < length s → n < length d → Copied d s (n + 1) (set x n (get_or s n 0))
copied_more {s} {d} {x} {n} w h k = record { is = rw (add-one, w.is) (copy_suc n s d h k) }

pub copied_all : {s d x : List ℕ} {n : ℕ} → Copied d s n x → n ≡ min (length d) (length s) → x ≡ over d s
unfolding over
copied_all {s} {d} {x} {n} w e = w.is ∙ go (dec_le (length d) (length s))
  where
    go : Dec (length d ≤ length s) → take n s ++ drop n d ≡ take (length d) s ++ drop (length s) d
    go (yes h) = let k : n ≡ length d = omega arith in simp (k, drop_of_length-le d {i = length d} (omega arith), drop_of_length-le d {i = length s} h)
    go (no h) = let k : n ≡ length s = omega arith in simp (k, take_all (length s) s (omega arith), take_all (length d) s (omega arith))

-- the bytes that a copy has passed are those of s
pub copied_front : {s d x : List ℕ} {n : ℕ} → Copied d s n x → n ≤ length s → (m : ℕ) → m ≤ n → take m x ≡ take m s
copied_front {s} {d} {x} {n} w h m k =
    rw w.is (take-append-le m (take n s) (drop n d) (simp (length-take-le n s h) k) ∙ take-take m n s k)

-- four bytes that are stored one after the other, and four that stand so
pub stored_four : (d : List ℕ) (at w x y z : ℕ) → set (set (set (set d at w) (at + 1) x) (at + 2) y) (at + 3) z ≡ sets d at (w ∷ x ∷ y ∷ z ∷ [])
stored_four d at w x y z =
    let e : at + 2 ≡ suc (suc at) = omega arith in
    let f : at + 3 ≡ suc (suc (suc at)) = omega arith in
    rw (add-one at, e, f)

pub four_at : (s : List ℕ) (at : ℕ) → at + 4 ≤ length s → take 4 (drop at s) ≡ get_or s at 0 ∷ get_or s (at + 1) 0 ∷ get_or s (at + 2) 0 ∷ get_or s (at + 3) 0 ∷ []
four_at s at h =
    let e : at + 2 ≡ suc (suc at) = omega arith in
    let f : at + 3 ≡ suc (suc (suc at)) = omega arith in
    rw (drop-cons s at 0 (omega arith), drop-cons s (suc at) 0 (omega arith), drop-cons s (suc (suc at)) 0 (omega arith), drop-cons s (suc (suc (suc at))) 0 (omega arith), add-one at, e, f)

-- as long as d, s takes its place whole
pub over_whole : (s d : List ℕ) → length d ≡ length s → over d s ≡ s
unfolding over
over_whole s d h = simp (take_all (length d) s (omega arith), drop_of_length-le d {i = length s} (omega arith), append-nil)

-- what is laid over d leaves its length
pub length_over : (s d : List ℕ) → length (over d s) ≡ length d
unfolding over
length_over s d = simp (length-append, length-take, length-drop) (omega arith)

-- what passes d's end is not laid over it
pub over_front : (d s : List ℕ) → over d (take (length d) s) ≡ over d s
unfolding over
over_front d s = go (dec_le (length s) (length d))
  where
    go : Dec (length s ≤ length d) → take (length d) (take (length d) s) ++ drop (length (take (length d) s)) d ≡ take (length d) s ++ drop (length s) d
    go (yes h) = rw (take_all (length d) s h) (rw (take_all (length d) s h))
    go (no n) =
        let h : length d ≤ length s = omega (arith, n) in
        let l = length-take-le (length d) s h in
        rw (take_all (length d) (take (length d) s) (omega (arith, l)), drop_of_length-le d {i = length (take (length d) s)} (omega (arith, l)), drop_of_length-le d {i = length s} h)

-- a part of a buffer that was lent and came back with other bytes
pub sets_part : (a e : ℕ) (xs vs : List ℕ) → a ≤ e → e ≤ length xs → length vs ≡ e - a → take a xs ++ (vs ++ drop (e - a) (drop a xs)) ≡ sets xs a vs
sets_part a e xs vs h k l =
    let m : a + length vs ≤ length xs = omega arith in
    sym (rw (sets-eq vs xs a m, l, drop-drop (e - a) a xs, append_assoc (take a xs) vs (drop (a + (e - a)) xs)) refl)

-- stores that follow one another
pub sets_append : (f : List ℕ) (at : ℕ) (vs ws : List ℕ) → sets (sets f at vs) (at + length vs) ws ≡ sets f at (vs ++ ws)
sets_append f at [] ws = ap (λ (k : ℕ). sets f k ws) (omega arith)
sets_append f at (v ∷ vs) ws = ap (λ (k : ℕ). sets (sets (set f at v) (suc at) vs) k ws) (omega arith) ∙ sets_append (set f at v) (suc at) vs ws

-- stores behind other bytes
set_behind : (p x : List ℕ) (k v : ℕ) → set (p ++ x) (length p + k) v ≡ p ++ set x k v
set_behind [] x k v = rw (zero-add k)
set_behind (y ∷ p) x k v = rw (suc-add (length p) k) (ap (λ (t : List ℕ). y ∷ t) (set_behind p x k v))

pub sets_behind : (p x : List ℕ) (k : ℕ) (vs : List ℕ) → sets (p ++ x) (length p + k) vs ≡ p ++ sets x k vs
sets_behind p x k [] = refl
sets_behind p x k (v ∷ vs) = rw (set_behind p x k v, ← (add-suc (length p) k)) (sets_behind p (set x k v) (suc k) vs)

-- two buffers that agree at a place, or are both written there, agree there after the same stores
pub sets_agree : (f g : List ℕ) (at : ℕ) (vs : List ℕ) (j : ℕ) → length f ≡ length g → j < length f → (get_or f j 0 ≡ get_or g j 0) ⊎ ((at ≤ j) × (j < at + length vs))
    → get_or (sets f at vs) j 0 ≡ get_or (sets g at vs) j 0
sets_agree f g at [] j l h (inl e) = e
sets_agree f g at [] j l h (inr b) = absurd (omega arith)
sets_agree f g at (v ∷ vs) j l h w =
    sets_agree (set f at v) (set g at v) (suc at) vs j (simp length-set l) (simp length-set h) (go (ℕ_discrete j at) w)
  where
    go : Dec (j ≡ at) → (get_or f j 0 ≡ get_or g j 0) ⊎ ((at ≤ j) × (j < at + length (v ∷ vs))) → (get_or (set f at v) j 0 ≡ get_or (set g at v) j 0) ⊎ ((suc at ≤ j) × (j < suc at + length vs))
    go (yes e) w' = inl (rw e (get_or-set_same f at v 0 (omega arith) ∙ sym (get_or-set_same g at v 0 (omega arith))))
    go (no n) (inl e) = inl (get_or-set_other f at j v 0 n ∙ e ∙ sym (get_or-set_other g at j v 0 n))
    go (no n) (inr b) = inr (omega (arith, b.0, b.1), omega (arith, b.0, b.1))

-- n bytes of s, copied into the part of f that was lent for them
pub lent_copy : (f s : List ℕ) (a b n : ℕ) (y : List ℕ) → a + n ≤ length f → b + n ≤ length s → y ≡ over (take (a + n - a) (drop a f)) (take (b + n - b) (drop b s))
    → take a f ++ (y ++ drop (a + n - a) (drop a f)) ≡ sets f a (take n (drop b s))
lent_copy f s a b n y h k e =
    let i : a + n - a ≡ n = omega arith in
    let j : b + n - b ≡ n = omega arith in
    let l : length (take n (drop b s)) ≡ n = length_part s b n (omega arith) in
    let m : length (take n (drop a f)) ≡ n = length_part f a n (omega arith) in
    let w : y ≡ take n (drop b s) = e ∙ rw (i, j) (over_whole (take n (drop b s)) (take n (drop a f)) (m ∙ sym l)) in
    rw w (sets_part a (a + n) f (take n (drop b s)) (omega arith) h (l ∙ sym i))

-- stores past the end change nothing
sets_past : (d : List ℕ) (at : ℕ) (vs : List ℕ) → length d ≤ at → sets d at vs ≡ d
sets_past d at [] h = refl
sets_past d at (v ∷ vs) h = sets_past (set d at v) (suc at) vs (simp length-set (omega arith)) ∙ set_out d at v h

sets_most : (d : List ℕ) (at : ℕ) (vs : List ℕ) (n : ℕ) → length d ≤ at + n → sets d at vs ≡ sets d at (take n vs)
sets_most d at vs zero h = sets_past d at vs (omega arith)
sets_most d at [] (suc n) h = refl
sets_most d at (v ∷ vs) (suc n) h = sets_most (set d at v) (suc at) vs n (simp length-set (omega arith))

-- count bytes of s from a place on, copied as far as both buffers go, are all that can be stored
pub copied_most : (d s : List ℕ) (to from count n : ℕ) → n ≡ min count (min (length d - to) (length s - from)) → sets d to (take n (drop from s)) ≡ sets d to (take count (drop from s))
copied_most d s to from count n e = go (dec_le (length d) (to + n)) (dec_le count n)
  where
    go : Dec (length d ≤ to + n) → Dec (count ≤ n) → sets d to (take n (drop from s)) ≡ sets d to (take count (drop from s))
    go (yes h) k = sym (sets_most d to (take count (drop from s)) n h ∙ rw (take-take n count (drop from s) (omega arith)))
    go (no h) (yes k) = let f : n ≡ count = omega arith in rw f
    go (no h) (no k) = rw (take_all n (drop from s) (simp length-drop (omega arith)), take_all count (drop from s) (simp length-drop (omega arith)))

-- copied to or not, a buffer keeps its length
pub wanted_length : (wanted : Bool) (d : List ℕ) (at : ℕ) (vs : List ℕ) → length (pick wanted (sets d at vs) d) ≡ length d
wanted_length t d at vs = pick_both (λ (g : List ℕ). length g ≡ length d) t (length-sets d at vs) refl

-- the part of f that was lent, filled with v
pub lent_fill : (f : List ℕ) (a n v : ℕ) (y : List ℕ) → a + n ≤ length f → y ≡ replicate (length (take (a + n - a) (drop a f))) v
    → take a f ++ (y ++ drop (a + n - a) (drop a f)) ≡ sets f a (replicate n v)
lent_fill f a n v y h e =
    let i : a + n - a ≡ n = omega arith in
    let m : length (take n (drop a f)) ≡ n = length_part f a n (omega arith) in
    let w : y ≡ replicate n v = e ∙ rw (i, m) refl in
    rw w (sets_part a (a + n) f (replicate n v) (omega arith) h (length-replicate n v ∙ sym i))

-- a part of a part is a part of the whole
pub part_of_part : (s n e : ℕ) (f : List ℕ) → s + n ≤ e → take n (drop s (take e f)) ≡ take n (drop s f)
part_of_part zero n e f h = take-take n e f (omega arith)
part_of_part (suc s) n zero f h = absurd (omega arith)
part_of_part (suc s) n (suc e) [] h = refl
part_of_part (suc s) n (suc e) (x ∷ f) h = part_of_part s n e f (omega arith)
