-- Laws of stretches: a search for their end, byte by byte and by blocks.
use Prim.Native.Nat.{ℕ, zero, suc, ◌+◌, ◌<◌, ◌≤◌}
use native.Mathlib.Numerals.{add-one}
use native.Mathlib.Decide.{dec_le, dec_lt}
use native.Mathlib.Omega.{arith}
use mathlib.Core.Bool.{Bool, beq, true, false, not}
use mathlib.Core.List.{List, [], ◌∷◌}
use mathlib.Core.Path.{◌≡◌, refl, sym, ◌∙◌}
use lib.Dec.{leb, eqb}
use lib.ListN.{length, get_or, drop, length-drop}
use lib.Seq.{drop-cons, drop-drop}
use borrow.Author.Tests.{le-leb, lt-leb}
use Rattle.runs.specs.Stretch.{stretch, Scanned}

-- two bytes are as the stretch has them, or not
pub by_test : {P : Type 0} (t u : Bool) → (u ≡ t → P) → (u ≡ not t → P) → P
by_test true true p q = p refl
by_test true false p q = q refl
by_test false true p q = q refl
by_test false false p q = p refl

-- what the test of two bytes tells
pub as_asked : (u t : Bool) → not (beq u t) ≡ false → u ≡ t
as_asked true true e = refl
as_asked true false e = e
as_asked false true e = sym e
as_asked false false e = refl

pub not_asked : (u t : Bool) → not (beq u t) ≡ true → u ≡ not t
not_asked true true e = sym e
not_asked true false e = refl
not_asked false true e = refl
not_asked false false e = e

-- one byte at the front
pub stretch_more : (t : Bool) (a b : ℕ) (old new : List ℕ) → eqb a b ≡ t → stretch t (a ∷ old) (b ∷ new) ≡ suc (stretch t old new)
unfolding stretch
stretch_more true a b old new e = rw e
stretch_more false a b old new e = rw e

pub stretch_stop : (t : Bool) (a b : ℕ) (old new : List ℕ) → eqb a b ≡ not t → stretch t (a ∷ old) (b ∷ new) ≡ 0
unfolding stretch
stretch_stop true a b old new e = rw e
stretch_stop false a b old new e = rw e

pub stretch_end : (t : Bool) (old new : List ℕ) → length old ≡ 0 → stretch t old new ≡ 0
unfolding stretch
stretch_end t [] new h = refl
stretch_end t (a ∷ old) new h = absurd (omega arith)

pub stretch_none : (t : Bool) (a : ℕ) (old : List ℕ) → stretch t (a ∷ old) [] ≡ 0
unfolding stretch
stretch_none t a old = refl

pub stretch_short : (t : Bool) (old new : List ℕ) → stretch t old new ≤ length old
stretch_short t [] new = omega (arith, stretch_end t [] new refl)
stretch_short t (a ∷ old) [] = omega (arith, stretch_none t a old)
stretch_short t (a ∷ old) (b ∷ new) =
    let ih = stretch_short t old new in
    by_test t (eqb a b) (λ e. omega (arith, stretch_more t a b old new e)) (λ e. omega (arith, stretch_stop t a b old new e))

-- k bytes of a stretch at its front
stretch_split : (t : Bool) (k : ℕ) (old new : List ℕ) → k ≤ stretch t old new → stretch t old new ≡ k + stretch t (drop k old) (drop k new)
stretch_split t zero old new h = omega arith
stretch_split t (suc k) [] new h = absurd (omega (arith, stretch_end t [] new refl))
stretch_split t (suc k) (a ∷ old) [] h = absurd (omega (arith, stretch_none t a old))
stretch_split t (suc k) (a ∷ old) (b ∷ new) h = by_test t (eqb a b) (go (stretch_split t k old new)) (λ e. absurd (omega (arith, stretch_stop t a b old new e)))
  where
    go : (k ≤ stretch t old new → stretch t old new ≡ k + stretch t (drop k old) (drop k new)) → eqb a b ≡ t
        → stretch t (a ∷ old) (b ∷ new) ≡ suc k + stretch t (drop k old) (drop k new)
    go ih e = let m = stretch_more t a b old new e in omega (arith, m, ih (omega arith))

-- the bytes of a stretch before and from a place of a block
block_split : (t : Bool) (i at : ℕ) (old new : List ℕ) → i ≤ stretch t (drop at old) (drop at new) → stretch t (drop at old) (drop at new) ≡ i + stretch t (drop (at + i) old) (drop (at + i) new)
block_split t i at old new k = rw (← (drop-drop i at old), ← (drop-drop i at new)) (stretch_split t i (drop at old) (drop at new) k)

-- the byte at a place of two buffers
module _ (t : Bool) (i : ℕ) (old new : List ℕ) (h : i < length old) (l : length old ≡ length new) where
  front : stretch t (drop i old) (drop i new) ≡ stretch t (get_or old i 0 ∷ drop (i + 1) old) (get_or new i 0 ∷ drop (i + 1) new)
  front = rw (add-one i, drop-cons old i 0 h, drop-cons new i 0 (omega arith))

  at_more : eqb (get_or old i 0) (get_or new i 0) ≡ t → stretch t (drop i old) (drop i new) ≡ suc (stretch t (drop (i + 1) old) (drop (i + 1) new))
  at_more e = front ∙ stretch_more t _ _ _ _ e

  at_stop : eqb (get_or old i 0) (get_or new i 0) ≡ not t → stretch t (drop i old) (drop i new) ≡ 0
  at_stop e = front ∙ stretch_stop t _ _ _ _ e

-- the turns of a search
pub scan_starts : {t : Bool} {old new : List ℕ} {from : ℕ} → from ≤ length old → Scanned t old new from from
scan_starts h = record { inside = h; same = refl }

module _ {t : Bool} {old new : List ℕ} {from i : ℕ} (w : Scanned t old new from i) (l : length old ≡ length new) where
  pub scan_more : i < length old → eqb (get_or old i 0) (get_or new i 0) ≡ t → Scanned t old new from (i + 1)
  scan_more h e = record { inside = omega arith; same = omega (arith, w.same, at_more t i old new h l e) }

  pub scan_stops : i < length old → eqb (get_or old i 0) (get_or new i 0) ≡ not t → i ≡ from + stretch t (drop from old) (drop from new)
  scan_stops h e = omega (arith, w.same, at_stop t i old new h l e)

  pub scan_ends : length old ≤ i → i ≡ from + stretch t (drop from old) (drop from new)
  scan_ends h = omega (arith, w.same, stretch_end t (drop i old) (drop i new) (simp length-drop (omega arith)))

  pub scan_jumps : (k : ℕ) → k ≤ stretch t (drop i old) (drop i new) → Scanned t old new from (i + k)
  scan_jumps k h =
      let e = block_split t k i old new h in
      record { inside = omega (arith, w.inside, stretch_short t (drop i old) (drop i new), length-drop i old); same = omega (arith, w.same, e) }

-- a search that goes on from where another came to
pub scan_then : {t : Bool} {old new : List ℕ} {from i k : ℕ} → Scanned t old new from i → Scanned t old new i k → Scanned t old new from k
scan_then w v = record { inside = v.inside; same = v.same ∙ w.same }

pub scan_is : {t : Bool} {old new : List ℕ} {from i r : ℕ} → Scanned t old new from i → r ≡ i + stretch t (drop i old) (drop i new) → r ≡ from + stretch t (drop from old) (drop from new)
scan_is w e = e ∙ w.same

-- whether a block goes on, byte by byte
pub block_starts : (n : ℕ) → true ≡ leb 0 n
block_starts n = sym (le-leb 0 n (omega arith))

module _ (t : Bool) (i at : ℕ) (old new : List ℕ) (l : length old ≡ length new) (h : at + i < length old) where
  abbrev whole : ℕ
  whole = stretch t (drop at old) (drop at new)

  block_stops : eqb (get_or old (at + i) 0) (get_or new (at + i) 0) ≡ not t → whole ≤ i
  block_stops e = go (dec_lt i whole)
    where
      go : Dec (i < whole) → whole ≤ i
      go (yes k) = omega (arith, block_split t i at old new (omega arith), at_stop t (at + i) old new h l e)
      go (no k) = omega arith

  pub block_on : eqb (get_or old (at + i) 0) (get_or new (at + i) 0) ≡ t → leb i whole ≡ leb (i + 1) whole
  block_on e = go (dec_le i whole)
    where
      go : Dec (i ≤ whole) → leb i whole ≡ leb (i + 1) whole
      go (yes k) = le-leb i whole k ∙ sym (le-leb (i + 1) whole (omega (arith, block_split t i at old new k, at_more t (at + i) old new h l e)))
      go (no k) = lt-leb i whole (omega arith) ∙ sym (lt-leb (i + 1) whole (omega arith))

  pub block_off : eqb (get_or old (at + i) 0) (get_or new (at + i) 0) ≡ not t → false ≡ leb (i + 1) whole
  block_off e = sym (lt-leb (i + 1) whole (omega (arith, block_stops e)))
