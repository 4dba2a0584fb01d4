-- Bytes put into a buffer, one after the other, and what is left to put.
use Prim.Native.Nat.{ℕ, ◌+◌, ◌-◌, ◌≤◌}
use native.Mathlib.Omega.{arith}
use mathlib.Core.List.{List, [], ◌∷◌, ◌++◌}
use mathlib.Core.Path.{◌≡◌, refl, sym, ap, ◌∙◌}
use lib.ListN.{length, set, take, drop, length-append}
use lib.Seq.{sets, length-sets}
use Rattle.laws.specs.Store.{over}
use Rattle.laws.specs.Put.{Put}
use Rattle.laws.proofs.StoreLaws.{over_whole, sets_part, sets_append, length_part}

pub put_is : {out : List ℕ} {at : ℕ} {bytes out' : List ℕ} {next : ℕ} → next ≡ at + length bytes → out' ≡ sets out at bytes → Put out at bytes out' next
put_is {out} {at} {bytes} e f = record { place = e; left = f; size = ap length f ∙ length-sets out at bytes }

pub put_nothing : {out : List ℕ} {at : ℕ} → Put out at [] out at
put_nothing = put_is (omega arith) refl

pub put_byte : {out : List ℕ} {at b : ℕ} → Put out at (b ∷ []) (set out at b) (at + 1)
put_byte = put_is refl refl

pub put_then : {out : List ℕ} {at : ℕ} {xs ys out' out'' : List ℕ} {p q : ℕ} → Put out at xs out' p → Put out' p ys out'' q → Put out at (xs ++ ys) out'' q
put_then {out} {at} {xs} {ys} v w =
    put_is (omega (arith, v.place, w.place, length-append xs ys)) (w.left ∙ rw (v.left, v.place) (sets_append out at xs ys))

-- bytes copied into the part of a buffer that was lent for them
pub put_copy : (out : List ℕ) (at end : ℕ) (bytes y : List ℕ) → end ≡ at + length bytes → end ≤ length out → y ≡ over (take (end - at) (drop at out)) bytes
    → Put out at bytes (take at out ++ (y ++ drop (end - at) (drop at out))) end
put_copy out at end bytes y e h f =
    let l : length (take (end - at) (drop at out)) ≡ end - at = length_part out at (end - at) (omega arith) in
    let m : length bytes ≡ end - at = omega arith in
    put_is e (rw (f ∙ over_whole bytes (take (end - at) (drop at out)) (l ∙ sym m)) (sets_part at end out bytes (omega arith) h m))

-- what is left to put, from a place on, comes to the whole
pub record Putting (out₀ : List ℕ) (at : ℕ) (bytes out : List ℕ) (place : ℕ) (rest : List ℕ) : Type 0 where
  pub size : length out ≡ length out₀
  pub fits : place + length rest ≤ length out
  pub whole : {out' : List ℕ} {next : ℕ} → Put out place rest out' next → Put out₀ at bytes out' next

pub putting : {out : List ℕ} {at : ℕ} {bytes : List ℕ} → at + length bytes ≤ length out → Putting out at bytes out at bytes
putting h = record { size = refl; fits = h; whole = λ p. p }

-- bytes that are two parts
pub record Parts (bytes xs ys : List ℕ) : Type 0 where
  pub is : bytes ≡ xs ++ ys

pub putting_room : {out₀ : List ℕ} {at : ℕ} {bytes out : List ℕ} {place : ℕ} {left xs rest : List ℕ} → Putting out₀ at bytes out place left → Parts left xs rest → place + length xs ≤ length out
putting_room {xs = xs} {rest = rest} w p = omega (arith, w.fits, ap length p.is ∙ length-append xs rest)

pub putting_more : {out₀ : List ℕ} {at : ℕ} {bytes out : List ℕ} {place : ℕ} {left xs rest out' : List ℕ} {next : ℕ} → Putting out₀ at bytes out place left → Parts left xs rest
    → Put out place xs out' next → Putting out₀ at bytes out' next rest
putting_more {xs = xs} {rest = rest} w p v = record {
  size = v.size ∙ w.size;
  fits = omega (arith, v.size, v.place, w.fits, ap length p.is ∙ length-append xs rest);
  whole = λ q. w.whole (rw p.is (put_then v q));
}

pub putting_last : {out₀ : List ℕ} {at : ℕ} {bytes out : List ℕ} {place : ℕ} {left : List ℕ} → Putting out₀ at bytes out place left → left ≡ [] → Put out₀ at bytes out place
putting_last w e = w.whole (rw e put_nothing)

-- the same bytes by another name
pub put_as : {out : List ℕ} {at : ℕ} {xs ys out' : List ℕ} {next : ℕ} → Put out at xs out' next → ys ≡ xs → Put out at ys out' next
put_as v e = rw e v
