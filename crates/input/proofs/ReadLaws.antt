-- What a buffer holds once more is read behind what was read before.
use mathlib.Core.Path.{◌≡◌, sym, ap, subst, ◌∙◌}
use Prim.Native.Nat.{ℕ, ◌+◌, ◌≤◌}
use Rattle.std.specs.Prelude.{List, ◌++◌, length, take}
use lib.Seq.{length-take-le, take-append-le, take-append-add}
use Rattle.std.specs.declared.option.Option.{Option}
use Rattle.std.specs.Io.KnownBytes.{Consumes}
use Rattle.std.proofs.KnownBytes.{Consumes-trans}

-- the first bytes of a buffer, part of which came back with others, of which n count
taken : (xs ys zs : List ℕ) (at n : ℕ) → at ≤ length xs → n ≤ length ys → take (at + n) (take at xs ++ (ys ++ zs)) ≡ take at xs ++ take n ys
taken xs ys zs at n h k =
    let l = length-take-le at xs h in
    rw l at (take-append-add (take at xs) (ys ++ zs) n) ∙ ap (λ (t : List ℕ). take at xs ++ t) (take-append-le n ys zs k)

pub consumed_more : (a b c : Option (List ℕ)) (xs ys zs : List ℕ) (at n : ℕ) → at ≤ length xs → n ≤ length ys → Consumes a b (take at xs) → Consumes b c (take n ys)
    → Consumes a c (take (at + n) (take at xs ++ (ys ++ zs)))
consumed_more a b c xs ys zs at n h k p q = subst (Consumes a c) (sym (taken xs ys zs at n h k)) (Consumes-trans a b c _ _ p q)
