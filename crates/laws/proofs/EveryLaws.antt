-- Laws of `Every`: of the first value and the others, of two lists one after the other, and of one value more.
use mathlib.Core.List.{List, [], ◌∷◌, ◌++◌}
use Rattle.laws.specs.Every.{Every, Every.every_cons, Every.every_none}

pub every_head : {A : Type 0} {P : A → Type 0} {x : A} {xs : List A} → Every P (x ∷ xs) → P x
every_head (every_cons p q) = p

pub every_tail : {A : Type 0} {P : A → Type 0} {x : A} {xs : List A} → Every P (x ∷ xs) → Every P xs
every_tail (every_cons p q) = q

pub every_append : {A : Type 0} {P : A → Type 0} {xs ys : List A} → Every P xs → Every P ys → Every P (xs ++ ys)
every_append every_none q = q
every_append (every_cons p ps) q = every_cons p (every_append ps q)

-- one value more
pub every_more : {A : Type 0} {P : A → Type 0} {xs : List A} {x : A} → Every P xs → P x → Every P (xs ++ (x ∷ []))
every_more p q = every_append p (every_cons q every_none)
