-- A rest of 0 writes no op; so the ops that are written have counts that can be written, and none of them has a count of 0.
use Prim.Native.Nat.{ℕ, zero, suc, ◌/◌, ◌%◌, ◌<◌, min}
use native.Mathlib.Omega.{arith}
use mathlib.Core.List.{List, [], ◌∷◌, ◌++◌}
use mathlib.Core.Path.{◌≡◌, refl}
use lib.ListN.{length, take, drop, replicate, length-take}
use Rattle.laws.specs.Every.{Every, Every.every_none, Every.every_cons}
use Rattle.laws.proofs.EveryLaws.{every_append}
use Rattle.runs.specs.Runs.{Run}
use Rattle.column_writer.specs.Column.{WrittenOp, WrittenOp.skip, WrittenOp.uniq, WrittenOp.same, groups_of, stretch_ops, rest_of, uniqs, cut, cut_all, ops_of, Valid}

valid_many : (k : ℕ) (o : WrittenOp) → Valid o → Every Valid (replicate k o)
valid_many zero o p = every_none
valid_many (suc k) o p = every_cons p (valid_many k o p)

valid_rest : (r : ℕ) (o : WrittenOp) → (0 < r → Valid o) → Every Valid (rest_of r o)
unfolding rest_of
valid_rest zero o p = every_none
valid_rest (suc r) o p = every_cons (p (omega arith)) every_none

-- over no rows
pub cut_no_skip : cut (skip 0) ≡ []
unfolding cut rest_of
cut_no_skip = refl

pub cut_no_same : (v : ℕ) → cut (same 0 v) ≡ []
unfolding cut rest_of
cut_no_same v = refl

pub valid_uniqs : (k : ℕ) (vs : List ℕ) → Every Valid (uniqs k vs)
unfolding uniqs Valid
valid_uniqs zero vs = every_none
valid_uniqs (suc k) [] = every_none
valid_uniqs (suc k) (v ∷ vs) =
    let e : length (take 127 (v ∷ vs)) ≡ min 127 (length (v ∷ vs)) = length-take 127 (v ∷ vs) in
    let h : Valid (uniq (take 127 (v ∷ vs))) = (omega arith, omega arith) in
    every_cons h (valid_uniqs k (drop 127 (v ∷ vs)))

-- so many ops of the most rows, and the rest
valid_parts : (P : ℕ → WrittenOp) (k most rest : ℕ) → Valid (P most) → (0 < rest → Valid (P rest)) → Every Valid (replicate k (P most) ++ rest_of rest (P rest))
valid_parts P k most rest v w = every_append (valid_many k (P most) v) (valid_rest rest (P rest) w)

valid_cut : (o : WrittenOp) → Every Valid (cut o)
unfolding cut Valid
valid_cut (skip n) = valid_parts skip (n / 127) 127 (n % 127) (omega arith, omega arith) (λ h. (h, omega arith))
valid_cut (uniq vs) = valid_uniqs (length vs) vs
valid_cut (same n v) = valid_parts (λ k. same k v) (n / 255) 255 (n % 255) (omega arith, omega arith) (λ h. (h, omega arith))

valid_cut_all : (os : List WrittenOp) → Every Valid (cut_all os)
unfolding cut_all
valid_cut_all [] = every_none
valid_cut_all (o ∷ os) = every_append (valid_cut o) (valid_cut_all os)

pub valid_ops : (rs : List Run) → Every Valid (ops_of rs)
unfolding ops_of
valid_ops [] = every_none
valid_ops (r ∷ rs) = every_append (valid_cut_all (skip r.gap ∷ stretch_ops (groups_of r.bytes))) (valid_ops rs)
