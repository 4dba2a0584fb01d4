-- `form::next_form`: each turn is the definition's step from the place.
use Prim.Native.Nat.{ℕ}
use native.Mathlib.Omega.{arith}
use mathlib.Core.Path.{◌≡◌, refl, ap, ◌∙◌}
use mathlib.Core.List.{List}
use borrow.Author.Tests.{eq-eqb, ne_eqb, le-leb}
use Rattle.std.proofs.Common.{Ok, Some, Option as Maybe}
use Rattle.laws.specs.Result.{Res.ok}
use Rattle.laws.proofs.ResultLaws.{each_some, told}
use Rattle.laws.proofs.LoopLaws.{starts, turns}
use Rattle.iff.specs.declared.Chunk.{Chunk}
use Rattle.iff.specs.Chunk.{chunk_at, chunk_of, standing_of}
use Rattle.iff.proofs.ChunkLaws.{Within, chunk_within}
use Rattle.form.specs.Form.{pass_on, next_form}
use Rattle.form.proofs.next_form.Goals as goal

-- the chunk that was read stands there, and lies within the parent
stands : (s : List ℕ) (at : ℕ) {o : Maybe Chunk} {c : Chunk} → standing_of (Ok o) ≡ chunk_at s at → o ≡ Some c → chunk_at s at ≡ ok (chunk_of (Some c))
stands s at e w = told (λ o. standing_of (Ok o)) e w

lies : (s : List ℕ) (at : ℕ) {o : Maybe Chunk} {c : Chunk} → standing_of (Ok o) ≡ chunk_at s at → o ≡ Some c → Within s at (record { id = c.id; start = c.start; size = c.len; next = c.next })
lies s at e w = each_some (stands s at e w) (chunk_within s at)

pub loop-chunk-init : goal.loop-chunk-init
unfolding next_form
loop-chunk-init c = starts refl

pub overflow_add-result : goal.overflow_add-result
overflow_add-result c = omega (arith, lies _ _ c.in_ok-chunk.ensures c.in-Some.is)

pub loop-chunk-smaller-else-number32-eq-ILBM : goal.loop-chunk-smaller-else-number32-eq-ILBM
loop-chunk-smaller-else-number32-eq-ILBM c = omega (arith, lies _ _ c.in_ok-chunk.ensures c.in-Some.is)

pub loop-chunk-preserved-else-number32-eq-ILBM : goal.loop-chunk-preserved-else-number32-eq-ILBM
loop-chunk-preserved-else-number32-eq-ILBM c =
    turns c.loop-chunk.invariant (ap (pass_on _) (stands _ _ c.in_ok-chunk.ensures c.in-Some.is) ∙ simp (← c.number32.ensures.0, eq-eqb _ _ c.if-chunk-eq-FORM.true, le-leb _ _ c.if-chunk-lt4.false, ne_eqb _ _ c.if-number32-eq-ILBM.false)) (loop-chunk-smaller-else-number32-eq-ILBM c)

pub loop-chunk-smaller : goal.loop-chunk-smaller
loop-chunk-smaller c = omega (arith, lies _ _ c.in_ok-chunk.ensures c.in-Some.is)

pub loop-chunk-preserved : goal.loop-chunk-preserved
loop-chunk-preserved c =
    turns c.loop-chunk.invariant (ap (pass_on _) (stands _ _ c.in_ok-chunk.ensures c.in-Some.is) ∙ simp (ne_eqb _ _ c.if-chunk-eq-FORM.false)) (loop-chunk-smaller c)
