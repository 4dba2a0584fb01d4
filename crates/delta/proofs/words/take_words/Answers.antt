-- `delta::words::take_words`: the ops so far and the rest of the list are all of it, and each op goes on in it.
use Prim.Native.Nat.{◌+◌, ◌≤◌}
use native.Mathlib.Omega.{arith}
use mathlib.Core.Path.{refl}
use lib.ListN.{length}
use Rattle.laws.specs.Result.{Res.ok}
use Rattle.delta.specs.Words.{word_op, read_words}
use Rattle.delta.specs.Walk.{reading, Walked}
use Rattle.refusal.proofs.NumberLaws.{err_is}
use Rattle.delta.proofs.WalkLaws.{walked_none, walked_more, walked_refused, walked_fault, walked_all}
use Rattle.delta.proofs.FillLaws.{op_walked, op_refused}
use Rattle.delta.proofs.WordLaws.{word_further, words_none, words_end, words_more}
use Rattle.delta.proofs.words.take_words.Goals.{After-draw_taken-at}
use Rattle.delta.proofs.words.take_words.Goals as goal

pub loop-at-init : goal.loop-at-init
loop-at-init c = (c.requires.3, walked_none (λ ops. refl) refl c.requires.2.line c.requires.2.item 0)

pub returns-then-d-at-lt2 : goal.returns-then-d-at-lt2
returns-then-d-at-lt2 c =
    walked_fault c.loop-at.invariant.1 (λ ops. words_none c.args.shape c.args.d.now c.args.base (reading c.loop-at.at ops) (omega (arith, c.if-d-at-lt2.true, c.loop-at.invariant.0)))

pub returns-then-offset-eq65535 : goal.returns-then-offset-eq65535
returns-then-offset-eq65535 c =
    let h : c.loop-at.at.op + 2 ≤ length c.args.d.now = omega (arith, c.loop-at.invariant.0, c.if-d-at-lt2.false) in
    walked_all c.loop-at.invariant.1 (λ ops. words_end c.args.shape c.args.d.now c.args.base (reading c.loop-at.at ops) h c.number16-offset.ensures.0 c.if-offset-eq65535.true) (omega arith)

pub returns-in_err-op : goal.returns-in_err-op
returns-in_err-op c =
    let h : c.loop-at.at.op + 2 ≤ length c.args.d.now = omega (arith, c.loop-at.invariant.0, c.if-d-at-lt2.false) in
    rw (err_is c.from_residual.result c.from_residual.ensures.1)
    (walked_refused c.loop-at.invariant.1 (op_refused c.args.shape c.args.d.now 0 (λ base x. word_op c.args.shape c.args.d.now base x c.number16-offset.result) c.loop-at.at _ c.in_err-op.ensures c.args.drawing c.loop-at.frame c.args.base) (read_words c.args.shape c.args.d.now c.args.base) (λ ops. words_more c.args.shape c.args.d.now c.args.base (reading c.loop-at.at ops) h c.number16-offset.ensures.0 c.if-offset-eq65535.false))

read : (c : After-draw_taken-at) → Walked c.loop-at.frame c.args.shape c.args.d.now (λ x. word_op c.args.shape c.args.d.now c.args.base x c.number16-offset.result) c.loop-at.at c.args.drawing ok c.draw_taken-at.new.frame 0 c.draw_taken-at.result
read c =
    op_walked c.args.shape c.args.d.now 0 (λ base x. word_op c.args.shape c.args.d.now base x c.number16-offset.result) c.loop-at.at (rw c.requires.4) c.args.drawing c.loop-at.frame c.args.base c.in_ok-op.op c.in_ok-op.ensures c.draw_taken-at.ensures

pub loop-at-smaller : goal.loop-at-smaller
loop-at-smaller c =
    let f = word_further _ _ _ _ _ (read (goal.at.loop-at-smaller c).After-draw_taken-at) in
    omega (arith, f.0, f.1)

pub loop-at-preserved : goal.loop-at-preserved
loop-at-preserved c =
    let h : c.loop-at.at.op + 2 ≤ length c.args.d.now = omega (arith, c.loop-at.invariant.0, c.if-d-at-lt2.false) in
    let w = read (goal.at.loop-at-preserved c).After-draw_taken-at in
    ((word_further _ _ _ _ _ w).1, walked_more c.loop-at.invariant.1 w (λ ops. words_more c.args.shape c.args.d.now c.args.base (reading c.loop-at.at ops) h c.number16-offset.ensures.0 c.if-offset-eq65535.false) (omega arith))
