-- `delta::rows::draw_rows`: items that lie one after the other are one copy; else what is left to put makes of the frame what all of it makes of
-- the first one.
use native.Mathlib.Nat.{mul-le-mul_right}
use native.Mathlib.Omega.{arith}
use Prim.Native.Nat.{◌-◌, ◌<◌, ◌+◌, ◌*◌, ◌≤◌}
use mathlib.Core.Path.{sym, ◌∙◌}
use lib.ListN.{length}
use Rattle.laws.proofs.StoreLaws.{lent_copy}
use Rattle.delta.proofs.DeltaLaws.{putting_starts, putting_more, putting_ends, put_beside}
use Rattle.delta.proofs.FillLaws.{run_inside}
use Rattle.delta.proofs.rows.draw_rows.Goals.{Then-count-gt1}
use Rattle.delta.proofs.rows.draw_rows.Goals as goal

rows_run : (c : Then-count-gt1) → c.args.place + c.args.count * c.args.shape.item ≤ length c.args.frame.now
rows_run c = run_inside c.requires.1.rows c.if-row-item.true c.if-count-gt1.true

items_run : (c : Then-count-gt1) → c.args.from + c.args.count * c.args.shape.item ≤ length c.args.d.now
items_run c = run_inside c.requires.2.inside c.if-step-item.true c.if-count-gt1.true

pub slice_bounds-copy-end : goal.slice_bounds-copy-end
slice_bounds-copy-end c = rows_run (goal.at.slice_bounds-copy-end c).Then-count-gt1

pub slice_bounds-copy-end-then-count-gt1 : goal.slice_bounds-copy-end-then-count-gt1
slice_bounds-copy-end-then-count-gt1 c = items_run (goal.at.slice_bounds-copy-end-then-count-gt1 c).Then-count-gt1

pub returns-then-count-gt1 : goal.returns-then-count-gt1
returns-then-count-gt1 c =
    let b = (goal.at.returns-then-count-gt1 c).Then-count-gt1 in
    rw (c.if-not-drawing.false, c.if-row-item.true, c.if-step-item.true) (lent_copy _ _ _ _ _ _ (rows_run b) (items_run b) c.copy.ensures ∙ sym (put_beside c.args.shape.item c.args.d.now c.args.count c.args.from c.args.place c.args.frame.now (items_run b)))

pub loop-init : goal.loop-init
loop-init c = putting_starts

pub put_item-requires : goal.put_item-requires
put_item-requires c =
    let k : c.args.count - c.loop.counter < c.args.count = omega arith in
    (omega (arith, c.requires.1.rows.lies _ k), omega (arith, c.requires.2.inside.lies _ k), c.requires.0)

pub overflow_add-at : goal.overflow_add-at
overflow_add-at c =
    let k : c.args.count - c.loop.counter < c.args.count = omega arith in
    omega (arith, mul-le-mul_right c.args.shape.row k)

pub overflow_add-item_at : goal.overflow_add-item_at
overflow_add-item_at c =
    let k : c.args.count - c.loop.counter < c.args.count = omega arith in
    omega (arith, c.requires.2.inside.lies _ k)

pub loop-preserved : goal.loop-preserved
loop-preserved c = putting_more c.loop.invariant c.loop-test.true (omega arith) c.put_item.ensures

pub returns : goal.returns
returns c = rw (c.if-not-drawing.false) (putting_ends c.loop.invariant c.loop-test.false)
