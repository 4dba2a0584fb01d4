-- `changes::count`: block by block, then the last byte.
use Prim.Native.Nat.{◌+◌, ◌-◌}
use mathlib.Core.Path.{◌≡◌}
use native.Mathlib.Omega.{arith}
use lib.ListN.{length}
use Rattle.changes.proofs.CountLaws.{count_two, count_none, count_then, all_kept, all_changed}
use Rattle.changes.proofs.count.Goals as goal

pub returns-then-n-new : goal.returns-then-n-new
returns-then-n-new c = count_two _ _ c.if-n-new.true

pub returns-then-n-eq0 : goal.returns-then-n-eq0
returns-then-n-eq0 c = count_none _ _ c.if-n-new.false c.if-n-eq0.true

pub returns-then-old-n : goal.returns-then-old-n
returns-then-old-n c =
    let n = length c.args.old.now in
    let e : c.loop-at.at + (n - c.loop-at.at - 1) ≡ n - 1 = omega arith in
    all_kept (rw e at (count_then c.loop-at.invariant.1 c.count_block-b-2.ensures)) c.if-n-new.false (omega arith) c.if-old-n.true

pub returns : goal.returns
returns c =
    let n = length c.args.old.now in
    let e : c.loop-at.at + (n - c.loop-at.at - 1) ≡ n - 1 = omega arith in
    all_changed (rw e at (count_then c.loop-at.invariant.1 c.count_block-b-2.ensures)) c.if-n-new.false (omega arith) c.if-old-n.false
