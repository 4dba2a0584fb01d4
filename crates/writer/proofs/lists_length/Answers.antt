-- `writer::lists_length`: what is counted and what is left, from here, come to the whole.
use native.Mathlib.Omega.{arith}
use Prim.Native.Nat.{ℕ, ◌+◌, ◌-◌, ◌*◌, ◌≤◌, ◌<◌}
use mathlib.Core.List.{List}
use mathlib.Core.Path.{◌≡◌}
use lib.ListN.{length}
use Rattle.column_writer.proofs.CountLaws.{counting_more, counting_last}
use Rattle.writer.specs.Write.{plane_bytes, lists_bytes}
use Rattle.writer.proofs.PlaneLaws.{walking_more, lists_parts, lists_none}
use Rattle.writer.proofs.lists_length.Invariants.{Lists}
use Rattle.writer.proofs.lists_length.Goals as goal

module _ {old new : List ℕ} {row height planes sum at k : ℕ} (w : Lists old new row height planes sum at (planes - k)) where
  more : {n m : ℕ} → k < planes → (n ≡ length (plane_bytes old new row height at)) × (n ≤ 393344) → m ≡ height * row → Lists old new row height planes (sum + n) (at + m) (planes - (k + 1))
  more h e f =
      let z : planes - (k + 1) ≡ planes - k - 1 = omega arith in
      let l : 0 < planes - k = omega arith in
      rw (z, f) (record { walk = walking_more w.walk l; small = omega (arith, w.small, e.1); rest = counting_more w.rest (lists_parts old new row height (planes - k) at l) e.0 })

  all : planes ≤ k → (sum ≡ length (lists_bytes old new row height planes 0)) × (sum ≤ 3146752)
  all h = (counting_last w.rest (lists_none old new row height (planes - k) at (omega arith)), omega (arith, w.small))

pub loop-preserved : goal.loop-preserved
loop-preserved c = more c.loop.invariant c.loop-test.true c.plane_length-sum.ensures c.plane_size-at.ensures

pub returns : goal.returns
returns c = all c.loop.invariant c.loop-test.false
