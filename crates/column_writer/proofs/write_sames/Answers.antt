-- `column_writer::write_sames`: the Sames of the rows that are left, from here, come to the whole.
use native.Mathlib.Omega.{arith}
use Prim.Native.Nat.{ℕ, ◌+◌, ◌-◌, ◌*◌, ◌/◌, ◌%◌, ◌≤◌, ◌<◌}
use mathlib.Core.List.{[]}
use mathlib.Core.Path.{◌≡◌, refl}
use Rattle.laws.proofs.PutLaws.{Parts, putting_room, putting_more, putting_last}
use Rattle.column_writer.specs.Column.{WrittenOp.same, cut, op_bytes, ops_bytes}
use Rattle.column_writer.proofs.CutLaws.{same_more, same_last, same_none}
use Rattle.column_writer.proofs.write_sames.Goals as goal

module _ (rows value k : ℕ) where
  next : k < rows / 255 → Parts (ops_bytes (cut (same (rows - k * 255) value))) (op_bytes (same 255 value)) (ops_bytes (cut (same (rows - (k + 1) * 255) value)))
  next h = let e : rows - (k + 1) * 255 ≡ rows - k * 255 - 255 = omega arith in rw e (same_more (rows - k * 255) value (omega arith))

  module _ (h : rows / 255 ≤ k) (l : k ≤ rows / 255) where
    left : rows - k * 255 ≡ rows % 255
    left = omega arith

    none : rows % 255 ≡ 0 → ops_bytes (cut (same (rows - k * 255) value)) ≡ []
    none e = same_none (rows - k * 255) value (omega (arith, left))

    last : (rows % 255 ≡ 0 → ⊥) → Parts (ops_bytes (cut (same (rows - k * 255) value))) (op_bytes (same (rows % 255) value)) []
    last e = rw left (same_last (rows % 255) value e (omega arith))

pub write_same-place-requires : goal.write_same-place-requires
write_same-place-requires c = (omega arith, putting_room c.loop.invariant (next _ _ _ c.loop-test.true))

pub loop-preserved : goal.loop-preserved
loop-preserved c = putting_more c.loop.invariant (next _ _ _ c.loop-test.true) c.write_same-place.ensures

pub returns-then-rest-eq0 : goal.returns-then-rest-eq0
returns-then-rest-eq0 c = putting_last c.loop.invariant (none _ _ _ c.loop-test.false c.loop.auto.counter-end c.if-rest-eq0.true)

pub write_same-requires : goal.write_same-requires
write_same-requires c = (omega arith, putting_room c.loop.invariant (last _ _ _ c.loop-test.false c.loop.auto.counter-end c.if-rest-eq0.false))

pub returns : goal.returns
returns c =
    putting_last (putting_more c.loop.invariant (last _ _ _ c.loop-test.false c.loop.auto.counter-end c.if-rest-eq0.false) c.write_same.ensures) refl
