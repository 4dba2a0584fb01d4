-- `writer::write_pointer`: the test decides which number is written.
use native.Mathlib.Omega.{arith}
use Prim.Native.Nat.{ℕ, ◌+◌, ◌-◌, ◌≤◌}
use mathlib.Core.List.{List, ◌++◌}
use mathlib.Core.Path.{◌≡◌}
use lib.ListN.{length, take, drop}
use lib.Seq.{sets}
use borrow.Author.Tests.{eq-eqb, ne_eqb}
use Rattle.std.specs.Int.{w32, to_be_bytes}
use Rattle.laws.specs.Bytes.{be32_bytes}
use Rattle.laws.proofs.StoreLaws.{sets_part}
use Rattle.writer.proofs.write_pointer.Goals.{then-next-place, else-next-place}
use Rattle.writer.proofs.write_pointer.Goals as goal

stored : (out : List ℕ) (at n : ℕ) {y b : List ℕ} → at + 4 ≤ length out → y ≡ b → b ≡ to_be_bytes w32 n → take at out ++ (y ++ drop (at + 4 - at) (drop at out)) ≡ sets out at (be32_bytes n)
unfolding be32_bytes
stored out at n h e f = rw (e, f) (sets_part at (at + 4) out (be32_bytes n) (omega arith) h (omega arith))

pub returns : goal.returns
returns c =
    elim c.if-next-place.branch [
      | then-next-place w ↦ rw (eq-eqb _ _ w.if-next-place.true) (rw w.pointer-is at (stored _ _ c.if-next-place.pointer c.requires.0 c.copy_from_slice.ensures.after c.to_be_bytes.ensures))
      | else-next-place w ↦ rw (ne_eqb _ _ w.if-next-place.false) (rw w.pointer-is at (stored _ _ c.if-next-place.pointer c.requires.0 c.copy_from_slice.ensures.after c.to_be_bytes.ensures))
    ]
