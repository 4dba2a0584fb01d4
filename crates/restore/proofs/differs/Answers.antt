-- `restore::differs`: the flag stands while the bytes passed so far differ.
use Prim.Native.Nat.{◌+◌, ◌<◌}
use native.Mathlib.Omega.{arith}
use mathlib.Core.Path.{refl, ◌∙◌}
use borrow.Author.Tests.{eq-eqb, ne_eqb}
use lib.ListN.{length}
use Rattle.runs.specs.Runs.{differ}
use Rattle.restore.proofs.ReadLaws.{differs_on, differs_off}
use Rattle.restore.proofs.differs.Goals.{then-bytes-start, else-bytes-start}
use Rattle.restore.proofs.differs.Goals as goal

pub loop-i-init : goal.loop-i-init
unfolding differ
loop-i-init c = refl

pub loop-i-preserved : goal.loop-i-preserved
loop-i-preserved c =
    let h : c.args.start + c.loop-i.i < length c.args.bytes.now = omega arith in
    let k : c.args.to + c.loop-i.i < length c.args.shown.now = omega arith in
    elim c.if-bytes-start.branch [
      | then-bytes-start w ↦ w.all-is ∙ differs_off _ _ _ _ _ h k (eq-eqb _ _ w.if-bytes-start.true)
      | else-bytes-start w ↦ w.all-is ∙ c.loop-i.invariant ∙ differs_on _ _ _ _ _ h k (ne_eqb _ _ w.if-bytes-start.false)
    ]
