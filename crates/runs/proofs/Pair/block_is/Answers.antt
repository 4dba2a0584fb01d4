-- `runs::Pair::block_is`: while the flag stands, the bytes passed so far are as they should be.
use Prim.Native.Nat.{◌+◌, ◌<◌}
use mathlib.Core.Path.{◌∙◌}
use lib.ListN.{length}
use Rattle.runs.proofs.StretchLaws.{block_on, block_off, as_asked, not_asked}
use native.Mathlib.Omega.{arith}
use Rattle.runs.proofs.Pair.block_is.Goals.{then-self-at, else-self-at}
use Rattle.runs.proofs.Pair.block_is.Goals as goal

pub loop-i-preserved : goal.loop-i-preserved
loop-i-preserved c =
    let h : c.args.at + c.loop-i.i < length c.args.self.now.first.now = omega arith in
    elim c.if-self-at.branch [
      | then-self-at w ↦ w.all-is ∙ block_off _ _ _ _ _ c.args.self.now.one_length h (not_asked _ _ w.if-self-at.true)
      | else-self-at w ↦ w.all-is ∙ c.loop-i.invariant ∙ block_on _ _ _ _ _ c.args.self.now.one_length h (as_asked _ _ w.if-self-at.false)
    ]
