-- `number::write`: the two tests say whether the bytes fit.
use Rattle.number.proofs.NumberLaws.{fitting, not_fitting}
use native.Mathlib.Omega.{arith}
use Rattle.number.proofs.write.Goals as goal

pub returns-then-out-at : goal.returns-then-out-at
returns-then-out-at c = not_fitting c.args.out.now _ _ (omega arith)

pub returns-then-out-at-2 : goal.returns-then-out-at-2
returns-then-out-at-2 c = not_fitting c.args.out.now _ _ (omega arith)

pub returns : goal.returns
returns c =
    fitting c.args.out.now _ _ (omega arith) c.write_groups.ensures
