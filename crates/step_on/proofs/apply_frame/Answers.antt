-- `step_on::apply_frame`: the interleave names the picture.
use mathlib.Core.Path.{◌≡◌}
use borrow.Author.Tests.{eq-eqb, ne_eqb}
use Rattle.step_on.proofs.apply_frame.Goals as goal

pub returns-then-header-eq1 : goal.returns-then-header-eq1
returns-then-header-eq1 c =
    let k : c.args.header.interleave ≡ 1 = c.if-header-eq1.true in
    rw (eq-eqb _ _ k) c.apply.ensures

pub returns : goal.returns
returns c = rw (ne_eqb _ _ c.if-header-eq1.false) c.apply-2.ensures
