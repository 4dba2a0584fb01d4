-- `copies::copy_part`: a copy into the part that was lent for it; what lies past an end isn't stored.
use native.Mathlib.Omega.{arith}
use mathlib.Core.Path.{◌∙◌}
use Rattle.laws.proofs.StoreLaws.{lent_copy, copied_most}
use Rattle.copies.proofs.copy_part.Goals as goal
use Rattle.copies.proofs.copy_part.Goals.{then-not-wanted-via-then-not-wanted, then-not-wanted-via-else-not-wanted+then-dst-to, then-not-wanted-via-else-not-wanted+else-dst-to+then-src-from}

pub returns-then-not-wanted : goal.returns-then-not-wanted
returns-then-not-wanted c =
    let none = copied_most c.args.dst.now c.args.src.now c.args.to c.args.from c.args.count 0 in
    elim c.then-not-wanted.branch [
      | then-not-wanted-via-then-not-wanted w ↦ simp w.if-not-wanted.true
      | then-not-wanted-via-else-not-wanted+then-dst-to w ↦ simp w.if-not-wanted.false (none (omega (arith, w.if-dst-to.true)))
      | then-not-wanted-via-else-not-wanted+else-dst-to+then-src-from w ↦ simp w.if-not-wanted.false (none (omega (arith, w.if-src-from.true)))
    ]

pub returns : goal.returns
returns c =
    let d = c.args.dst.now in
    let s = c.args.src.now in
    simp c.if-not-wanted.false
    (lent_copy d s c.args.to c.args.from c.min-n.result _ (omega arith) (omega arith) c.copy.ensures
    ∙ copied_most d s c.args.to c.args.from c.args.count c.min-n.result (omega (arith, rw c.min.ensures at c.min-n.ensures)))
