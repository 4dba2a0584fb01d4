-- `lines::Text::put_number`: the digits before the last one, if there are any, then that one.
use Prim.Native.Nat.{◌%◌}
use native.Mathlib.Omega.{arith}
use mathlib.Core.Path.{◌≡◌}
use Rattle.lines.proofs.TextLaws.{adds_then, adds_as, decimal_digit, decimal_more}
use Rattle.lines.proofs.Text.+put_number.Goals as goal
use Rattle.lines.proofs.Text.+put_number.Goals.{then-number-ge10, else-number-ge10}

pub returns-clause-adds : goal.returns-clause-adds
returns-clause-adds t c =
    elim c.if-number-ge10.branch [
      | then-number-ge10 w ↦ adds_as (adds_then w.put_number.ensures.adds (rw w.self-is at c.put.ensures.adds)) (decimal_more _ w.if-number-ge10.true)
      | else-number-ge10 w ↦
          let m : c.args.number % 10 ≡ c.args.number = omega (arith, w.if-number-ge10.false) in
          adds_as (rw (w.self-is, m) at c.put.ensures.adds) (decimal_digit _ w.if-number-ge10.false)
    ]
