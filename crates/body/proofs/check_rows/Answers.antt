-- `body::check_rows`: a plain BODY is there if it is long enough; of a packed one, whether the rows that are left are there is whether all are.
use lib.ListN.{length, take}
use lib.Seq.{length-take-le}
use mathlib.Core.List.{List}
use Prim.Native.Nat.{ℕ, ◌≤◌, ◌+◌, ◌-◌, ◌<◌}
use mathlib.Core.Path.{◌≡◌, refl, sym, ap, ◌∙◌}
use native.Mathlib.Omega.{arith}
use Rattle.std.proofs.lemmas.Result.{err_from_is_err_and}
use Rattle.laws.specs.Result.{answer}
use Rattle.body.proofs.WalkLaws.{took_row, took_row_fault, rows_on, rows_stop, rows_none, checked_back}
use Rattle.body.proofs.PlainLaws.{plain_short, plain_fits}
use Rattle.body.proofs.check_rows.Goals as goal

pub returns-then-s-count : goal.returns-then-s-count
returns-then-s-count c =
    (rw c.if-not-packed.true (sym (plain_short c.args.s.now c.args.row c.args.count 0 (omega arith) (omega (arith, c.if-s-count.true)))), refl)

pub returns-then-not-packed : goal.returns-then-not-packed
returns-then-not-packed c =
    (rw c.if-not-packed.true (sym (plain_fits c.args.s.now c.args.row c.args.count 0 (omega (arith, c.if-s-count.false)))), refl)

-- the row of a frame that was lent has the rows' length
lent : (f g : List ℕ) (row : ℕ) → row ≤ length f → g ≡ f → length (take row g) ≡ row
lent f g row h e = length-take-le row g (rw e h)

pub returns-in_err-t : goal.returns-in_err-t
returns-in_err-t c =
    let p = err_from_is_err_and c.from_residual.result c.from_residual.ensures.1 in
    let left : 0 < c.args.count - c.loop.counter = omega arith in
    let n = lent _ c.loop.frame _ c.requires.0 c.loop.invariant.0 in
    let k = rows_stop _ _ _ _ _ (rw n at (took_row_fault c.in_err-t.ensures.0)) left in
    (rw (p.1, p.2) (ap answer (sym k) ∙ c.loop.invariant.1), checked_back c.loop.frame c.args.row c.take_row.ensures.1 ∙ c.loop.invariant.0)

pub loop-preserved : goal.loop-preserved
loop-preserved c =
    let m : c.args.count - c.loop.counter - 1 ≡ c.args.count - (c.loop.counter + 1) = omega arith in
    let left : 0 < c.args.count - c.loop.counter = omega arith in
    let n = lent _ c.loop.frame _ c.requires.0 c.loop.invariant.0 in
    let k = rows_on _ _ _ _ _ (rw n at (took_row c.in_ok-t.ensures.0)) left in
    (checked_back c.loop.frame c.args.row c.take_row.ensures.1 ∙ c.loop.invariant.0, sym (rw m at k) ∙ c.loop.invariant.1)

pub returns : goal.returns
returns c =
    let z : c.args.count - c.loop.counter ≡ 0 = omega arith in
    (sym (ap answer (rows_none _ _ _ _ _ z)) ∙ c.loop.invariant.1, c.loop.invariant.0)
