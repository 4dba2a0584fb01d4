-- `shown::row`: a part of A at an odd frame, of B at an even one.
use native.Mathlib.Omega.{arith}
use mathlib.Core.Path.{sym, ◌∙◌}
use Rattle.shown.proofs.RowLaws.{row_odd, row_even, lies_a, lies_b}
use Rattle.shown.proofs.row.Goals as goal

pub overflow_add-end : goal.overflow_add-end
overflow_add-end c = omega (arith, lies_a _ _ _ _ _ (sym c.in-Ok.ensures) c.row_bytes.ensures)

pub slice_bounds-result-end-then-shows_a : goal.slice_bounds-result-end-then-shows_a
slice_bounds-result-end-then-shows_a c = lies_a _ _ _ _ _ (sym c.in-Ok.ensures) c.row_bytes.ensures

pub returns-then-shows_a : goal.returns-then-shows_a
returns-then-shows_a c = row_odd _ _ _ _ _ (sym c.in-Ok.ensures) c.row_bytes.ensures (sym c.shows_a.ensures ∙ c.if-shows_a.true)

pub slice_bounds-result-end-else-shows_a : goal.slice_bounds-result-end-else-shows_a
slice_bounds-result-end-else-shows_a c = lies_b _ _ _ _ _ (sym c.in-Ok.ensures) c.row_bytes.ensures

pub returns-else-shows_a : goal.returns-else-shows_a
returns-else-shows_a c = row_even _ _ _ _ _ (sym c.in-Ok.ensures) c.row_bytes.ensures (sym c.shows_a.ensures ∙ c.if-shows_a.false)
