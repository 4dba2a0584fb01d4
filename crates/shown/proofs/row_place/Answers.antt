-- `shown::row_place`: nothing overflows within the limits.
use native.Mathlib.Omega.{arith}
use mathlib.Core.Path.{sym}
use Rattle.laws.proofs.ResultLaws.{each_is}
use Rattle.state.proofs.StateLaws.{lent_sound}
use Rattle.shown.proofs.RowLaws.{Small, row_small}
use Rattle.shown.proofs.row_place.Goals.{Else-sizes-row}
use Rattle.shown.proofs.row_place.Goals as goal

-- nothing overflows where the row isn't too far down
small : (c : Else-sizes-row) → Small c.args.state c.args.plane c.args.row
small c = row_small _ (each_is (sym c.in_ok-lent_length.ensures) (lent_sound _ _ _)).state _ _ c.if-sizes-plane.false (omega (arith, c.if-sizes-row.false))

pub overflow_mul-result : goal.overflow_mul-result
overflow_mul-result c = omega (arith, (small (goal.at.overflow_mul-result c).Else-sizes-row).lines)

pub overflow_add-result : goal.overflow_add-result
overflow_add-result c = omega (arith, (small (goal.at.overflow_add-result c).Else-sizes-row).lines)

pub overflow_mul-result-2 : goal.overflow_mul-result-2
overflow_mul-result-2 c = omega (arith, (small (goal.at.overflow_mul-result-2 c).Else-sizes-row).bytes c.row_bytes.ensures)
