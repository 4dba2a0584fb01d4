-- `record::run_length`: a number takes at most five bytes.
use Rattle.number.proofs.NumberLaws.{write_length}
use native.Mathlib.Omega.{arith}
use Rattle.record.proofs.run_length.Goals as goal

pub overflow_add-result : goal.overflow_add-result
overflow_add-result c = omega (arith, write_length c.args.gap (omega arith), write_length c.args.count (omega arith))

pub overflow_add-result-2 : goal.overflow_add-result-2
overflow_add-result-2 c = omega (arith, write_length c.args.gap (omega arith), write_length c.args.count (omega arith))

pub returns : goal.returns
returns c = (omega arith, omega (arith, write_length c.args.gap (omega arith), write_length c.args.count (omega arith)))
