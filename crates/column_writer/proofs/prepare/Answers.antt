-- `column_writer::prepare`: the ops, or Uniqs over all rows where there would be more than 255.
use Rattle.column_writer.proofs.CutLaws.{uniq_count, uniq_bytes}
use native.Mathlib.Omega.{arith}
use Rattle.column_writer.proofs.FillLaws.{prepared_few, prepared_many, past_rows}
use Rattle.column_writer.proofs.prepare.Goals as goal

pub returns-then-totals-le255 : goal.returns-then-totals-le255
returns-then-totals-le255 c =
    prepared_few c.write_ops-totals.ensures.0 c.args.column.now.few _ (omega arith) c.write_ops-totals.ensures.1 c.if-totals-le255.true

pub write_uniqs-bytes-requires : goal.write_uniqs-bytes-requires
write_uniqs-bytes-requires c =
    omega (arith, uniq_bytes c.args.column.now.new.now, uniq_count c.args.column.now.new.now, c.args.column.now.few, c.write_ops-totals.ensures.1.size)

pub overflow_sub-result : goal.overflow_sub-result
overflow_sub-result c =
    past_rows c.write_ops-totals.ensures.0 c.args.column.now.few _ (omega (arith, c.write_ops-totals.ensures.1.size)) c.write_uniqs-bytes.ensures

pub returns : goal.returns
returns c =
    prepared_many c.write_ops-totals.ensures.0 c.args.column.now.few _ (omega (arith, c.write_ops-totals.ensures.1.size)) c.write_uniqs-bytes.ensures c.if-totals-le255.false
