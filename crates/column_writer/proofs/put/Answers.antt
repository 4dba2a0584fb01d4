-- `column_writer::put`: the bytes are copied into the part that is lent for them.
use native.Mathlib.Omega.{arith}
use Rattle.column_writer.proofs.CutLaws.{put_part}
use Rattle.column_writer.proofs.put.Goals as goal

pub returns : goal.returns
returns c = put_part _ _ _ _ (omega arith) (omega arith) c.copy_from_slice.ensures.after
