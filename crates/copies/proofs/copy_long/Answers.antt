-- `copies::copy_long`: the last block begins within the blocks before it, or at their end.
use native.Mathlib.Omega.{arith}
use Rattle.copies.proofs.BlockLaws.{last_block}
use Rattle.copies.proofs.copy_long.Goals as goal

pub returns : goal.returns
returns c =
    last_block c.args.dst.now c.args.src.now _ _ _ (omega arith) (omega arith) c.min-count.ensures c.copy-2.ensures c.copy_from_slice.ensures.after
