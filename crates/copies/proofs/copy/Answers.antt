-- `copies::copy`: after i turns the first i bytes of dst are those of src.
use native.Mathlib.Omega.{arith}
use mathlib.Core.Path.{refl}
use lib.ListN.{length-set}
use Rattle.laws.proofs.StoreLaws.{copied_none, copied_more, copied_all}
use Rattle.copies.proofs.copy.Goals as goal

pub loop-i-init : goal.loop-i-init
loop-i-init c = (refl, copied_none)

pub loop-i-preserved : goal.loop-i-preserved
loop-i-preserved c = (simp length-set c.loop-i.invariant.0, copied_more c.loop-i.invariant.1 (omega arith) (omega arith))

pub returns : goal.returns
returns c = copied_all c.loop-i.invariant.1 (omega arith)
