-- `state::Sizes::row_bytes`: rounding up without a sum that could wrap.
use Rattle.state.specs.State.{row_bytes}
use native.Mathlib.Omega.{arith}
use Rattle.state.proofs.Sizes.row_bytes.Goals as goal

pub returns : goal.returns
unfolding row_bytes
returns c = omega arith
