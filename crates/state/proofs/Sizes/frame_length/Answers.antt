-- `state::Sizes::frame_length`: three tests, and products whose bounds are those of sizes within the limits.
use native.Mathlib.Omega.{arith}
use Rattle.laws.proofs.ResultLaws.{told_false, told_true}
use Rattle.state.specs.State.{frame_length, frame_bytes, Sound}
use Rattle.state.proofs.StateLaws.{sound, between}
use Rattle.state.proofs.Sizes.frame_length.Goals.{After-struct_known-1}
use Rattle.state.proofs.Sizes.frame_length.Goals as goal

-- the sizes where the products are formed
limits : (c : After-struct_known-1) → Sound c.args.self (frame_bytes c.args.self)
limits c =
    sound c.args.self
    (between (told_true c.within.ensures c.if-not-within.false-raw))
    (between (told_true c.within-2.ensures c.if-not-within-2.false-raw))
    (between (told_true c.within-3.ensures c.if-not-within-3.false-raw))

pub returns-then-not-within : goal.returns-then-not-within
unfolding frame_length
returns-then-not-within c = simp (told_false c.within.ensures c.if-not-within.true-raw)

pub returns-then-not-within-2 : goal.returns-then-not-within-2
unfolding frame_length
returns-then-not-within-2 c = simp (told_true c.within.ensures c.if-not-within.false-raw, told_false c.within-2.ensures c.if-not-within-2.true-raw)

pub returns-then-not-within-3 : goal.returns-then-not-within-3
unfolding frame_length
returns-then-not-within-3 c =
    simp (told_true c.within.ensures c.if-not-within.false-raw, told_true c.within-2.ensures c.if-not-within-2.false-raw, told_false c.within-3.ensures c.if-not-within-3.true-raw)

pub overflow_mul-plane : goal.overflow_mul-plane
overflow_mul-plane c = rw c.row_bytes.ensures (omega (arith, (limits (goal.at.overflow_mul-plane c).After-struct_known-1).plane_most))

pub overflow_mul-frame : goal.overflow_mul-frame
unfolding frame_bytes
overflow_mul-frame c = rw c.row_bytes.ensures (omega (arith, (limits (goal.at.overflow_mul-frame c).After-struct_known-1).length, (limits (goal.at.overflow_mul-frame c).After-struct_known-1).length_most))

pub returns : goal.returns
unfolding frame_length frame_bytes
returns c =
    simp (
      told_true c.within.ensures c.if-not-within.false-raw,
      told_true c.within-2.ensures c.if-not-within-2.false-raw,
      told_true c.within-3.ensures c.if-not-within-3.false-raw,
      c.row_bytes.ensures,
    )
