-- The record buffer of the listing program is long enough for every step that is listed: none is refused with 51.
use Prim.Native.Nat.{ℕ, ◌≤◌}
use native.Mathlib.Omega.{arith}
use mathlib.Core.List.{List}
use mathlib.Core.Path.{◌≡◌}
use Rattle.state.specs.State.{frame_bytes}
use Rattle.state.specs.World.{World}
use Rattle.state.specs.After.{Answer.refused}
use Rattle.step_on.specs.Step.{step_on}
use Rattle.listing.specs.Listing.{ROOM}
use Rattle.answers.proofs.Never51.{never_51}

pub room_enough : (file : List ℕ) (w : World) (size : ℕ) → frame_bytes w.state.sizes ≤ 16_384 → (step_on file w size ROOM).answer ≡ refused 51 → ⊥
room_enough file w size h = never_51 file w size ROOM (omega arith)
