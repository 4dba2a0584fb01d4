-- The room that a delta needs: 64 bytes and the longest lists.
use Prim.Native.Nat.{ℕ, ◌+◌, ◌*◌, ◌≤◌}
use native.Mathlib.Omega.{arith}
use mathlib.Core.Bool.{false}
use mathlib.Core.List.{List}
use mathlib.Core.Path.{◌≡◌, sym}
use lib.Dec.{ltb}
use lib.ListN.{length}
use borrow.Author.Tests.{le-ltb}
use Rattle.laws.specs.Result.{Res.ok}
use Rattle.laws.proofs.ResultLaws.{each_is}
use Rattle.state.specs.declared.Sizes.{Sizes}
use Rattle.state.specs.State.{row_bytes, frame_length}
use Rattle.state.proofs.StateLaws.{sizes_sound}
use Rattle.writer.specs.Write.{lists_bytes, delta_bytes, written, longest}
use Rattle.writer.proofs.WriteLaws.{delta_length, written_whole}
use Rattle.writer.proofs.LengthLaws.{plane_short, planes_short, lists_small}

module _ (old new : List ℕ) (row height : ℕ) where
  pub lists_short : (k at : ℕ) → length (lists_bytes old new row height k at) ≤ k * (row * longest height)
  lists_short k at = planes_short old new row height (row * longest height) k at (plane_short old new row height)

-- room for the longest is enough
pub longest_fits : (old new : List ℕ) (row height planes room : ℕ) → 64 + planes * (row * longest height) ≤ room → false ≡ ltb room (64 + length (lists_bytes old new row height planes 0))
longest_fits old new row height planes room h = sym (le-ltb room (64 + length (lists_bytes old new row height planes 0)) (omega (arith, h, lists_short old new row height planes 0)))

-- so no delta is refused with 51 in a buffer of 64 bytes and, for each column of each plane, the longest column's
pub delta_fits : (room : ℕ) (old new : List ℕ) (z : Sizes) (n : ℕ) → frame_length z ≡ ok n → length old ≡ n → length new ≡ n
    → 64 + z.planes * (row_bytes z.width * longest z.height) ≤ room → written room old new z ≡ ok (length (delta_bytes old new z))
delta_fits room old new z n e o w h =
    let l = lists_short old new (row_bytes z.width) z.height z.planes 0 in
    let k = delta_length old new z (each_is e (sizes_sound z)).planes_most in
    written_whole room old new z e o w (omega (arith, h, l, k))

-- every place of a delta is a small number
pub lists_few : (old new : List ℕ) (row height planes : ℕ) → row ≤ 128 → height ≤ 1024 → planes ≤ 8 → length (lists_bytes old new row height planes 0) ≤ 1574912
lists_few old new row height planes w t d = omega (arith, lists_short old new row height planes 0, lists_small w t d)
