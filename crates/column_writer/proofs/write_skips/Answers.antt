-- `column_writer::write_skips`: the Skips of 127 rows are filled in, and the rest is put after them.
use native.Mathlib.Omega.{arith}
use Prim.Native.Nat.{ℕ, ◌+◌, ◌-◌, ◌/◌, ◌%◌, ◌≤◌, ◌<◌}
use mathlib.Core.List.{List, ◌++◌}
use mathlib.Core.Path.{◌≡◌, refl, ◌∙◌}
use lib.ListN.{length, take, drop, replicate, length-replicate}
use Rattle.laws.specs.Put.{Put}
use Rattle.laws.proofs.PutLaws.{put_as, put_then, put_byte}
use Rattle.laws.proofs.StoreLaws.{length_part}
use Rattle.column_writer.specs.Column.{WrittenOp.skip, cut, ops_bytes}
use Rattle.column_writer.proofs.CutLaws.{skip_whole, skip_rest, skip_count, skip_bytes, put_part, length_lent}
use Rattle.column_writer.proofs.write_skips.Goals as goal

module _ (out : List ℕ) (at rows : ℕ) (h : at + length (ops_bytes (cut (skip rows))) ≤ length out) where
  room : at + rows / 127 ≤ length out
  room = omega (arith, skip_bytes rows, skip_count rows)

  room_rest : (rows % 127 ≡ 0 → ⊥) → at + rows / 127 < length out
  room_rest e = omega (arith, skip_bytes rows, skip_count rows, e)

  filled : (y : List ℕ) → y ≡ replicate (length (take (at + rows / 127 - at) (drop at out))) 127 → Put out at (replicate (rows / 127) 127) (take at out ++ (y ++ drop (at + rows / 127 - at) (drop at out))) (at + rows / 127)
  filled y e =
      let n : at + rows / 127 - at ≡ rows / 127 = omega arith in
      put_part out at (at + rows / 127) (replicate (rows / 127) 127) (omega (arith, length-replicate {A = ℕ} (rows / 127) 127)) room (e ∙ rw (n, length_part out at (rows / 127) room) refl)

pub slice_bounds-fill-end : goal.slice_bounds-fill-end
slice_bounds-fill-end c = room _ _ _ c.requires

pub bounds-out-end : goal.bounds-out-end
bounds-out-end c =
    rw (length_lent c.args.out.now c.args.at _ _ c.fill.ensures.len) (room_rest _ _ _ c.requires c.if-rest-eq0.false)

pub returns-then-rest-eq0 : goal.returns-then-rest-eq0
returns-then-rest-eq0 c = put_as (filled _ _ _ c.requires _ (c.fill.ensures.after (λ y e. e))) (skip_whole _ c.if-rest-eq0.true)

pub returns : goal.returns
returns c = put_as (put_then (filled _ _ _ c.requires _ (c.fill.ensures.after (λ y e. e))) put_byte) (skip_rest _ c.if-rest-eq0.false)
