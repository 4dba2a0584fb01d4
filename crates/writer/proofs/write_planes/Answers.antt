-- `writer::write_planes`: what is left to write, from a plane on, comes to the whole.
use native.Mathlib.Omega.{arith}
use Prim.Native.Nat.{ℕ, ◌+◌, ◌-◌, ◌*◌, ◌<◌}
use mathlib.Core.List.{List}
use mathlib.Core.Path.{◌≡◌}
use lib.Dec.{eqb}
use lib.Seq.{sets}
use Rattle.laws.specs.Bytes.{be32_bytes}
use Rattle.laws.specs.Put.{Put}
use Rattle.laws.specs.Result.{pick}
use Rattle.writer.specs.Planes.{Frames}
use Rattle.writer.specs.Write.{plane_bytes}
use Rattle.writer.proofs.PlaneLaws.{walking_plane}
use Rattle.writer.proofs.DeltaLaws.{Writing, writing_room, writing_more, writing_last}
use Rattle.writer.proofs.DeltaRoom.{lists_few}
use Rattle.writer.proofs.write_planes.Goals as goal

module _ {out₀ old new out : List ℕ} {row height planes place at : ℕ} (k : ℕ) (w : Writing out₀ old new row height planes out (4 * k) place at (planes - k)) where
  more : {out₁ out₂ : List ℕ} {next m : ℕ} → k < planes → Put out place (plane_bytes old new row height at) out₁ next → out₂ ≡ sets out₁ (4 * k) (be32_bytes (pick (eqb next place) 0 place)) → m ≡ height * row
      → Writing out₀ old new row height planes out₂ (4 * (k + 1)) next (at + m) (planes - (k + 1))
  more h p e f =
      let z : planes - (k + 1) ≡ planes - k - 1 = omega arith in
      let q : 4 * (k + 1) ≡ 4 * k + 4 = omega arith in
      rw (z, q, f) (writing_more w (omega arith) p e)

  small : Frames old new row height planes → place < 4294967296
  small v = omega (arith, w.ends, lists_few old new row height planes v.wide v.tall v.deep)

pub write_plane-next-requires : goal.write_plane-next-requires
write_plane-next-requires c =
    (walking_plane c.loop-plane.invariant.walk (omega arith) c.args.pair.now.frames, writing_room c.loop-plane.invariant (omega arith))

pub write_pointer-requires : goal.write_pointer-requires
write_pointer-requires c =
    (omega (arith, c.write_plane-next.ensures.size, c.loop-plane.invariant.low, c.loop-plane.invariant.high, c.loop-plane.invariant.fits), small _ c.loop-plane.invariant c.args.pair.now.frames)

pub loop-plane-preserved : goal.loop-plane-preserved
loop-plane-preserved c =
    more _ c.loop-plane.invariant c.loop-plane-test.true c.write_plane-next.ensures c.write_pointer.ensures c.plane_size-at.ensures

pub returns : goal.returns
returns c = writing_last c.loop-plane.invariant (omega (arith, c.loop-plane-test.false))
