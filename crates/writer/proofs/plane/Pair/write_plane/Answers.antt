-- `writer::plane::Pair::write_plane`: an unchanged plane writes nothing.
use mathlib.Core.Path.{ap}
use lib.ListN.{length}
use Rattle.laws.proofs.PutLaws.{put_as, put_nothing}
use Rattle.writer.proofs.PlaneLaws.{plane_unchanged, plane_changed}
use native.Mathlib.Omega.{arith}
use Rattle.writer.proofs.plane.Pair.write_plane.Goals as goal

pub returns-then-unchanged : goal.returns-then-unchanged
returns-then-unchanged c = put_as put_nothing (plane_unchanged _ _ _ _ _ c.unchanged.ensures c.if-unchanged.true)

pub write_columns-requires : goal.write_columns-requires
write_columns-requires c =
    let s = c.args.self.now in
    (c.requires.0, omega (arith, c.requires.1, ap length (plane_changed s.old.now s.new.now s.row s.height c.args.at c.unchanged.ensures c.if-unchanged.false)))

pub returns : goal.returns
returns c =
    put_as c.write_columns.ensures (plane_changed _ _ _ _ _ c.unchanged.ensures c.if-unchanged.false)
