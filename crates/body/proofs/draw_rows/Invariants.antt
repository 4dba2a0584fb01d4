-- `body::draw_rows`: the row that comes next is that of the line and the plane, and drawing what is left comes to drawing all.
use Prim.Native.Nat.{◌*◌}
use mathlib.Core.Path.{◌≡◌}
use lib.ListN.{length}
use Rattle.body.proofs.WalkLaws.{Drawing, Walking}
use Rattle.body.proofs.draw_rows.Given as goal

abbrev pub invariant-loop-line : goal.invariant-loop-line
invariant-loop-line l = (length l.frame ≡ length l.fn.frame) × Drawing l.packed l.sizes l.s l.fn.frame l.frame l.at (l.line * l.sizes.planes)

abbrev pub invariant-loop-plane : goal.invariant-loop-plane
invariant-loop-plane l =
    (length l.frame ≡ length l.fn.frame) × Walking l.packed l.sizes l.s l.fn.frame l.frame l.at l.row l.line l.plane l.place
