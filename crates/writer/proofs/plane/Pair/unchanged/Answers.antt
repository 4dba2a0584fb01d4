-- `writer::plane::Pair::unchanged`: the parts that are compared are the planes.
use Prim.Native.Nat.{ℕ, ◌+◌, ◌-◌}
use native.Mathlib.Omega.{arith}
use mathlib.Core.Bool.{Bool}
use mathlib.Core.List.{List}
use mathlib.Core.Path.{◌≡◌, ◌∙◌}
use lib.Dec.{eqb}
use lib.ListN.{take, drop}
use Rattle.std.specs.Cmp.Lexicographic.{pointwise}
use Rattle.writer.specs.Write.{planes_equal}
use Rattle.writer.proofs.PlaneLaws.{equal_is}
use Rattle.writer.proofs.plane.Pair.unchanged.Goals as goal

planes : (old new : List ℕ) (at n : ℕ) {m : ℕ} {r : Bool} → r ≡ pointwise eqb (take (at + m - at) (drop at old)) (take (at + m - at) (drop at new)) → m ≡ n → r ≡ planes_equal (take n (drop at old)) (take n (drop at new))
planes old new at n {m} e f =
    let k : at + m - at ≡ n = omega arith in
    rw k at e ∙ equal_is (take n (drop at old)) (take n (drop at new))

pub returns : goal.returns
returns c = planes _ _ _ _ c.eq.ensures c.plane_size.ensures
