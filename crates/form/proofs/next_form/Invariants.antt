-- `form::next_form`: each turn is the definition's step from the place.
use Prim.Native.Nat.{◌-◌}
use lib.ListN.{length}
use Rattle.laws.specs.Result.{Res.fault}
use Rattle.laws.proofs.LoopLaws.{Going}
use Rattle.form.specs.Form.{form_step, next_form}
use Rattle.form.proofs.next_form.Given as goal

abbrev pub invariant-loop-chunk : goal.invariant-loop-chunk
invariant-loop-chunk l = Going (form_step l.s) (λ p. length l.s - p) (fault 21) (next_form l.s l.from) l.at

abbrev pub decreases-loop-chunk : goal.decreases-loop-chunk
decreases-loop-chunk l = length l.s - l.at
