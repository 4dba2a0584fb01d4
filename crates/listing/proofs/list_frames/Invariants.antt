-- `listing::list_frames`: each turn steps on and adds the line of what was answered.
use Rattle.state.specs.After.{lent}
use Rattle.listing.specs.Listing.{begun}
use Rattle.listing.proofs.ListLaws.{Showing}
use Rattle.lines.specs.Lines.{picture_line, Adds}
use lib.ListN.{length}
use mathlib.Core.List.{List}
use Prim.Native.Nat.{ℕ, ◌-◌, min}
use Rattle.listing.proofs.list_frames.Given as goal

abbrev pub invariant-loop-s : goal.invariant-loop-s
invariant-loop-s l =
    (o : List ℕ) → Adds o (min 0 (length o)) (picture_line l.initial.state.sizes) l.initial.out l.initial.at
    → Showing l.file (length l.initial.work) (length l.initial.rec) (begun (lent l.initial.a l.initial.b l.initial.map l.initial.state l.initial.work l.initial.rec)) o l.a l.b l.map l.work l.rec l.out l.state l.at

abbrev pub decreases-loop-s : goal.decreases-loop-s
decreases-loop-s l = length l.file - l.state.next
