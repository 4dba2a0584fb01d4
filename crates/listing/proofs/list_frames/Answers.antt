-- `listing::list_frames`: each turn steps on and adds the line of what was answered.
use borrow.Author.Tests.{not-true, not-false}
use Rattle.state.specs.After.{lent}
use Rattle.listing.specs.Listing.{begun}
use Rattle.listing.proofs.ListLaws.{Showing, showing_starts, showing_size, showing_stops, showing_less, showing_turns}
use lib.ListN.{length}
use mathlib.Core.Path.{◌∙◌}
use Rattle.listing.proofs.list_frames.Goals.{After-step_on-s}
use Rattle.listing.proofs.list_frames.Goals as goal

shown : (t : After-step_on-s)
    → Showing t.args.file.now (length t.args.work.now) (length t.args.rec.now) (begun (lent t.args.a.now t.args.b.now t.args.map.now t.args.start t.args.work.now t.args.rec.now)) t.args.out.now
    t.loop-s.a t.loop-s.b t.loop-s.map t.loop-s.work t.loop-s.rec t.loop-s.out t.loop-s.state t.loop-s.at
shown t = t.loop-s.invariant t.args.out.now t.put_line-at.ensures

pub loop-s-init : goal.loop-s-init
loop-s-init c = λ o h. showing_starts _ _ _ _ _ _ o _ h

pub shape_of-a-then-not-taken : goal.shape_of-a-then-not-taken
shape_of-a-then-not-taken c = c.step_on-s.auto.a ∙ (shown (goal.at.shape_of-a-then-not-taken c).After-step_on-s).left

pub shape_of-b-then-not-taken : goal.shape_of-b-then-not-taken
shape_of-b-then-not-taken c = c.step_on-s.auto.b ∙ (shown (goal.at.shape_of-b-then-not-taken c).After-step_on-s).right

pub shape_of-map-then-not-taken : goal.shape_of-map-then-not-taken
shape_of-map-then-not-taken c = c.step_on-s.auto.map ∙ (shown (goal.at.shape_of-map-then-not-taken c).After-step_on-s).colours

pub shape_of-work-then-not-taken : goal.shape_of-work-then-not-taken
shape_of-work-then-not-taken c = c.step_on-s.auto.work ∙ (shown (goal.at.shape_of-work-then-not-taken c).After-step_on-s).drawn

pub shape_of-rec-then-not-taken : goal.shape_of-rec-then-not-taken
shape_of-rec-then-not-taken c = c.step_on-s.auto.rec ∙ (shown (goal.at.shape_of-rec-then-not-taken c).After-step_on-s).written

pub shape_of-out-then-not-taken : goal.shape_of-out-then-not-taken
shape_of-out-then-not-taken c =
    showing_size (shown (goal.at.shape_of-out-then-not-taken c).After-step_on-s) c.step_on-s.ensures c.step_line.ensures c.put_line-at-in-loop-s.ensures

pub returns-then-not-taken : goal.returns-then-not-taken
returns-then-not-taken c =
    showing_stops (shown (goal.at.returns-then-not-taken c).After-step_on-s) c.step_on-s.ensures c.step_line.ensures c.put_line-at-in-loop-s.ensures c.taken.ensures (not-true _ c.if-not-taken.true-raw)

pub loop-s-smaller : goal.loop-s-smaller
loop-s-smaller c =
    showing_less (shown (goal.at.loop-s-smaller c).After-step_on-s) c.step_on-s.ensures c.step_line.ensures c.put_line-at-in-loop-s.ensures c.taken.ensures (not-false _ c.if-not-taken.false-raw)

pub loop-s-preserved : goal.loop-s-preserved
loop-s-preserved c =
    λ o h. showing_turns (c.loop-s.invariant o h) c.step_on-s.ensures c.step_line.ensures c.put_line-at-in-loop-s.ensures c.taken.ensures (not-false _ c.if-not-taken.false-raw) c.step_on-s.auto.a c.step_on-s.auto.b c.step_on-s.auto.map c.step_on-s.auto.work c.step_on-s.auto.rec
