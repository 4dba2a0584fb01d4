-- `anim::anim_step_on`: what is handed over of the step.
use Rattle.anim.proofs.ExportLaws.{on_sized}
use Rattle.anim.proofs.anim_step_on.Goals as goal

pub returns : goal.returns
returns c =
    on_sized c.args.file.now (record { world = record { state = c.args.state.now; a = c.args.a.now; b = c.args.b.now; map = c.args.map.now }; work = c.args.work.now; rec = c.args.rec.now; report = c.args.report.now }) c.lengths_ok.ensures (rw c.read_state.ensures at c.step_on-s.ensures) c.if-not-lengths_ok.false c.hand_on.ensures
