-- `anim::anim_open`: a state of another length stays as it is.
use Rattle.anim.proofs.ExportLaws.{open_unsized}
use Rattle.anim.proofs.anim_open.Goals as goal

pub returns-then-state-ne48 : goal.returns-then-state-ne48
returns-then-state-ne48 c =
    open_unsized c.args.file.now (record { state = c.args.state.now; a = c.args.a.now; b = c.args.b.now; map = c.args.map.now }) c.wrong_length.ensures c.if-state-ne48.true
