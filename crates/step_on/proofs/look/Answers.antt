-- `step_on::look`: the next frame, if there is one, is built; its DLTA and its CMAP are parts of FORM ANIM.
use mathlib.Core.Path.{refl, sym}
use Rattle.refusal.proofs.NumberLaws.{err_is}
use Rattle.step_on.proofs.StepLaws.{look_refused, look_ended, look_unbuilt, look_built}
use Rattle.step_on.proofs.look.Goals as goal

pub returns-in_err-x : goal.returns-in_err-x
returns-in_err-x c =
    rw (err_is c.from_residual.result c.from_residual.ensures.1)
    (look_refused c.args.anim.now c.args.state c.args.shown.now c.args.hidden.now c.args.work.now (sym (rw c.row_bytes.ensures at c.in_err-x.ensures)))

pub returns-in_default : goal.returns-in_default
returns-in_default c =
    look_ended c.args.anim.now c.args.state c.args.shown.now c.args.hidden.now c.args.work.now (sym (rw (c.row_bytes.ensures, c.in_default.is) at c.in_ok-x.ensures))

pub returns-in_err-ops : goal.returns-in_err-ops
returns-in_err-ops c =
    rw (err_is c.from_residual-in_err-ops.result c.from_residual-in_err-ops.ensures.1)
    (look_unbuilt c.args.anim.now c.args.state c.args.shown.now c.args.hidden.now c.args.work.now c.requires.0 c.requires.1 (sym (rw (c.row_bytes.ensures, c.in-Some.is) at c.in_ok-x.ensures))
    (rw c.part-dlta.ensures at c.in_err-ops.ensures))

pub returns : goal.returns
returns c =
    look_built c.args.anim.now c.args.state c.args.shown.now c.args.hidden.now c.args.work.now c.requires.0 c.requires.1 (sym (rw (c.row_bytes.ensures, c.in-Some.is) at c.in_ok-x.ensures)) _ refl refl refl refl
    (rw c.part-dlta.ensures at c.in_ok-ops.ensures)
