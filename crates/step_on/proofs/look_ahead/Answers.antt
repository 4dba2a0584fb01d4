-- `step_on::look_ahead`: the tests, and then the frame that lies ahead, by which buffer is shown.
use mathlib.Core.Path.{sym, ◌∙◌}
use Rattle.laws.proofs.ResultLaws.{each_is}
use Rattle.refusal.proofs.NumberLaws.{err_is}
use Rattle.step_on.proofs.ReadyLaws.{ready_passed}
use Rattle.step_on.proofs.StepLaws.{ahead_refused, ahead_odd, ahead_even}
use Rattle.step_on.proofs.look_ahead.Goals as goal

pub returns-in_err-ready : goal.returns-in_err-ready
returns-in_err-ready c =
    rw (err_is c.from_residual.result c.from_residual.ensures.1)
    (ahead_refused c.args.file.now (record { a = c.args.a.now; b = c.args.b.now; map = c.args.map.now; state = c.args.state }) c.args.work.now (sym c.in_err-ready.ensures))

pub look-requires : goal.look-requires
look-requires c = let p = each_is (sym c.in_ok-ready.ensures) (ready_passed _ _ _ _ _ _) in (p.on_a, p.on_b)

pub returns-then-shows_a : goal.returns-then-shows_a
returns-then-shows_a c =
    ahead_odd c.args.file.now (record { a = c.args.a.now; b = c.args.b.now; map = c.args.map.now; state = c.args.state }) c.args.work.now (sym c.in_ok-ready.ensures) (sym c.shows_a.ensures ∙ c.if-shows_a.true)
    (rw c.part-anim.ensures at c.look.ensures)

pub look-requires-2 : goal.look-requires-2
look-requires-2 c = let p = each_is (sym c.in_ok-ready.ensures) (ready_passed _ _ _ _ _ _) in (p.on_b, p.on_a)

pub returns : goal.returns
returns c =
    ahead_even c.args.file.now (record { a = c.args.a.now; b = c.args.b.now; map = c.args.map.now; state = c.args.state }) c.args.work.now (sym c.in_ok-ready.ensures) (sym c.shows_a.ensures ∙ c.if-shows_a.false)
    (rw c.part-anim.ensures at c.look-2.ensures)
