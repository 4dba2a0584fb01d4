-- `restore::leads_back`: the two numbers, the two run lists, then whose record it is.
use mathlib.Core.Path.{refl, sym, ◌∙◌}
use Rattle.restore.proofs.RestoreLaws.{bad_record, not_its_own, leads_to}
use Rattle.restore.proofs.leads_back.Goals as goal

pub returns-in_default : goal.returns-in_default
returns-in_default c = (bad_record c.args.bytes.now c.args.shown.now c.args.map.now c.args.frame c.args.next (c.in_default.ensures _ _), refl, refl)

pub returns-in_default-check_lists : goal.returns-in_default-check_lists
returns-in_default-check_lists c =
    (bad_record c.args.bytes.now c.args.shown.now c.args.map.now c.args.frame c.args.next (c.in-Some.ensures _ _ ∙ c.in_default-check_lists.ensures.0 _ _), c.check_lists.ensures.1, c.check_lists.ensures.2)

pub returns-then-not-belongs : goal.returns-then-not-belongs
returns-then-not-belongs c =
    (not_its_own c.args.bytes.now c.args.shown.now c.args.map.now c.args.frame c.args.next _ _ _ (c.in-Some.ensures _ _) c.in-Some-check_lists.ensures.0 (sym c.if-not-belongs.ensures), c.check_lists.ensures.1, c.check_lists.ensures.2)

pub returns : goal.returns
returns c =
    (leads_to c.args.bytes.now c.args.shown.now c.args.map.now c.args.frame c.args.next _ _ _ (c.in-Some.ensures _ _) c.in-Some-check_lists.ensures.0 (sym c.if-not-belongs.ensures), c.check_lists.ensures.1, c.check_lists.ensures.2)
