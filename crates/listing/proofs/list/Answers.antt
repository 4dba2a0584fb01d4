-- `listing::list`: the buffers' lengths, then the file.
use mathlib.Core.Path.{sym, ◌∙◌}
use borrow.Author.Tests.{not-true, not-false}
use Rattle.listing.proofs.FileLaws.{too_short, long_enough_lem, meets_list}
use Rattle.listing.proofs.list.Goals as goal

pub returns-then-not-long_enough : goal.returns-then-not-long_enough
returns-then-not-long_enough c =
    too_short c.args.file.now (record { a = c.args.a.now; b = c.args.b.now; map = c.args.map.now; work = c.args.work.now; rec = c.args.rec.now }) c.args.out.now (sym c.long_enough.ensures ∙ not-true _ c.if-not-long_enough.true-raw)

pub list_file-requires : goal.list_file-requires
list_file-requires c =
    long_enough_lem c.args.file.now (record { a = c.args.a.now; b = c.args.b.now; map = c.args.map.now; work = c.args.work.now; rec = c.args.rec.now }) c.args.out.now (sym c.long_enough.ensures ∙ not-false _ c.if-not-long_enough.false-raw)

pub returns : goal.returns
returns c =
    meets_list c.args.file.now (record { a = c.args.a.now; b = c.args.b.now; map = c.args.map.now; work = c.args.work.now; rec = c.args.rec.now }) c.args.out.now (sym c.long_enough.ensures ∙ not-false _ c.if-not-long_enough.false-raw) c.list_file.ensures
