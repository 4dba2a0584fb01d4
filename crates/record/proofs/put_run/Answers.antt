-- `record::put_run`: the gap, the count and the old bytes are put one after the other.
use Rattle.record.proofs.RunLaws.{run_put}
use Rattle.record.proofs.put_run.Goals as goal

pub returns : goal.returns
returns c =
    run_put c.args.gap c.args.start c.args.count _ c.requires.2 c.put_number-count_at.ensures c.put_number-bytes_at.ensures c.replace.ensures
