-- `restore::restore`: if the record leads back its two run lists are put back, else nothing is done.
use Rattle.restore.proofs.RestoreLaws.{is_back}
use Rattle.restore.proofs.restore.Goals as goal

pub returns : goal.returns
returns c =
    is_back c.args.bytes.now c.args.shown.now c.args.map.now c.args.frame c.args.next c.leads_back.ensures.1 c.leads_back.ensures.2 c.in_ok-lists.ensures.0 _ _ c.take_list.result c.take_list-2.result c.take_list.ensures c.take_list-2.ensures
