-- `record::put_number`: the number fits, so that it is written.
use Rattle.record.proofs.PutLaws.{put_next, put_some}
use Rattle.record.proofs.put_number.Goals as goal

pub unwrap-requires : goal.unwrap-requires
unwrap-requires c = put_some _ _ _ _ _ c.requires c.write.ensures

pub returns : goal.returns
returns c = put_next _ _ _ _ _ c.requires c.write.ensures _ c.unwrap.ensures
