-- `record::put_picture`: the two numbers, then the run list.
use native.Mathlib.Omega.{arith}
use Rattle.record.proofs.RecordLaws.{picture_length, picture_put}
use Rattle.record.proofs.put_picture.Goals as goal

pub put_number-place_at-requires : goal.put_number-place_at-requires
put_number-place_at-requires c = omega (arith, picture_length c.args.frame c.args.place c.args.old.now c.args.new.now)

pub put_number-list-requires : goal.put_number-list-requires
put_number-list-requires c =
    omega (arith, picture_length c.args.frame c.args.place c.args.old.now c.args.new.now)

pub put_list-requires : goal.put_list-requires
put_list-requires c =
    (c.requires.0, omega (arith, picture_length c.args.frame c.args.place c.args.old.now c.args.new.now))

pub returns : goal.returns
returns c =
    (picture_put _ _ _ _ c.put_number-place_at.ensures c.put_number-list.ensures c.put_list.ensures.0, c.put_list.ensures.1)
