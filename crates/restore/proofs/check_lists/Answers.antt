-- `restore::check_lists`: the first list, the second list, and then the end of the record.
use mathlib.Core.Path.{refl}
use Rattle.restore.proofs.RestoreLaws.{bad_first, bad_second, left_over, good_lists}
use Rattle.restore.proofs.check_lists.Goals as goal

pub returns-in_err-map_list : goal.returns-in_err-map_list
returns-in_err-map_list c =
    let w = c.in_err-map_list.ensures in
    (rw c.from_residual.ensures (bad_first c.args.bytes.now c.args.shown.now c.args.map.now c.args.list w), w.kept refl, refl)

pub returns-in_err-end : goal.returns-in_err-end
returns-in_err-end c =
    let w = c.in_ok-map_list.ensures in
    let m = c.in_err-end.ensures in
    (rw c.from_residual-in_err-end.ensures (bad_second c.args.bytes.now c.args.shown.now c.args.map.now c.args.list c.in_ok-map_list.map_list w m), w.left, m.kept refl)

pub returns-then-end-bytes : goal.returns-then-end-bytes
returns-then-end-bytes c =
    let w = c.in_ok-map_list.ensures in
    let m = c.in_ok-end.ensures in
    (left_over c.args.bytes.now c.args.shown.now c.args.map.now c.args.list c.in_ok-map_list.map_list w m c.if-end-bytes.true, w.left, m.left)

pub returns : goal.returns
returns c =
    let w = c.in_ok-map_list.ensures in
    let m = c.in_ok-end.ensures in
    (good_lists c.args.bytes.now c.args.shown.now c.args.map.now c.args.list c.in_ok-map_list.map_list w m c.if-end-bytes.false, w.left, m.left)
