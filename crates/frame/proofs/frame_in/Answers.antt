-- `frame::frame_in`: what the three searches find in the chunks of the FORM.
use native.Mathlib.Nat.{add-sub_cancel_left}
use native.Mathlib.Omega.{arith}
use mathlib.Core.Path.{◌≡◌}
use mathlib.Core.Option.{some}
use lib.ListN.{take, drop, length-take, length-drop}
use Rattle.std.proofs.Common.{Some}
use Rattle.laws.specs.Result.{Res.ok}
use Rattle.laws.proofs.ResultLaws.{told, each_some}
use Rattle.iff.specs.Ids.{CMAP, ANHD, DLTA}
use Rattle.iff.specs.Chunk.{find, place_of}
use Rattle.iff.proofs.ChunkLaws.{Lies, find_lies}
use Rattle.frame.specs.Frame.{or_empty}
use Rattle.frame.proofs.FrameLaws.{empty_of, empty_lies, in_anim}
use Rattle.frame.proofs.frame_in.Goals.{After-unwrap_or-cmap}
use Rattle.frame.proofs.frame_in.Goals as goal

head : (t : After-unwrap_or-cmap) → find (take t.args.form.len (drop t.args.form.start t.args.anim.now)) ANHD ≡ ok (some (record { start = t.in_ok-anhd.anhd.start; size = t.in_ok-anhd.anhd.len }))
head t =
    let e : t.in_ok-three.three.first ≡ Some t.in_ok-anhd.anhd = grind arith in
    rw add-sub_cancel_left at (told (λ o. ok (place_of o)) t.in_ok-three.ensures.first e)

delta : (t : After-unwrap_or-cmap) → find (take t.args.form.len (drop t.args.form.start t.args.anim.now)) DLTA ≡ ok (some (record { start = t.in_ok-dlta.dlta.start; size = t.in_ok-dlta.dlta.len }))
delta t =
    let e : t.in_ok-three.three.second ≡ Some t.in_ok-dlta.dlta = grind arith in
    rw add-sub_cancel_left at (told (λ o. ok (place_of o)) t.in_ok-three.ensures.second e)

cmap : (t : After-unwrap_or-cmap) → or_empty (find (take t.args.form.len (drop t.args.form.start t.args.anim.now)) CMAP) ≡ record { start = t.unwrap_or-cmap.result.start; size = t.unwrap_or-cmap.result.len }
cmap t = rw add-sub_cancel_left at (empty_of t.in_ok-three.three.third t.in_ok-three.ensures.third t.unwrap_or-cmap.ensures)

pub overflow_add-stop : goal.overflow_add-stop
overflow_add-stop c =
    let l : Lies _ _ = each_some (head (goal.at.overflow_add-stop c).After-unwrap_or-cmap) (find_lies _ _) in
    omega (arith, simp (length-take, length-drop) at l.ends)

pub slice_bounds-frame_header-end : goal.slice_bounds-frame_header-end
slice_bounds-frame_header-end c =
    let l : Lies _ _ = each_some (head (goal.at.slice_bounds-frame_header-end c).After-unwrap_or-cmap) (find_lies _ _) in
    rw add-sub_cancel_left l.ends

pub returns-then-not-good_length : goal.returns-then-not-good_length
returns-then-not-good_length c =
    let t = (goal.at.returns-then-not-good_length c).After-unwrap_or-cmap in
    in_anim _ _ (record { start = c.args.form.start; size = c.args.form.len; next = c.args.form.next }) (head t) (delta t) (cmap t) (simp add-sub_cancel_left at c.in_ok-header.ensures) c.if-not-good_length.ensures

pub overflow_add-dlta_start : goal.overflow_add-dlta_start
overflow_add-dlta_start c =
    let l : Lies _ _ = each_some (delta (goal.at.overflow_add-dlta_start c).After-unwrap_or-cmap) (find_lies _ _) in
    omega (arith, simp (length-take, length-drop) at l.ends)

pub overflow_add-cmap_start : goal.overflow_add-cmap_start
overflow_add-cmap_start c =
    let l : Lies _ _ = empty_lies _ _ (cmap (goal.at.overflow_add-cmap_start c).After-unwrap_or-cmap) in
    omega (arith, simp (length-take, length-drop) at l.ends)

pub returns : goal.returns
returns c =
    let t = (goal.at.returns c).After-unwrap_or-cmap in
    in_anim _ _ (record { start = c.args.form.start; size = c.args.form.len; next = c.args.form.next }) (head t) (delta t) (cmap t) (simp add-sub_cancel_left at c.in_ok-header.ensures) c.if-not-good_length.ensures
