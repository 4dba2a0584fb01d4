-- `delta::check`: the checks of the sizes, the two lengths and the columns, in the definition's order; then a walk that only checks.
use mathlib.Core.Path.{refl, sym, ◌∙◌}
use Rattle.laws.proofs.ResultLaws.{each_is}
use Rattle.state.proofs.StateLaws.{sizes_sound}
use Rattle.delta.proofs.ApplyLaws.{planes_sound, frame_delta, check_walked}
use Rattle.delta.proofs.check.Goals as goal

pub shape_of-requires : goal.shape_of-requires
shape_of-requires c = (each_is (sym c.in_ok-frame.ensures) (sizes_sound c.args.sizes)).plane_most

pub take_delta-requires : goal.take_delta-requires
take_delta-requires c = planes_sound c.args.items c.shape_of.ensures (each_is (sym c.in_ok-frame.ensures) (sizes_sound c.args.sizes)) c.if-work-frame.false

pub returns : goal.returns
returns c =
    check_walked _ _ _ _ _ _ _ _ c.take_delta.result c.shape_of.ensures (frame_delta _ _ _ _ _ (sym c.in_ok-frame.ensures) c.if-bytes-frame.false c.if-work-frame.false (cc))
    (c.if-bytes-frame.false ∙ sym c.if-work-frame.false) (planes_sound c.args.items refl (each_is (sym c.in_ok-frame.ensures) (sizes_sound c.args.sizes)) c.if-work-frame.false) c.take_delta.ensures
