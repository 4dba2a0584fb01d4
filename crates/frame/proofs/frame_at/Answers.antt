-- `frame::frame_at`: the FORM that was found lies within FORM ANIM.
use native.Mathlib.Omega.{arith}
use Rattle.std.proofs.Common.{Ok}
use Rattle.laws.proofs.ResultLaws.{told, each_some}
use Rattle.form.specs.Form.{form_of}
use Rattle.form.proofs.FormLaws.{Follows, form_follows}
use Rattle.frame.proofs.frame_at.Goals as goal

pub frame_in-requires : goal.frame_in-requires
frame_in-requires c =
    let k : Follows _ _ _ = each_some (told (λ o. form_of (Ok o)) c.in_ok-form.ensures c.in-Some.is) (form_follows _ _) in
    omega (arith, k.holds, k.ends)
