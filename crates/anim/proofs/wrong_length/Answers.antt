-- `anim::wrong_length`: the refusal's number.
use Rattle.anim.proofs.wrong_length.Goals as goal

pub returns : goal.returns
returns c = c.number.ensures
