-- 44, which is retired, is no answer of the C interface (document 02, E4).
use Prim.Native.Nat.{ℕ}
use mathlib.Core.Path.{◌≡◌, sym, ap, ◌∙◌}
use Rattle.laws.proofs.ResultLaws.{false_true}
use Rattle.answers.specs.Answers.{Answers, is_answer}
use Rattle.answers.proofs.Answered.{answered}

pub never_44 : {r : ℕ} → Answers r → r ≡ 44 → ⊥
never_44 a e = false_true (sym (ap is_answer e) ∙ answered a)
