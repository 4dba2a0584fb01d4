-- 44, which is retired, is no refusal's number (document 02, E4).
use mathlib.Core.Path.{◌≡◌, sym, ap, ◌∙◌}
use Rattle.laws.proofs.ResultLaws.{false_true}
use Rattle.refusal.specs.Number.{number_of, is_number}
use Rattle.refusal.specs.declared.Refusal.{Refusal}
use Rattle.refusal.proofs.NumberLaws.{is_number_lem}

pub retired : (r : Refusal) → number_of r ≡ 44 → ⊥
retired r e = false_true (sym (ap is_number e) ∙ is_number_lem r)
