-- Bytes that are counted part by part: what is counted and what is left, from here, come to the whole.
use Prim.Native.Nat.{ℕ, ◌+◌}
use native.Mathlib.Omega.{arith}
use mathlib.Core.List.{List, []}
use mathlib.Core.Path.{◌≡◌, ap, ◌∙◌}
use lib.ListN.{length, length-append}
use Rattle.laws.proofs.PutLaws.{Parts}

pub record Counting (whole : List ℕ) (sum : ℕ) (left : List ℕ) : Type 0 where
  pub is : sum + length left ≡ length whole

pub counting : {whole : List ℕ} → Counting whole 0 whole
counting = record { is = omega arith }

module _ {whole left : List ℕ} {sum : ℕ} (w : Counting whole sum left) where
  pub counting_more : {xs rest : List ℕ} {n : ℕ} → Parts left xs rest → n ≡ length xs → Counting whole (sum + n) rest
  counting_more {xs} {rest} p e = record { is = omega (arith, w.is, ap length p.is ∙ length-append xs rest) }

  pub counting_last : left ≡ [] → sum ≡ length whole
  counting_last e = omega (arith, w.is, ap length e)
