-- A BODY that isn't packed is there if it is as long as its rows.
use Prim.Native.Nat.{ℕ, zero, suc, ◌+◌, ◌*◌, ◌<◌, ◌≤◌}
use native.Mathlib.Nat.{suc-mul, mul_comm, mul_assoc}
use native.Mathlib.Omega.{arith}
use mathlib.Core.Bool.{Bool, true, false}
use mathlib.Core.List.{List, ◌∷◌}
use mathlib.Core.Path.{◌≡◌, refl, ap, ◌∙◌}
use lib.Dec.{leb}
use lib.ListN.{length, take, drop}
use borrow.Author.Tests.{le-leb, leb-true}
use Rattle.laws.specs.Result.{Res.ok, Res.fault, answer}
use Rattle.laws.proofs.ResultLaws.{answer_ok}
use Rattle.state.specs.declared.Sizes.{Sizes}
use Rattle.state.specs.State.{row_bytes, frame_bytes, Sound}
use Rattle.body.specs.Body.{row_at, rows_from}

pub plain_fits : (s : List ℕ) (B k at : ℕ) → at + k * B ≤ length s → answer (rows_from s at B k false) ≡ ok tt
unfolding rows_from row_at
plain_fits s B zero at h = refl
plain_fits s B (suc k) at h =
    let m = suc-mul k B in
    rw (le-leb (at + B) (length s) (omega (arith, m))) (answer_ok (rows_from s (at + B) B k false) (λ rs. take B (drop at s) ∷ rs) ∙ plain_fits s B k (at + B) (omega (arith, m)))

pub plain_short : (s : List ℕ) (B k at : ℕ) → at ≤ length s → length s < at + k * B → answer (rows_from s at B k false) ≡ fault 25
unfolding rows_from row_at
plain_short s B zero at l h = absurd (omega arith)
plain_short s B (suc k) at l h = go (leb (at + B) (length s)) refl (λ q. plain_short s B k (at + B) q (omega (arith, suc-mul k B)))
  where
    go : (t : Bool) → leb (at + B) (length s) ≡ t → (at + B ≤ length s → answer (rows_from s (at + B) B k false) ≡ fault 25) → answer (rows_from s at B (suc k) false) ≡ fault 25
    go false e ih = rw e
    go true e ih = rw e (answer_ok (rows_from s (at + B) B k false) (λ rs. take B (drop at s) ∷ rs) ∙ ih (leb-true (at + B) (length s) e))

-- within the limits it doesn't overflow
pub rows_most : {z : Sizes} {n B : ℕ} → Sound z n → B ≡ row_bytes z.width → z.height * z.planes * B ≤ 1048576
unfolding frame_bytes
rows_most {z} {n} {B} k e =
    let c : z.height * z.planes * B ≡ z.planes * (z.height * B) = ap (λ (m : ℕ). m * B) (mul_comm z.height z.planes) ∙ mul_assoc z.planes z.height B in
    rw c (rw e (omega (arith, k.length, k.length_most)))
