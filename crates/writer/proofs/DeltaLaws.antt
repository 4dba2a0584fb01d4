-- Laws of a whole delta that is written: pointers and lists, plane by plane.
use Prim.Native.Nat.{ℕ, zero, suc, ◌+◌, ◌-◌, ◌*◌, ◌≤◌, ◌<◌}
use native.Mathlib.Omega.{arith}
use mathlib.Core.List.{List, [], ◌∷◌, ◌++◌}
use mathlib.Core.Path.{◌≡◌, refl, sym, ap, ◌∙◌}
use lib.Dec.{eqb}
use lib.ListN.{length, set, take, drop, replicate, length-append, length-replicate}
use lib.Seq.{sets, length-sets, set_comm}
use Rattle.laws.proofs.BytesLaws.{length_be32}
use Rattle.laws.specs.Bytes.{be32_bytes}
use Rattle.laws.specs.Result.{pick}
use Rattle.laws.specs.Put.{Put}
use Rattle.laws.proofs.StoreLaws.{sets_append, lent_fill}
use Rattle.state.specs.declared.Sizes.{Sizes}
use Rattle.state.specs.State.{row_bytes}
use Rattle.writer.specs.Planes.{Frames}
use Rattle.writer.specs.Write.{plane_bytes, plane_pointer, pointers_bytes, lists_bytes, delta_bytes}
use Rattle.writer.proofs.PlaneLaws.{Walking, pointers_length, pointer_is, walking, walking_more}

-- stores that lie apart may be made in either order
set_sets : (f : List ℕ) (i a j : ℕ) (ys : List ℕ) → i < j → sets (set f i a) j ys ≡ set (sets f j ys) i a
set_sets f i a j [] h = refl
set_sets f i a j (y ∷ ys) h = rw (set_comm f i j a y (λ e. absurd (omega (arith, e)))) (set_sets (set f j y) i a (suc j) ys (omega arith))

sets_swap : (f : List ℕ) (i : ℕ) (xs : List ℕ) (j : ℕ) (ys : List ℕ) → i + length xs ≤ j → sets (sets f i xs) j ys ≡ sets (sets f j ys) i xs
sets_swap f i [] j ys h = refl
sets_swap f i (x ∷ xs) j ys h = sets_swap (set f i x) (suc i) xs j ys (omega arith) ∙ ap (λ (g : List ℕ). sets g (suc i) xs) (set_sets f i x j ys (omega arith))

-- a store right after another
sets_then : (f : List ℕ) (at : ℕ) (vs ws : List ℕ) (next : ℕ) → next ≡ at + length vs → sets (sets f at vs) next ws ≡ sets f at (vs ++ ws)
sets_then f at vs ws next e = rw e (sets_append f at vs ws)

-- what is left to write, from a plane on, comes to the whole
pub record Writing (out₀ old new : List ℕ) (row height planes : ℕ) (out : List ℕ) (pointer place at left : ℕ) : Type 0 where
  pub size : length out ≡ length out₀
  pub fits : place + length (lists_bytes old new row height left at) ≤ length out
  pub ends : place + length (lists_bytes old new row height left at) ≡ 64 + length (lists_bytes old new row height planes 0)
  pub low : pointer + 4 * left ≤ 64
  pub high : 64 ≤ place
  pub walk : Walking row height planes at left
  pub whole : sets (sets out pointer (pointers_bytes old new row height left at place)) place (lists_bytes old new row height left at)
      ≡ sets (sets out₀ 0 (pointers_bytes old new row height planes 0 64)) 64 (lists_bytes old new row height planes 0)

pub writing : {out old new : List ℕ} {row height planes : ℕ} → Frames old new row height planes → 64 + length (lists_bytes old new row height planes 0) ≤ length out
    → Writing out old new row height planes out 0 64 0 planes
writing v h = record { size = refl; fits = h; ends = refl; low = omega (arith, v.deep); high = omega arith; walk = walking _ _ _; whole = refl }

pub writing_room : {out₀ old new : List ℕ} {row height planes : ℕ} {out : List ℕ} {pointer place at left : ℕ} → Writing out₀ old new row height planes out pointer place at left → 0 < left
    → place + length (plane_bytes old new row height at) ≤ length out
unfolding lists_bytes
writing_room {left = zero} w h = absurd (omega arith)
writing_room {old = old} {new} {row} {height} {at = at} {left = suc k} w h =
    omega (arith, w.fits, length-append (plane_bytes old new row height at) (lists_bytes old new row height k (at + height * row)))

-- one plane more
more : {out₀ old new : List ℕ} {row height planes : ℕ} {out : List ℕ} {pointer place at : ℕ} (k : ℕ) → Writing out₀ old new row height planes out pointer place at (suc k)
    → {out₁ : List ℕ} {next : ℕ} → Put out place (plane_bytes old new row height at) out₁ next
    → Writing out₀ old new row height planes (sets out₁ pointer (be32_bytes (pick (eqb next place) 0 place))) (pointer + 4) next (at + height * row) k
unfolding lists_bytes pointers_bytes
more {out₀} {old} {new} {row} {height} {planes} {out} {pointer} {place} {at} k w {out₁} {next} p =
    let L : List ℕ = plane_bytes old new row height at in
    let R : List ℕ = lists_bytes old new row height k (at + height * row) in
    let b : List ℕ = be32_bytes (plane_pointer place L) in
    let P : List ℕ = pointers_bytes old new row height k (at + height * row) (place + length L) in
    let e : be32_bytes (pick (eqb next place) 0 place) ≡ b = ap be32_bytes (pointer_is place next L p.place) in
    let m : suc k - 1 ≡ k = omega arith in
    let lp : length (b ++ P) ≡ 4 + 4 * k =
    omega (arith, length-append b P, length_be32 (plane_pointer place L), pointers_length old new row height k (at + height * row) (place + length L)) in
    record {
      size = length-sets out₁ pointer (be32_bytes (pick (eqb next place) 0 place)) ∙ p.size ∙ w.size;
      fits = omega (arith, w.fits, p.size, p.place, length-append L R, length-sets out₁ pointer (be32_bytes (pick (eqb next place) 0 place)));
      ends = omega (arith, w.ends, p.place, length-append L R);
      low = omega (arith, w.low);
      high = omega (arith, w.high, p.place);
      walk = rw m at (walking_more w.walk (omega arith));
      whole = rw (e, p.left, p.place)
          (ap (λ (g : List ℕ). sets g (place + length L) R) (sets_then (sets out place L) pointer b P (pointer + 4) (omega (arith, length_be32 (plane_pointer place L))))
          ∙ ap (λ (g : List ℕ). sets g (place + length L) R) (sym (sets_swap out pointer (b ++ P) place L (omega (arith, w.low, w.high, lp))))
          ∙ sets_append (sets out pointer (b ++ P)) place L R
          ∙ w.whole);
    }

pub writing_more : {out₀ old new : List ℕ} {row height planes : ℕ} {out : List ℕ} {pointer place at left : ℕ} → Writing out₀ old new row height planes out pointer place at left → 0 < left
    → {out₁ out₂ : List ℕ} {next : ℕ} → Put out place (plane_bytes old new row height at) out₁ next → out₂ ≡ sets out₁ pointer (be32_bytes (pick (eqb next place) 0 place))
    → Writing out₀ old new row height planes out₂ (pointer + 4) next (at + height * row) (left - 1)
writing_more {left = zero} w h p e = absurd (omega arith)
writing_more {left = suc k} w h p e = let z : suc k - 1 ≡ k = omega arith in rw (e, z) (more k w p)

pub writing_last : {out₀ old new : List ℕ} {row height planes : ℕ} {out : List ℕ} {pointer place at left : ℕ} → Writing out₀ old new row height planes out pointer place at left → left ≤ 0
    → (place ≡ 64 + length (lists_bytes old new row height planes 0)) × (out ≡ sets (sets out₀ 0 (pointers_bytes old new row height planes 0 64)) 64 (lists_bytes old new row height planes 0))
unfolding lists_bytes pointers_bytes
writing_last {left = zero} w h = (omega (arith, w.ends), w.whole)
writing_last {left = suc k} w h = absurd (omega arith)

-- the pointers, zeros after them, and the lists
pub delta_is : (z : Sizes) (old new out out₁ : List ℕ) → z.planes ≤ 8 → out₁ ≡ sets out (4 * z.planes) (replicate (64 - 4 * z.planes) 0)
    → sets (sets out₁ 0 (pointers_bytes old new (row_bytes z.width) z.height z.planes 0 64)) 64 (lists_bytes old new (row_bytes z.width) z.height z.planes 0)
    ≡ sets out 0 (delta_bytes old new z)
unfolding delta_bytes
delta_is z old new out out₁ h e =
    let P : List ℕ = pointers_bytes old new (row_bytes z.width) z.height z.planes 0 64 in
    let Z : List ℕ = replicate (64 - 4 * z.planes) 0 in
    let R : List ℕ = lists_bytes old new (row_bytes z.width) z.height z.planes 0 in
    let lp : length P ≡ 4 * z.planes = pointers_length old new (row_bytes z.width) z.height z.planes 0 64 in
    let lz : length (P ++ Z) ≡ 64 = omega (arith, length-append P Z, lp, length-replicate {A = ℕ} (64 - 4 * z.planes) 0) in
    let c : sets (sets out (4 * z.planes) Z) 0 P ≡ sets out 0 (P ++ Z) = sym (sets_swap out 0 P (4 * z.planes) Z (omega (arith, lp))) ∙ sets_then out 0 P Z (4 * z.planes) (omega (arith, lp)) in
    rw (e, c) (sets_then out 0 (P ++ Z) R 64 (omega (arith, lz)))

-- the pointers past the planes, which were filled with zeros in the part that was lent for them
module _ (out : List ℕ) (p : ℕ) (y : List ℕ) (h : p ≤ 8) (l : 64 ≤ length out) (e : y ≡ replicate (length (take (64 - 4 * p) (drop (4 * p) out))) 0) where
  pub zeros_put : take (4 * p) out ++ (y ++ drop (64 - 4 * p) (drop (4 * p) out)) ≡ sets out (4 * p) (replicate (64 - 4 * p) 0)
  zeros_put =
      let i : 4 * p + (64 - 4 * p) - 4 * p ≡ 64 - 4 * p = omega arith in
      rw i at (lent_fill out (4 * p) (64 - 4 * p) 0 y (omega arith) (rw i e))
