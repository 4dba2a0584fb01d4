-- Laws of writing a delta: the order of its checks, and what is left in the output buffer.
use Prim.Native.Nat.{ℕ, ◌+◌, ◌-◌, ◌*◌, ◌≤◌}
use native.Mathlib.Nat.{zero-add}
use native.Mathlib.Omega.{arith}
use mathlib.Core.Bool.{Bool, true, false}
use mathlib.Core.List.{List, ◌++◌}
use mathlib.Core.Path.{◌≡◌, sym, ap, ◌∙◌}
use lib.Dec.{ltb}
use lib.ListN.{length, replicate, length-append, length-replicate}
use lib.Seq.{sets, sets-eq}
use borrow.Author.Tests.{eq-eqb, ne_eqb, le-leb, lt-leb, ltb-true, ltb-false}
use Rattle.laws.specs.Result.{Res.ok, Res.fault}
use Rattle.laws.proofs.ResultLaws.{each_is}
use Rattle.state.specs.declared.Sizes.{Sizes}
use Rattle.state.specs.State.{row_bytes, frame_bytes, frame_length, Sound}
use Rattle.state.proofs.StateLaws.{sizes_sound}
use Rattle.writer.specs.Planes.{Frames}
use Rattle.writer.specs.Write.{pointers_bytes, lists_bytes, delta_bytes, written, Writes}
use Rattle.writer.proofs.PlaneLaws.{pointers_length}

-- the frames of sizes within the limits
frames_sound : {z : Sizes} {n : ℕ} {old new : List ℕ} → Sound z n → length old ≡ n → length new ≡ n → Frames old new (row_bytes z.width) z.height z.planes
unfolding frame_bytes
frames_sound s o w = record {
  tall = s.height_most;
  narrow = omega (arith, s.row_least);
  wide = s.row_most;
  deep = s.planes_most;
  old_size = o ∙ s.length;
  new_size = w ∙ s.length;
  plane = s.plane_most;
  most = omega (arith, s.length_most);
}

pub frames_are : (z : Sizes) {n : ℕ} {old new : List ℕ} → frame_length z ≡ ok n → length old ≡ n → length new ≡ n → Frames old new (row_bytes z.width) z.height z.planes
frames_are z e o w = frames_sound (each_is e (sizes_sound z)) o w

-- 64 bytes of pointers, and the lists
pub delta_length : (old new : List ℕ) (z : Sizes) → z.planes ≤ 8 → length (delta_bytes old new z) ≡ 64 + length (lists_bytes old new (row_bytes z.width) z.height z.planes 0)
unfolding delta_bytes
delta_length old new z h =
    let P : List ℕ = pointers_bytes old new (row_bytes z.width) z.height z.planes 0 64 in
    let Z : List ℕ = replicate (64 - 4 * z.planes) 0 in
    let L : List ℕ = lists_bytes old new (row_bytes z.width) z.height z.planes 0 in
    omega (arith, length-append (P ++ Z) L, length-append P Z, pointers_length old new (row_bytes z.width) z.height z.planes 0 64, length-replicate {A = ℕ} (64 - 4 * z.planes) 0)

-- where there is room it is written
pub written_whole : (room : ℕ) (old new : List ℕ) (z : Sizes) {n : ℕ} → frame_length z ≡ ok n → length old ≡ n → length new ≡ n → length (delta_bytes old new z) ≤ room
    → written room old new z ≡ ok (length (delta_bytes old new z))
unfolding written
written_whole room old new z {n} e o w k = simp (e, eq-eqb (length old) n o, eq-eqb (length new) n w, le-leb (length (delta_bytes old new z)) room k)

-- what is answered, and what is left in the output buffer
module _ (z : Sizes) (old new out : List ℕ) where
  answers_fault : {k : ℕ} → written (length out) old new z ≡ fault k → Writes out old new z (fault k) out
  answers_fault e = record { answers = sym e; leaves = rw e }

  pub limits : {k : ℕ} → frame_length z ≡ fault k → Writes out old new z (fault k) out
  unfolding written
  limits e = answers_fault (simp e)

  module _ {n : ℕ} (e : frame_length z ≡ ok n) where
    pub not_old : (length old ≡ n → ⊥) → Writes out old new z (fault 12) out
    unfolding written
    not_old h = answers_fault (simp (e, ne_eqb (length old) n h))

    pub not_new : length old ≡ n → (length new ≡ n → ⊥) → Writes out old new z (fault 12) out
    unfolding written
    not_new o h = answers_fault (simp (e, eq-eqb (length old) n o, ne_eqb (length new) n h))

    module _ (o : length old ≡ n) (w : length new ≡ n) where
      sound : Sound z n
      sound = each_is e (sizes_sound z)

      size : length (delta_bytes old new z) ≡ 64 + length (lists_bytes old new (row_bytes z.width) z.height z.planes 0)
      size = delta_length old new z sound.planes_most

      module _ {t : Bool} (l : t ≡ ltb (length out) (64 + length (lists_bytes old new (row_bytes z.width) z.height z.planes 0))) where
        pub no_room : t ≡ true → Writes out old new z (fault 51) out
        unfolding written
        no_room h =
            let k = ltb-true (length out) (64 + length (lists_bytes old new (row_bytes z.width) z.height z.planes 0)) (sym l ∙ h) in
            answers_fault (simp (e, eq-eqb (length old) n o, eq-eqb (length new) n w, lt-leb (length (delta_bytes old new z)) (length out) (omega (arith, size, k))))

        pub has_room : t ≡ false → 64 + length (lists_bytes old new (row_bytes z.width) z.height z.planes 0) ≤ length out
        has_room h = ltb-false (length out) (64 + length (lists_bytes old new (row_bytes z.width) z.height z.planes 0)) (sym l ∙ h)

        pub all_written : t ≡ false → {r : ℕ} {left : List ℕ}
            → (r ≡ 64 + length (lists_bytes old new (row_bytes z.width) z.height z.planes 0)) × (left ≡ sets out 0 (delta_bytes old new z))
            → Writes out old new z (ok r) left
        all_written h f =
            let k : length (delta_bytes old new z) ≤ length out = omega (arith, size, has_room h) in
            let r : written (length out) old new z ≡ ok (length (delta_bytes old new z)) = written_whole (length out) old new z e o w k in
            record { answers = ap (λ (j : ℕ). ok j) (f.0 ∙ sym size) ∙ sym r; leaves = f.1 ∙ sets-eq (delta_bytes old new z) out 0 (omega (arith, k)) ∙ rw (r, zero-add (length (delta_bytes old new z))) }
