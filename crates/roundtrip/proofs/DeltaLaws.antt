-- The planes of a delta that is written, read and drawn by the delta's own definitions, make the new picture.
use Prim.Native.Nat.{ℕ, zero, suc, ◌+◌, ◌-◌, ◌*◌, ◌/◌, ◌%◌, ◌<◌, ◌≤◌}
use native.Mathlib.Nat.{mul-le-mul_right, div-add-mod', mod-lt, div-lt_iff_lt-mul, div-one}
use native.Mathlib.Omega.{arith}
use mathlib.Core.Bool.{Bool, true, false}
use mathlib.Core.List.{List, [], ◌∷◌, ◌++◌, append_assoc}
use mathlib.Core.Path.{◌≡◌, refl, sym, ap, ◌∙◌}
use lib.Dec.{ltb, eqb}
use lib.ListN.{length, get_or, take, drop, replicate, length-append, length-replicate}
use lib.Seq.{ext_get_or, get_or-take, get_or-drop, drop_at}
use borrow.Author.Tests.{le-leb, ltb-true, ltb-false, eqb-true}
use Rattle.laws.specs.Result.{Res.ok}
use Rattle.laws.proofs.ResultLaws.{never}
use Rattle.laws.specs.Bytes.{be32, be32_bytes}
use Rattle.laws.proofs.BytesLaws.{be32_at, length_be32}
use Rattle.laws.specs.Every.{Every.every_none}
use Rattle.state.specs.declared.Sizes.{Sizes}
use Rattle.state.specs.State.{row_bytes, frame_bytes, Sound}
use Rattle.column_writer.specs.Column.{column_bytes}
use Rattle.writer.proofs.DeltaRoom.{lists_few}
use Rattle.writer.specs.Write.{column_in, columns_bytes, planes_equal, plane_bytes, plane_pointer, pointers_bytes, lists_bytes, delta_bytes}
use Rattle.writer.proofs.PlaneLaws.{pointers_length, plane_unchanged, plane_changed}
use Rattle.writer.proofs.ColumnLaws.{column_ext}
use Rattle.delta.proofs.DeltaLaws.{plane_same, plane_columns}
use Rattle.delta.specs.Reading.{Op, Reading, shape_of}
use Rattle.delta.specs.Column.{read_columns}
use Rattle.delta.specs.Delta.{list_pointer, read_plane, read_planes, read_picture, read_delta, draw}
use Rattle.anhd.specs.declared.Items.TheVariants.{Bytes}
use Rattle.roundtrip.proofs.ColumnLaws.{bytewise, Makes}
use Rattle.roundtrip.proofs.PlaneLaws.{paint, length_paint, paint_out, paint_in, columns_are}

-- a frame that is the new one before a place and the old one from there on
record Half (f old new : List ℕ) (at : ℕ) : Type 0 where
  long : length f ≡ length new
  before : (j : ℕ) → j < at → get_or f j 0 ≡ get_or new j 0
  after : (j : ℕ) → at ≤ j → get_or f j 0 ≡ get_or old j 0

module _ (row height : ℕ) (s1 : 1 ≤ row) (old new : List ℕ) where
  -- a painted plane
  half_paint : (at : ℕ) (f : List ℕ) → at + height * row ≤ length new → Half f old new at → Half (paint new row height row at f) old new (at + height * row)
  half_paint at f h v = record {
    long = length_paint new row height row at f ∙ v.long;
    before = λ j k. go j k (ltb j at) refl;
    after = λ j k. paint_out new row height row at f j (λ c r x y e. omega (arith, mul-le-mul_right row y)) ∙ v.after j (omega arith);
  }
    where
      inside : (j : ℕ) → at ≤ j → j < at + height * row → get_or (paint new row height row at f) j 0 ≡ get_or new j 0
      inside j a b =
          let e : (j - at) / row * row + (j - at) % row ≡ j - at = div-add-mod' (j - at) row in
          let m : (j - at) % row < row = mod-lt (j - at) s1 in
          let q : (j - at) / row < height = (div-lt_iff_lt-mul s1).1 (omega arith) in
          let z : at + (j - at) % row + (j - at) / row * row ≡ j = omega arith in
          rw z at (paint_in new row height row at f (omega arith) s1 ((j - at) % row) ((j - at) / row) m q (omega (arith, v.long)))

      go : (j : ℕ) → j < at + height * row → (t : Bool) → ltb j at ≡ t → get_or (paint new row height row at f) j 0 ≡ get_or new j 0
      go j k true e = let l : j < at = ltb-true j at e in paint_out new row height row at f j (λ c r x y z. omega arith) ∙ v.before j l
      go j k false e = inside j (ltb-false j at e) k

  -- a plane that is equal
  half_equal : (at : ℕ) (f : List ℕ) → take (height * row) (drop at old) ≡ take (height * row) (drop at new) → Half f old new at → Half f old new (at + height * row)
  half_equal at f e v = record { long = v.long; before = λ j k. go j k (ltb j at) refl; after = λ j k. v.after j (omega arith) }
    where
      part : (l : List ℕ) (j : ℕ) → at ≤ j → j < at + height * row → get_or (take (height * row) (drop at l)) (j - at) 0 ≡ get_or l j 0
      part l j a b = let z : at + (j - at) ≡ j = omega arith in get_or-take (height * row) (drop at l) (j - at) 0 (omega arith) ∙ get_or-drop at l (j - at) 0 ∙ rw z

      go : (j : ℕ) → j < at + height * row → (t : Bool) → ltb j at ≡ t → get_or f j 0 ≡ get_or new j 0
      go j k true b = v.before j (ltb-true j at b)
      go j k false b =
          let a : at ≤ j = ltb-false j at b in
          v.after j a ∙ sym (part old j a k) ∙ ap (λ (l : List ℕ). get_or l (j - at) 0) e ∙ part new j a k

equal_eq : (s t : List ℕ) → planes_equal s t ≡ true → s ≡ t
unfolding planes_equal
equal_eq [] [] e = refl
equal_eq [] (b ∷ t) e = never (cc)
equal_eq (a ∷ s) [] e = never (cc)
equal_eq (a ∷ s) (b ∷ t) e = go (eqb a b) refl e (equal_eq s t)
  where
    go : (u : Bool) → eqb a b ≡ u → (elim u as (λ _. Bool) [ true ↦ planes_equal s t | false ↦ false ]) ≡ true → (planes_equal s t ≡ true → s ≡ t) → a ∷ s ≡ b ∷ t
    go true q e ih = rw (eqb-true a b q, ih e)
    go false q e ih = never (cc)

pointer_le : (place : ℕ) (l : List ℕ) → plane_pointer place l ≤ place
unfolding plane_pointer
pointer_le place [] = omega arith
pointer_le place (b ∷ l) = omega arith

-- one plane, by its pointer
plane_some : (row height planes : ℕ) (d : List ℕ) (p a : ℕ) (c to : Reading) → be32 d (4 * p) ≡ a → 64 ≤ a → a ≤ length d
    → (at : ℕ) → at ≡ p * (height * row) → read_columns (bytewise row height planes) d row at (record { op_at = a; item_at = 0; line = 0; ops = c.ops }) ≡ ok to
    → read_plane (bytewise row height planes) d p c ≡ ok to
unfolding list_pointer
plane_some row height planes d p a c to e h k at ea r =
    plane_columns (bytewise row height planes) d p c (λ z. omega arith) {a = a} {b = 0} (rw e (simp (le-leb 64 a h, le-leb a (length d) k))) refl refl ∙ rw (div-one row, ← ea) r

module _ (row height planes : ℕ) (s1 : 1 ≤ row) (d first old new : List ℕ) where
  -- the pointers and the lists of k planes, from plane p on
  Layout : ℕ → ℕ → ℕ → ℕ → Type 0
  Layout zero p at place = Unit {0}
  Layout (suc k) p at place =
      (be32 d (4 * p) ≡ plane_pointer place (plane_bytes old new row height at)) × (64 ≤ place) × (place ≤ length d)
      × (s : List ℕ) × (drop place d ≡ plane_bytes old new row height at ++ s)
      × Layout k (p + 1) (at + height * row) (place + length (plane_bytes old new row height at))

  -- a reading whose ops so far make the new frame before a place and the old one from there on
  record Made (c : Reading) (at : ℕ) : Type 0 where
    frame : List ℕ
    makes : Makes row height planes d first c.ops frame
    half : Half frame old new at

  -- a plane that was read
  record Done (p at : ℕ) (c : Reading) : Type 0 where
    to : Reading
    reads : read_plane (bytewise row height planes) d p c ≡ ok to
    made : Made to (at + height * row)

  some_bytes : (k at : ℕ) → 1 ≤ k → (place : ℕ) → plane_pointer place (columns_bytes old new row height k at) ≡ place
  unfolding columns_bytes column_in column_bytes plane_pointer
  some_bytes zero at h place = absurd (omega arith)
  some_bytes (suc k) at h place = refl

  plane_is : (p at place : ℕ) (c : Reading) (s : List ℕ) → at ≡ p * (height * row) → at + height * row ≤ length new → Made c at
      → be32 d (4 * p) ≡ plane_pointer place (plane_bytes old new row height at) → 64 ≤ place → place ≤ length d → drop place d ≡ plane_bytes old new row height at ++ s
      → Done p at c
  plane_is p at place c s ea hn m eb h1 h2 e = go (planes_equal (take (height * row) (drop at old)) (take (height * row) (drop at new))) refl
    where
      same_plane : plane_bytes old new row height at ≡ [] → take (height * row) (drop at old) ≡ take (height * row) (drop at new) → Done p at c
      same_plane q u = record {
        to = c;
        reads = plane_same (bytewise row height planes) d p c (eb ∙ rw q (unfold plane_pointer in refl));
        made = record { frame = m.frame; makes = m.makes; half = half_equal row height s1 old new at m.frame u m.half };
      }

      new_plane : plane_bytes old new row height at ≡ columns_bytes old new row height row at → Done p at c
      new_plane q =
          let start : Reading = record { op_at = place; item_at = 0; line = 0; ops = c.ops } in
          let g = columns_are row height planes s1 d first old new row at place start m.frame s (omega arith) (record { op = refl; makes = m.makes })
          (λ i k. column_ext m.frame old row (at + i) height (λ r y. m.half.after (at + i + r * row) (omega arith))) (rw q at e) in
          record {
            to = g.to;
            reads = plane_some row height planes d p place c g.to (eb ∙ rw q (some_bytes row at s1 place)) h1 h2 at ea g.reads;
            made = record { frame = paint new row height row at m.frame; makes = g.stands.makes; half = half_paint row height s1 old new at m.frame hn m.half };
          }

      go : (t : Bool) → planes_equal (take (height * row) (drop at old)) (take (height * row) (drop at new)) ≡ t → Done p at c
      go true q = same_plane (plane_unchanged old new row height at refl q) (equal_eq _ _ q)
      go false q = new_plane (plane_changed old new row height at refl q)

  -- all planes
  record Whole (k p : ℕ) (c : Reading) : Type 0 where
    to : Reading
    reads : read_planes (bytewise row height planes) d k p c ≡ ok to
    makes : Makes row height planes d first to.ops new

  planes_are : (k p at place : ℕ) (c : Reading) → at ≡ p * (height * row) → at + k * (height * row) ≡ length new → Made c at → Layout k p at place → Whole k p c
  unfolding read_planes Layout
  planes_are zero p at place c ea el m y =
      let e : m.frame ≡ new = ext_get_or 0 m.frame new m.half.long (λ i h. m.half.before i (omega (arith, m.half.long))) in
      record { to = c; reads = refl; makes = rw e at m.makes }
  planes_are (suc k) p at place c ea el m y =
      let g = plane_is p at place c y.3 ea (omega arith) m y.0 y.1 y.2 y.4 in
      let w = planes_are k (p + 1) (at + height * row) (place + length (plane_bytes old new row height at)) g.to (omega arith) (omega arith) g.made y.5 in
      record { to = w.to; reads = rw g.reads w.reads; makes = w.makes }

  -- what is written is so laid out
  layout_is : (k p at place : ℕ) (xs ys zs : List ℕ) → length d < 4294967296 → 64 ≤ place
      → d ≡ xs ++ (pointers_bytes old new row height k at place ++ ys) → length xs ≡ 4 * p
      → d ≡ zs ++ lists_bytes old new row height k at → length zs ≡ place
      → Layout k p at place
  unfolding Layout pointers_bytes lists_bytes
  layout_is zero p at place xs ys zs hd h e1 l1 e2 l2 = tt
  layout_is (suc k) p at place xs ys zs hd h e1 l1 e2 l2 =
      let L : List ℕ = plane_bytes old new row height at in
      let n : ℕ = plane_pointer place L in
      let P : List ℕ = pointers_bytes old new row height k (at + height * row) (place + length L) in
      let R : List ℕ = lists_bytes old new row height k (at + height * row) in
      let e1' : d ≡ xs ++ (be32_bytes n ++ (P ++ ys)) = e1 ∙ ap (λ (l : List ℕ). xs ++ l) (append_assoc (be32_bytes n) P ys) in
      let ld : length d ≡ length zs + length (L ++ R) = ap length e2 ∙ length-append zs (L ++ R) in (
        ap (λ (x : List ℕ). be32 x (4 * p)) e1' ∙ be32_at xs (P ++ ys) n (4 * p) l1 (omega (arith, pointer_le place L)),
        h,
        omega arith,
        R,
        ap (λ (x : List ℕ). drop place x) e2 ∙ drop_at zs (L ++ R) place l2,
        layout_is k (p + 1) (at + height * row) (place + length L) (xs ++ be32_bytes n) ys (zs ++ L) hd (omega arith)
            (e1' ∙ sym (append_assoc xs (be32_bytes n) (P ++ ys))) (omega (arith, length-append xs (be32_bytes n), length_be32 n))
            (e2 ∙ sym (append_assoc zs L R)) (omega (arith, length-append zs L)),
      )

-- a delta that is written can be read; its ops make the new picture of the old one, with no Uniq or Same of none among them
pub record Reads (z : Sizes) (old new : List ℕ) : Type 0 where
  pub ops : List Op
  pub reads : read_delta (shape_of z Bytes) (delta_bytes old new z) ≡ ok ops
  pub makes : Makes (row_bytes z.width) z.height z.planes (delta_bytes old new z) old ops new

pub delta_reads : (z : Sizes) (n : ℕ) (old new : List ℕ) → Sound z n → length old ≡ n → length new ≡ n → Reads z old new
unfolding read_delta read_picture delta_bytes frame_bytes
delta_reads z n old new b lo ln =
    let row : ℕ = row_bytes z.width in
    let P : List ℕ = pointers_bytes old new row z.height z.planes 0 64 in
    let Z : List ℕ = replicate (64 - 4 * z.planes) 0 in
    let R : List ℕ = lists_bytes old new row z.height z.planes 0 in
    let s1 : 1 ≤ row = omega (arith, b.row_least) in
    let lp : length P ≡ 4 * z.planes = pointers_length old new row z.height z.planes 0 64 in
    let lz : length (P ++ Z) ≡ 64 = length-append P Z ∙ omega (arith, length-replicate {A = ℕ} (64 - 4 * z.planes) 0, b.planes_most) in
    let hd : length (P ++ Z ++ R) < 4294967296 =
    omega (arith, length-append (P ++ Z) R, lists_few old new row z.height z.planes b.row_most b.height_most b.planes_most) in
    let h64 : 64 ≤ length (P ++ Z ++ R) = omega (arith, length-append (P ++ Z) R) in
    let start : Reading = record { op_at = 0; item_at = 0; line = 0; ops = [] } in
    let made : Made row z.height z.planes s1 (P ++ Z ++ R) old old new start 0 =
    record {
      frame = old;
      makes = record { drawn = unfold draw in refl; rows = every_none };
      half = record { long = lo ∙ sym ln; before = λ j h. absurd (omega arith); after = λ j h. refl };
    } in
    let w = planes_are row z.height z.planes s1 (P ++ Z ++ R) old old new z.planes 0 0 64 start (omega arith) (omega (arith, b.length)) made
    (layout_is row z.height z.planes s1 (P ++ Z ++ R) old old new z.planes 0 0 64 [] (Z ++ R) (P ++ Z) hd (omega arith) (append_assoc P Z R) (omega arith) refl lz) in
    record { ops = w.to.ops; reads = rw (le-leb 64 (length (P ++ Z ++ R)) h64) (rw w.reads); makes = w.makes }
