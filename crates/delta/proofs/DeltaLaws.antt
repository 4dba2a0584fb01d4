-- Laws of deltas: what one store, one item and one op more make of a frame, and that a delta keeps the frame's length.
use Prim.Native.Nat.{ℕ, zero, suc, ◌+◌, ◌-◌, ◌*◌, ◌<◌, ◌≤◌}
use native.Mathlib.Omega.{arith}
use mathlib.Core.Bool.{true, false}
use mathlib.Core.Path.{◌≡◌, refl, sym, ap, ◌∙◌}
use mathlib.Core.List.{List, [], ◌∷◌, ◌++◌}
use lib.Dec.{leb}
use lib.ListN.{length, get_or, take, drop}
use lib.Seq.{drop-drop, take-add, sets, length-sets}
use Rattle.laws.specs.Result.{Res.ok, ◌>>=◌, answer}
use Rattle.laws.proofs.ResultLaws.{Each, Each.each, each_need, each_pick, each_any, answer_ok}
use Rattle.laws.specs.Bytes.{be32}
use Rattle.laws.proofs.StoreLaws.{sets_append, length_part}
use borrow.Author.Tests.{lt-ltb, le-leb, lt-leb, ne_eqb, leb-true}
use Rattle.state.specs.declared.Sizes.{Sizes}
use Rattle.anhd.specs.declared.Items.{Items}
use Rattle.delta.specs.declared.Shape.{Shape}
use Rattle.delta.specs.Reading.{shape_of, columns_in, Op, ops_in, Reading, byte_at}
use Rattle.delta.specs.Column.{fill, OpKind, OpKind.same, OpKind.skips, OpKind.uniq, op_kind_of, op_as, read_op, read_ops, read_column, read_columns}
use Rattle.delta.specs.Words.{read_words}
use Rattle.delta.specs.Delta.{list_pointer, data_pointer, plane_list, read_plane, read_planes, read_picture, put, draw, read_frame, new_frame, op_count}

-- an item of two pairs
pub item_four : (f : List ℕ) (at : ℕ) (d : List ℕ) (from w : ℕ) → w ≡ 4 → from + w ≤ length d → sets (sets f at (take 2 (drop from d))) (at + 2) (take 2 (drop (from + 2) d)) ≡ sets f at (take w (drop from d))
item_four f at d from w e h =
    let l : length (take 2 (drop from d)) ≡ 2 = length_part d from 2 (omega arith) in
    rw (e, take-add 2 2 (drop from d), drop-drop 2 from d) (rw l at (sets_append f at (take 2 (drop from d)) (take 2 (drop (from + 2) d))))

-- rows that are being given items, the next one at a place: what is left makes of the frame f what all of it makes of f₀
pub record Putting (w stride step : ℕ) (d : List ℕ) (count from place : ℕ) (f₀ f : List ℕ) (at item left : ℕ) : Type 0 where
  pub there : at ≡ place + (count - left) * stride
  pub stands : item ≡ from + (count - left) * step
  pub same : put w stride step d left item at f ≡ put w stride step d count from place f₀

module _ {w stride step : ℕ} {d : List ℕ} {count from place : ℕ} {f₀ : List ℕ} where
  pub putting_starts : Putting w stride step d count from place f₀ f₀ place from count
  putting_starts = let z : count - count ≡ 0 = omega arith in record { there = rw z (omega arith); stands = rw z (omega arith); same = refl }

  pub putting_more : {f : List ℕ} {at item left : ℕ} → Putting w stride step d count from place f₀ f at item left → 0 < left → left ≤ count → {g : List ℕ} → g ≡ sets f at (take w (drop item d))
      → Putting w stride step d count from place f₀ g (at + stride) (item + step) (left - 1)
  unfolding put
  putting_more {f} {at} {item} {left} v h k {g} e =
      let a : left ≡ suc (left - 1) = omega arith in
      let b : count - (left - 1) ≡ count - left + 1 = omega arith in
      record { there = rw b (omega (arith, v.there)); stands = rw b (omega (arith, v.stands)); same = rw e (rw a at v.same) }

  pub putting_ends : {f : List ℕ} {at item left : ℕ} → Putting w stride step d count from place f₀ f at item left → left ≤ 0 → f ≡ put w stride step d count from place f₀
  unfolding put
  putting_ends {f} {at} {item} {left} v h = let a : left ≡ 0 = omega arith in rw a at v.same

-- items that lie one after the other in the delta and in the frame
pub put_beside : (w : ℕ) (d : List ℕ) (n from at : ℕ) (f : List ℕ) → from + n * w ≤ length d → put w w w d n from at f ≡ sets f at (take (n * w) (drop from d))
unfolding put
put_beside w d zero from at f h = let z : zero * w ≡ 0 = omega arith in rw z refl
put_beside w d (suc n) from at f h =
    let l : length (take w (drop from d)) ≡ w = length_part d from w (omega arith) in
    let z : suc n * w ≡ w + n * w = omega arith in
    put_beside w d n (from + w) (at + w) (sets f at (take w (drop from d))) (omega arith)
    ∙ rw (z, take-add w (n * w) (drop from d), drop-drop w from d) (rw l at (sets_append f at (take w (drop from d)) (take (n * w) (drop (from + w) d))))

-- ops drawn one after another
pub draw_append : (S : Shape) (d : List ℕ) (xs ys : List Op) (f : List ℕ) → draw S d (xs ++ ys) f ≡ draw S d ys (draw S d xs f)
unfolding draw
draw_append S d [] ys f = refl
draw_append S d (x ∷ xs) ys f = draw_append S d xs ys (put S.item S.row x.step d x.count x.from x.place f)

-- drawing keeps the length
put_length : (w stride step : ℕ) (d : List ℕ) (n from at : ℕ) (f : List ℕ) → length (put w stride step d n from at f) ≡ length f
unfolding put
put_length w stride step d zero from at f = refl
put_length w stride step d (suc n) from at f = put_length w stride step d n (from + step) (at + stride) (sets f at (take w (drop from d))) ∙ length-sets f at (take w (drop from d))

pub draw_length : (S : Shape) (d : List ℕ) (ops : List Op) (f : List ℕ) → length (draw S d ops f) ≡ length f
unfolding draw
draw_length S d [] f = refl
draw_length S d (o ∷ ops) f =
    draw_length S d ops (put S.item S.row o.step d o.count o.from o.place f) ∙ put_length S.item S.row o.step d o.count o.from o.place f

-- a delta keeps the length of the picture
pub frame_length_lem : (z : Sizes) (i : Items) (d f : List ℕ) (n : ℕ) → Each (λ (g : List ℕ). length g ≡ length f) (new_frame n f d z i)
unfolding new_frame
frame_length_lem z i d f n = each_any (read_frame n (length f) d z i) λ ops. each (draw_length (shape_of z i) d ops f)

-- there is a frame exactly where there are ops, and they are refused alike
pub same_answer : (z : Sizes) (i : Items) (d f : List ℕ) (n : ℕ) → answer (op_count n f d z i) ≡ answer (new_frame n f d z i)
unfolding op_count new_frame
same_answer z i d f n = let r = read_frame n (length f) d z i in answer_ok r (ops_in (shape_of z i)) ∙ sym (answer_ok r (λ ops. draw (shape_of z i) d ops f))

-- what an op does, by the range of its first byte
pub kind_skip : (b : ℕ) → 0 < b → b ≤ 127 → op_kind_of b ≡ skips b
kind_skip b l k = simp (ne_eqb b 0 (omega arith), le-leb _ _ k)

pub kind_uniq : (b : ℕ) → 127 < b → op_kind_of b ≡ uniq (b - 128)
kind_uniq b k = simp (ne_eqb b 0 (omega arith), lt-leb _ _ k)

-- the op at a place, by its first byte
module _ (S : Shape) (d : List ℕ) (base : ℕ) (c : Reading) where
  pub op_kind : c.op_at < length d → {k : OpKind} → op_kind_of (get_or d c.op_at 0) ≡ k → read_op S d base c ≡ op_as S d base c k
  unfolding read_op byte_at
  op_kind h e = simp (lt-ltb _ _ h) (rw e)

  -- a Same, by its count byte
  pub same_fill : c.op_at + 1 < length d → op_as S d base c same ≡ fill S d base c (c.op_at + 2) (get_or d (c.op_at + 1) 0) S.item 0
  unfolding byte_at
  same_fill k = simp (lt-ltb _ _ k)

  -- a column, by its count byte
  pub column_ops_lem : c.op_at < length d → read_column S d base c ≡ read_ops S d base (get_or d c.op_at 0) (record { op_at = c.op_at + 1; item_at = c.item_at; line = 0; ops = c.ops })
  unfolding read_column byte_at
  column_ops_lem h = simp (lt-ltb _ _ h)

-- a plane, by its pointers
module _ (S : Shape) (d : List ℕ) (p : ℕ) (c : Reading) where
  pub plane_same : be32 d (4 * p) ≡ 0 → read_plane S d p c ≡ ok c
  unfolding read_plane
  plane_same e = simp e

  module _ (h : be32 d (4 * p) ≡ 0 → ⊥) where
    plane_list_lem : {a b : ℕ} → list_pointer d S.pointers p ≡ ok a → data_pointer S d p ≡ ok b → read_plane S d p c ≡ plane_list S d (p * S.plane) (record { op_at = a; item_at = b; line = 0; ops = c.ops })
    unfolding read_plane
    plane_list_lem e k = rw (ne_eqb (be32 d (4 * p)) 0 h, e, k) refl

    pub plane_columns : {a b : ℕ} → list_pointer d S.pointers p ≡ ok a → data_pointer S d p ≡ ok b → S.words ≡ false
        → read_plane S d p c ≡ read_columns S d (columns_in S) (p * S.plane) (record { op_at = a; item_at = b; line = 0; ops = c.ops })
    plane_columns e k w = plane_list_lem e k ∙ rw w

    pub plane_words : {a b : ℕ} → list_pointer d S.pointers p ≡ ok a → data_pointer S d p ≡ ok b → S.words ≡ true
        → read_plane S d p c ≡ read_words S d (p * S.plane) (record { op_at = a; item_at = b; line = 0; ops = c.ops })
    plane_words e k w = plane_list_lem e k ∙ rw w

-- a pointer leads into the delta
pub pointer_most : (d : List ℕ) (pointers i : ℕ) → Each (λ (a : ℕ). a ≤ length d) (list_pointer d pointers i)
unfolding list_pointer
pointer_most d pointers i = each_need (leb pointers (be32 d (4 * i))) 41 _ λ _. each_need (leb (be32 d (4 * i)) (length d)) 41 _ λ h. each (leb-true (be32 d (4 * i)) (length d) h)

pub data_pointer_most : (d : List ℕ) (S : Shape) (p : ℕ) → Each (λ (a : ℕ). a ≤ length d) (data_pointer S d p)
data_pointer_most d S p = each_pick S.inline (λ _. each {a = 0} (omega arith)) (λ _. pointer_most d S.pointers (p + 8))

-- all columns; one op, column or plane more, and none
pub columns_all : (S : Shape) (d : List ℕ) (n base : ℕ) (c : Reading) → read_columns S d n base c ≡ read_columns S d (n - 0) (base + 0 * S.item) c
columns_all S d n base c = let e : n - 0 ≡ n = omega arith in let b : base + 0 * S.item ≡ base = omega arith in rw (e, b) refl

pub ops_more : (S : Shape) (d : List ℕ) (base k : ℕ) → 0 < k → (c : Reading) → read_ops S d base k c ≡ read_op S d base c >>= read_ops S d base (k - 1)
unfolding read_ops
ops_more S d base k h c = let e : k ≡ suc (k - 1) = omega arith in ap (λ (n : ℕ). read_ops S d base n c) e

pub ops_none : (S : Shape) (d : List ℕ) (base k : ℕ) → k ≤ 0 → (c : Reading) → read_ops S d base k c ≡ ok c
unfolding read_ops
ops_none S d base k h c = let e : k ≡ 0 = omega arith in ap (λ (n : ℕ). read_ops S d base n c) e

pub columns_more : (S : Shape) (d : List ℕ) (n k base : ℕ) → k < n → (c : Reading)
    → read_columns S d (n - k) (base + k * S.item) c ≡ read_column S d (base + k * S.item) c >>= read_columns S d (n - (k + 1)) (base + (k + 1) * S.item)
unfolding read_columns
columns_more S d n k base h c =
    let e : n - k ≡ suc (n - (k + 1)) = omega arith in
    let b : base + (k + 1) * S.item ≡ base + k * S.item + S.item = omega arith in
    rw b (ap (λ (m : ℕ). read_columns S d m (base + k * S.item) c) e)

pub columns_none : (S : Shape) (d : List ℕ) (n k base : ℕ) → n ≤ k → (c : Reading) → read_columns S d (n - k) base c ≡ ok c
unfolding read_columns
columns_none S d n k base h c = let e : n - k ≡ 0 = omega arith in ap (λ (m : ℕ). read_columns S d m base c) e

pub planes_more : (S : Shape) (d : List ℕ) (m p : ℕ) → p < m → (c : Reading) → read_planes S d (m - p) p c ≡ read_plane S d p c >>= read_planes S d (m - (p + 1)) (p + 1)
unfolding read_planes
planes_more S d m p h c = let e : m - p ≡ suc (m - (p + 1)) = omega arith in ap (λ (n : ℕ). read_planes S d n p c) e

pub planes_none : (S : Shape) (d : List ℕ) (m p : ℕ) → m ≤ p → (c : Reading) → read_planes S d (m - p) p c ≡ ok c
unfolding read_planes
planes_none S d m p h c = let e : m - p ≡ 0 = omega arith in ap (λ (n : ℕ). read_planes S d n p c) e

-- the whole delta
pub picture_planes : (S : Shape) (d : List ℕ) (c : Reading) → S.pointers ≤ length d → read_picture S d c ≡ read_planes S d (S.planes - 0) 0 c
unfolding read_picture
picture_planes S d c h = let e : S.planes ≡ S.planes - 0 = omega arith in simp (le-leb _ _ h) (ap (λ (n : ℕ). read_planes S d n 0 c) e)
