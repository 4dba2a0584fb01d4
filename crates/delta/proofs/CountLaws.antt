-- How many ops a delta has (document 02, E8): at most 255 for each column of each plane that is read, and none that count by methods 2 and 3.
use Prim.Native.Nat.{ℕ, zero, suc, ◌+◌, ◌*◌, ◌%◌, ◌≤◌}
use native.Mathlib.Nat.{mul-add}
use native.Mathlib.Omega.{arith}
use mathlib.Core.Bool.{false, ◌||◌}
use mathlib.Core.List.{List, [], ◌∷◌, ◌++◌}
use mathlib.Core.Path.{◌≡◌, refl}
use lib.Dec.{leb, ltb, eqb}
use lib.ListN.{length}
use Rattle.laws.specs.Bytes.{Bytes, be32}
use Rattle.laws.specs.Result.{pick}
use Rattle.laws.proofs.ResultLaws.{Each, Each.each, each_self, each_bind, each_need, each_any, each_map, each_pick, pick_case, pick_both}
use Rattle.state.specs.declared.Sizes.{Sizes}
use Rattle.state.specs.State.{row_bytes, frame_length}
use Rattle.anhd.specs.declared.Items.{Items}
use Rattle.anhd.specs.Anhd.{items_of, columns_ok}
use Rattle.delta.specs.declared.Shape.{Shape}
use Rattle.delta.specs.Reading.{shape_of, columns_in, Op, ops_in, Reading, byte_at}
use Rattle.delta.specs.Column.{no_rows, skip_rows, fill, OpKind, OpKind.same, OpKind.skips, OpKind.uniq, op_kind_of, op_as, read_op, read_ops, read_column, read_columns}
use Rattle.delta.specs.Words.{read_words}
use Rattle.delta.specs.Delta.{list_pointer, data_pointer, plane_list, read_plane, read_planes, read_picture, read_delta, read_frame, op_count}
use Rattle.delta.specs.Count.{planes_read, ops_most}
use Rattle.delta.proofs.WalkLaws.{in_none, in_more}
use Rattle.delta.proofs.FillLaws.{pick_most}
use Rattle.delta.proofs.NoneLaws.{fill_reads}

-- from c to next at most n ops are read
abbrev AtMost : Shape → ℕ → Reading → Reading → Type 0
AtMost S n c next = ops_in S next.ops ≤ ops_in S c.ops + n

module _ (S : Shape) (d : List ℕ) where
  one_more : (ops : List Op) (o : Op) → ops_in S (ops ++ (o ∷ [])) ≤ ops_in S ops + 1
  one_more ops o = omega (arith, in_more S.words ops (o ∷ []), pick_most S.words 0 1 1 (omega arith) (omega arith))

  fill_adds : (base : ℕ) (c : Reading) (p n size step : ℕ) → Each (AtMost S 1 c) (fill S d base c p n size step)
  fill_adds base c p n size step = each_map (λ next w. rw w.counted (one_more c.ops w.op)) (fill_reads S d base c p n size step)

  kind_adds : (base : ℕ) (c : Reading) (k : OpKind) → Each (AtMost S 1 c) (op_as S d base c k)
  unfolding skip_rows
  kind_adds base c same = each_any (byte_at d (c.op_at + 1)) λ n. fill_adds base c (c.op_at + 2) n S.item 0
  kind_adds base c (skips n) = each_need (leb (c.line + n) S.height) 43 _ λ _. each (one_more c.ops no_rows)
  kind_adds base c (uniq n) = fill_adds base c (c.op_at + 1) n (n * S.item) S.item

  op_adds : (base : ℕ) (c : Reading) → Each (AtMost S 1 c) (read_op S d base c)
  unfolding read_op
  op_adds base c = each_any (byte_at d c.op_at) λ b. kind_adds base c (op_kind_of b)

  ops_add : (base k : ℕ) (c : Reading) → Each (AtMost S k c) (read_ops S d base k c)
  unfolding read_ops
  ops_add base zero c = each {a = c} (omega arith)
  ops_add base (suc k) c = each_bind (op_adds base c) λ x h. each_map (λ next l. omega arith) (ops_add base k x)

  module _ (bytes : Bytes d) where
    byte_most : (p : ℕ) → Each (λ (b : ℕ). b ≤ 255) (byte_at d p)
    unfolding byte_at
    byte_most p = each_need (ltb p (length d)) 42 _ λ _. each (omega (arith, bytes p))

    column_adds : (base : ℕ) (c : Reading) → Each (AtMost S 255 c) (read_column S d base c)
    unfolding read_column
    column_adds base c = each_bind (byte_most c.op_at) λ n h. each_map (λ next l. omega arith) (ops_add base n (record { op_at = c.op_at + 1; item_at = c.item_at; line = 0; ops = c.ops }))

    columns_add : (k base : ℕ) (c : Reading) → Each (AtMost S (255 * k) c) (read_columns S d k base c)
    unfolding read_columns
    columns_add zero base c = each {a = c} (omega arith)
    columns_add (suc k) base c = each_bind (column_adds base c) λ x h. each_map (λ next l. omega arith) (columns_add k (base + S.item) x)

    list_adds : (base : ℕ) (c : Reading) → Each (AtMost S (255 * columns_in S) c) (plane_list S d base c)
    list_adds base c = each_pick S.words (λ w. each_map (λ next _. rw w (omega arith)) (each_self (read_words S d base c))) (λ _. columns_add (columns_in S) base c)

    plane_adds : (p : ℕ) (c : Reading) → Each (AtMost S (255 * columns_in S * pick (eqb (be32 d (4 * p)) 0) 0 1) c) (read_plane S d p c)
    unfolding read_plane
    plane_adds p c =
        each_pick (eqb (be32 d (4 * p)) 0) (λ _. each {a = c} (omega arith))
        (λ e. each_any (list_pointer d S.pointers p) λ a. each_any (data_pointer S d p) λ b.
        each_map (λ next (l : AtMost S (255 * columns_in S) c next). rw e (omega arith)) (list_adds (p * S.plane) (record { op_at = a; item_at = b; line = 0; ops = c.ops })))

    planes_add : (k p : ℕ) (c : Reading) → Each (AtMost S (255 * columns_in S * planes_read d k p) c) (read_planes S d k p c)
    unfolding read_planes planes_read
    planes_add zero p c = each {a = c} (omega arith)
    planes_add (suc k) p c =
        each_bind (plane_adds p c) λ x h.
        each_map (λ next l. omega (arith, mul-add (255 * columns_in S) (pick (eqb (be32 d (4 * p)) 0) 0 1) (planes_read d k (p + 1)))) (planes_add k (p + 1) x)

-- at most 255 ops for each column of each plane that is read
pub ops_most_lem : (S : Shape) (d : List ℕ) → Bytes d → Each (λ (ops : List Op). ops_in S ops ≤ ops_most S d) (read_delta S d)
unfolding read_delta read_picture
ops_most_lem S d bytes =
    each_bind (each_need (leb S.pointers (length d)) 41 _ λ _. planes_add S d bytes S.planes 0 (record { op_at = 0; item_at = 0; line = 0; ops = [] })) λ c l.
    each {a = c.ops} (omega (arith, in_none S.words))

-- what `delta::apply` answers is no more
pub count_most : (z : Sizes) (i : Items) (d f : List ℕ) (n : ℕ) → Bytes d → Each (λ (c : ℕ). c ≤ ops_most (shape_of z i) d) (op_count n f d z i)
unfolding op_count read_frame
count_most z i d f n bytes =
    each_bind
    (each_any (frame_length z) λ l. each_need (eqb (length f) l) 12 _ λ _. each_need (eqb n l) 12 _ λ _. each_need (columns_ok i (row_bytes z.width)) 36 _ λ _. ops_most_lem (shape_of z i) d bytes)
    λ ops h. each h

-- lists of words, whose ops aren't counted, are those of methods 2 and 3
pub words_method : (z : Sizes) (method bits : ℕ) → (shape_of z (items_of method bits)).words ≡ (eqb method 2 || eqb method 3)
words_method z method bits =
    pick_case told (eqb method 2) (λ e. rw e) λ e. pick_case told (eqb method 3) (λ f. rw (e, f)) λ f.
    rw (e, f) (pick_both columns (eqb method 5) refl (pick_both columns (eqb (bits % 2) 1) refl refl))
  where
    told : Items → Type 0
    told i = (shape_of z i).words ≡ (eqb method 2 || eqb method 3)

    columns : Items → Type 0
    columns i = (shape_of z i).words ≡ false
