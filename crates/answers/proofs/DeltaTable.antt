-- Every refusal of a delta has a number of the table, and isn't 51.
use Prim.Native.Nat.{ℕ, zero, suc, ◌+◌, ◌-◌, ◌*◌}
use mathlib.Core.List.{List}
use mathlib.Core.Path.{refl}
use lib.Dec.{leb, ltb, eqb}
use lib.ListN.{length}
use Rattle.laws.specs.Bytes.{be32}
use Rattle.laws.specs.Result.{Res, Res.ok, Res.fault, pick}
use Rattle.laws.proofs.ResultLaws.{pick_both}
use Rattle.laws.proofs.LoopLaws.{Comes, Comes.comes_next, Comes.comes_done, comes_pick, iterate_holds}
use Rattle.delta.specs.Reading.{columns_in, Reading, byte_at, pair_at}
use Rattle.delta.specs.Column.{skip_rows, fill, OpKind, OpKind.same, OpKind.skips, OpKind.uniq, op_kind_of, op_as, read_op, read_ops, read_column, read_columns}
use Rattle.delta.specs.Words.{word_run, move_of, word_op, past_op, offset_on, word_step, read_words}
use Rattle.delta.specs.Delta.{list_pointer, read_plane, read_planes, read_picture, read_delta}
use Rattle.delta.specs.declared.Shape.{Shape}
use Rattle.answers.proofs.InTable.{InTable, Numbered.table_value, Numbered.table_refusal, table_bind, table_need}

module _ (S : Shape) (d : List ℕ) where
  byte_table : (p : ℕ) → InTable (byte_at d p)
  unfolding byte_at
  byte_table p = table_need (ltb p (length d)) 42 _ refl table_value

  fill_table : (base : ℕ) (c : Reading) (p n size step : ℕ) → InTable (fill S d base c p n size step)
  unfolding fill
  fill_table base c p n size step =
      table_need (leb (c.line + n) S.height) 43 _ refl
      (table_need (leb (pick S.inline p c.item_at + size) (length d)) 42 _ refl table_value)

  op_table : (base : ℕ) (c : Reading) → InTable (read_op S d base c)
  unfolding read_op skip_rows
  op_table base c = table_bind (byte_table c.op_at) λ b. go (op_kind_of b)
    where
      go : (k : OpKind) → InTable (op_as S d base c k)
      go same = table_bind (byte_table (c.op_at + 1)) λ n. fill_table base c (c.op_at + 2) n S.item 0
      go (skips n) = table_need (leb (c.line + n) S.height) 43 _ refl table_value
      go (uniq n) = fill_table base c (c.op_at + 1) n (n * S.item) S.item

  ops_table : (base k : ℕ) (c : Reading) → InTable (read_ops S d base k c)
  unfolding read_ops
  ops_table base zero c = table_value
  ops_table base (suc k) c = table_bind (op_table base c) λ e. ops_table base k e

  columns_table : (k base : ℕ) (c : Reading) → InTable (read_columns S d k base c)
  unfolding read_columns read_column
  columns_table zero base c = table_value
  columns_table (suc k) base c = table_bind (table_bind (byte_table c.op_at) λ n. ops_table base n _) λ e. columns_table k (base + S.item) e

  pair_table : (p : ℕ) → InTable (pair_at d p)
  unfolding pair_at
  pair_table p = table_need (leb (p + 2) (length d)) 42 _ refl table_value

  run_table : (base : ℕ) (c : Reading) (k p n : ℕ) → InTable (word_run S d base c k p n)
  unfolding word_run
  run_table base c k p n = table_need (leb (k + n) S.height) 45 _ refl (table_need (leb (p + n * S.item) (length d)) 42 _ refl table_value)

  word_table : (base : ℕ) (c : Reading) (x : ℕ) → InTable (word_op S d base c x)
  unfolding word_op
  word_table base c x =
      table_need (ltb (c.line + move_of x) S.height) 45 _ refl
      (pick_both InTable (ltb x 32768) (run_table base c (c.line + move_of x) (c.op_at + 2) 1) (table_bind (pair_table (c.op_at + 2)) λ n. run_table base c (c.line + move_of x) (c.op_at + 4) n))

  words_table : (base : ℕ) (c : Reading) → InTable (read_words S d base c)
  unfolding read_words
  words_table base c = iterate_holds (word_step S d base) (λ x. length d - x.op_at) (fault 42) (λ _. Unit {0}) InTable (table_refusal {n = 42} refl) (λ x _. step x (pair_at d x.op_at) (pair_table x.op_at)) c tt
    where
      past : (r : Res Reading) → InTable r → Comes (λ (_ : Reading). Unit {0}) InTable (past_op r)
      past (ok x) h = comes_next tt
      past (fault n) (table_refusal h) = comes_done (table_refusal h)

      step : (x : Reading) (r : Res ℕ) → InTable r → Comes (λ (_ : Reading). Unit {0}) InTable (offset_on S d base x r)
      step x (ok o) h = comes_pick (eqb o 65535) (λ _. comes_done table_value) (λ _. past (word_op S d base x o) (word_table base x o))
      step x (fault n) (table_refusal h) = comes_done (table_refusal h)

  pointer_table : (p : ℕ) → InTable (list_pointer d S.pointers p)
  unfolding list_pointer
  pointer_table p = table_need (leb S.pointers (be32 d (4 * p))) 41 _ refl (table_need (leb (be32 d (4 * p)) (length d)) 41 _ refl table_value)

  planes_table : (k p : ℕ) (c : Reading) → InTable (read_planes S d k p c)
  unfolding read_planes read_plane
  planes_table zero p c = table_value
  planes_table (suc k) p c =
      table_bind
      (pick_both InTable (eqb (be32 d (4 * p)) 0) table_value
      (table_bind (pointer_table p) λ a. table_bind (pick_both InTable S.inline table_value (pointer_table (p + 8))) λ b.
      pick_both InTable S.words (words_table (p * S.plane) _) (columns_table (columns_in S) (p * S.plane) _)))
      λ e. planes_table k (p + 1) e

  pub delta_table : InTable (read_delta S d)
  unfolding read_delta read_picture
  delta_table = table_bind (table_need (leb S.pointers (length d)) 41 _ refl (planes_table S.planes 0 _)) λ c. table_value
