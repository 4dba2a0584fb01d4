-- The columns of methods 5 and 7 (document 01, "Deltas"): what their op lists say, or the first fault in the paper's order. One definition
-- over the item's width and over where the items stand.
use Rattle.std.specs.Prelude.{ℕ, zero, suc, ◌+◌, ◌-◌, ◌*◌, List, [], ◌∷◌, ◌++◌, leb, eqb, length}
use Rattle.laws.specs.Result.{Res, Res.ok, ◌>>=◌, need, pick}
use Rattle.delta.specs.Reading.{Op, Reading, byte_at}
use Rattle.delta.specs.declared.Shape.{Shape}

-- a Skip gives no row an item, and has no place for items
abbrev pub no_rows : Op
no_rows = record { place = 0; count = 0; from = 0; step = 0 }

-- go down n rows
unfoldable pub skip_rows : Shape → Reading → ℕ → Res Reading
skip_rows S c n =
    need (leb (c.line + n) S.height) 43 >>= λ _.
    ok (record { op_at = c.op_at + 1; item_at = c.item_at; line = c.line + n; ops = c.ops ++ (no_rows ∷ []) })

-- an op with size bytes of items for n rows of the column that starts at base; for no rows they are passed over. p is the place after
-- the op's own bytes
unfoldable pub fill : Shape → List ℕ → ℕ → Reading → ℕ → ℕ → ℕ → ℕ → Res Reading
fill S d base c p n size step =
    need (leb (c.line + n) S.height) 43 >>= λ _.
    need (leb (pick S.inline p c.item_at + size) (length d)) 42 >>= λ _.
    ok (record {
      op_at = pick S.inline (p + size) p;
      item_at = pick S.inline c.item_at (c.item_at + size);
      line = c.line + n;
      ops = c.ops ++ (record { place = base + c.line * S.row; count = n; from = pick S.inline p c.item_at; step = step } ∷ []);
    })

-- what an op does, decided by ranges of its first byte
pub data OpKind : Type 0 where
  same : OpKind
  skips : ℕ → OpKind
  uniq : ℕ → OpKind

abbrev pub op_kind_of : ℕ → OpKind
op_kind_of b = pick (eqb b 0) same (pick (leb b 127) (skips b) (uniq (b - 128)))

-- the op of a kind, in the column that starts at base
abbrev pub op_as : Shape → List ℕ → ℕ → Reading → OpKind → Res Reading
op_as S d base c same = byte_at d (c.op_at + 1) >>= λ n. fill S d base c (c.op_at + 2) n S.item 0
op_as S d base c (skips n) = skip_rows S c n
op_as S d base c (uniq n) = fill S d base c (c.op_at + 1) n (n * S.item) S.item

-- the next op in the list, in the column that starts at base
unfoldable pub read_op : Shape → List ℕ → ℕ → Reading → Res Reading
read_op S d base c = byte_at d c.op_at >>= λ b. op_as S d base c (op_kind_of b)

-- the next k ops
unfoldable pub read_ops : Shape → List ℕ → ℕ → ℕ → Reading → Res Reading
read_ops S d base zero c = ok c
read_ops S d base (suc k) c = read_op S d base c >>= λ c'. read_ops S d base k c'

-- the column that starts at base: an op count byte and that many ops, from row 0 on
unfoldable pub read_column : Shape → List ℕ → ℕ → Reading → Res Reading
read_column S d base c =
    byte_at d c.op_at >>= λ n.
    read_ops S d base n (record { op_at = c.op_at + 1; item_at = c.item_at; line = 0; ops = c.ops })

-- k columns, left to right
unfoldable pub read_columns : Shape → List ℕ → ℕ → ℕ → Reading → Res Reading
read_columns S d zero base c = ok c
read_columns S d (suc k) base c = read_column S d base c >>= λ c'. read_columns S d k (base + S.item) c'
