-- What reading a DLTA goes by (document 01, "Deltas"; document 02, E5): the shape of its lists, the ops that are read, and the place where
-- reading stands.
use Rattle.std.specs.Prelude.{ℕ, ◌+◌, ◌*◌, ◌/◌, Bool, true, false, List, leb, ltb, length, get_or}
use Rattle.laws.specs.Result.{Res, Res.ok, ◌>>=◌, need, pick}
use Rattle.laws.specs.Bytes.{be16}
use Rattle.state.specs.State.{row_bytes}
use Rattle.state.specs.declared.Sizes.{Sizes}
use Rattle.anhd.specs.declared.Items.{Items}
use Rattle.anhd.specs.declared.Items.TheVariants.{Bytes, Shorts, Longs, ShortWords, LongWords}
use Rattle.delta.specs.declared.Shape.{Shape}

-- the bytes of a plane
abbrev pub bytes_in_plane : Sizes → ℕ
bytes_in_plane z = z.height * row_bytes z.width

-- methods 5 and 7: columns of items of w bytes, which stand in the op list or not; 16 pointers of four bytes
abbrev pub column_shape : Sizes → ℕ → Bool → Shape
column_shape z w inline = record {
  item = w;
  inline = inline;
  words = false;
  row = row_bytes z.width;
  height = z.height;
  planes = z.planes;
  plane = bytes_in_plane z;
  pointers = 64;
}

-- methods 2 and 3: a plane is one column whose rows are its words of w bytes, as many as fit whole; 8 pointers
abbrev pub word_shape : Sizes → ℕ → Shape
word_shape z w = record {
  item = w;
  inline = true;
  words = true;
  row = w;
  height = bytes_in_plane z / w;
  planes = z.planes;
  plane = bytes_in_plane z;
  pointers = 32;
}

-- what a delta is read by
abbrev pub shape_of : Sizes → Items → Shape
shape_of z Bytes = column_shape z 1 true
shape_of z Shorts = column_shape z 2 false
shape_of z Longs = column_shape z 4 false
shape_of z ShortWords = word_shape z 2
shape_of z LongWords = word_shape z 4

-- the columns of a plane
abbrev pub columns_in : Shape → ℕ
columns_in S = S.row / S.item

-- an op: count rows, the first at a place of the frame, get the items from a place of DLTA on, each step bytes after the one
-- before; a Same has a step of 0; a Uniq, a Same or a run of none has a count of 0, and a place for items all the same
pub record Op : Type 0 where
  pub place : ℕ
  pub count : ℕ
  pub from : ℕ
  pub step : ℕ

-- the number of ops, where they are those of columns; those of words aren't counted
abbrev pub ops_in : Shape → List Op → ℕ
ops_in S ops = pick S.words 0 (length ops)

-- where reading stands: the place in the list, the place in the data list, the row, and the ops so far
pub record Reading : Type 0 where
  pub op_at : ℕ
  pub item_at : ℕ
  pub line : ℕ
  pub ops : List Op

-- the byte at a place, or 42 past the end
unfoldable pub byte_at : List ℕ → ℕ → Res ℕ
byte_at d p = need (ltb p (length d)) 42 >>= λ _. ok (get_or d p 0)

-- the two bytes at a place as a number, or 42 past the end
unfoldable pub pair_at : List ℕ → ℕ → Res ℕ
pair_at d p = need (leb (p + 2) (length d)) 42 >>= λ _. ok (be16 d p)
