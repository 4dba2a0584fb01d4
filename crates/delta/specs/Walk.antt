-- What the steps of a walk through a delta answer and leave in the frame. A walk that only checks draws nothing.
use Rattle.std.specs.Prelude.{ℕ, ◌+◌, ◌*◌, ◌<◌, ◌≤◌, Bool, true, false, ◌≡◌, List, [], ◌∷◌, ◌++◌, length, Result, Ok, Err}
use Rattle.laws.specs.Result.{Res, Res.ok, Res.fault, pick}
use Rattle.refusal.specs.Number.{number_of}
use Rattle.refusal.specs.declared.Refusal.{Refusal}
use Rattle.state.specs.declared.Sizes.{Sizes}
use Rattle.anhd.specs.declared.Items.{Items}
use Rattle.delta.specs.Reading.{shape_of, Op, ops_in, Reading}
use Rattle.delta.specs.Column.{no_rows}
use Rattle.delta.specs.Delta.{read_delta, put, draw, read_frame}
use Rattle.delta.specs.declared.Shape.{Shape}
use Rattle.delta.specs.declared.Cursor.{Cursor}
use Rattle.delta.specs.declared.Taken.{Taken}
use Rattle.delta.specs.declared.Taken.TheVariants.{Rows, Passed}

-- an item or word has one, two or four bytes
pub record Width (w : ℕ) : Type 0 where
  pub least : 1 ≤ w
  pub most : w ≤ 4
  pub not_three : w ≡ 3 → ⊥

-- the lists of a shape are columns of ops
pub record Vertical (S : Shape) : Type 0 where
  pub width : Width S.item
  pub columns : S.words ≡ false

-- count items of w bytes, step apart from a start on, lie within n bytes
pub record Inside (n start step w count : ℕ) : Type 0 where
  pub lies : (k : ℕ) → k < count → start + k * step + w ≤ n

-- so do items of w bytes that are no more than w apart
pub record ItemsIn (n from step w count : ℕ) : Type 0 where
  pub inside : Inside n from step w count
  pub step_most : step ≤ w

-- count rows of a column, the first at a place, lie within a frame of n bytes, and the place below the last of them fits into a usize
pub record Down (S : Shape) (n place count : ℕ) : Type 0 where
  pub rows : Inside n place S.row S.item count
  pub below : place + count * S.row ≤ 18446744073709551615

-- a column that starts at base does
abbrev pub Column : Shape → ℕ → ℕ → Type 0
Column S n base = Down S n base S.height

-- k columns do
pub record Columns (S : Shape) (n base k : ℕ) : Type 0 where
  pub column : (j : ℕ) → j < k → Column S n (base + j * S.item)

-- the planes of a picture of n bytes
pub record Planes (S : Shape) (n : ℕ) : Type 0 where
  pub width : Width S.item
  pub row_most : S.row ≤ 128
  pub height_least : S.words ≡ false → 1 ≤ S.height
  pub beside : S.words ≡ true → S.row ≡ S.item
  pub fits : S.height * S.row ≤ S.plane
  pub plane_most : S.plane ≤ 1024 * 128
  pub planes_most : S.planes ≤ 8
  pub length : n ≡ S.planes * S.plane

-- a cursor within the column and the delta, with room for so many ops
pub record Stands (S : Shape) (d : List ℕ) (c : Cursor) (room : ℕ) : Type 0 where
  pub line : c.line ≤ S.height
  pub item : c.item ≤ length d
  pub ops : c.ops + room < 4294967296

-- where reading stands after n rows got items of size bytes in all; p is the place after the op's own bytes
abbrev pub after_fill : Shape → Cursor → ℕ → ℕ → ℕ → Cursor
after_fill S c p n size = record { op = pick S.inline (p + size) p; item = pick S.inline c.item (c.item + size); line = c.line + n; ops = c.ops + 1 }

-- the numbers that it comes to fit
pub record Fits (S : Shape) (c : Cursor) (p n size : ℕ) : Type 0 where
  pub line : c.line + n ≤ S.height
  pub place : pick S.inline p c.item + size ≤ 18446744073709551615
  pub ops : c.ops + 1 < 4294967296

-- where the whole delta is read from
abbrev pub top : Cursor
top = record { op = 0; item = 0; line = 0; ops = 0 }

-- the definition's place of reading, where the ops so far are given
abbrev pub reading : Cursor → List Op → Reading
reading c ops = record { op_at = c.op; item_at = c.item; line = c.line; ops = ops }

-- a cursor one op further on, which counts as k
pub record Moved (S : Shape) (d : List ℕ) (k : ℕ) (c next : Cursor) : Type 0 where
  pub counted : next.ops ≡ c.ops + k
  pub line : next.line ≤ S.height
  pub item : next.item ≤ length d

-- an op of n rows, the first of which is `line`, was read, wherever its column starts
pub record RowsRead (S : Shape) (d : List ℕ) (k : ℕ) (whole : ℕ → Reading → Res Reading) (c : Cursor) (line from step n : ℕ) (next : Cursor) : Type 0 where
  pub same : (base : ℕ) (ops : List Op) → whole base (reading c ops) ≡ ok (reading next (ops ++ (record { place = base + line * S.row; count = n; from = from; step = step } ∷ [])))
  pub rows : line + n ≤ S.height
  pub items : ItemsIn (length d) from step S.item n
  pub moved : Moved S d k c next

-- a Skip was
pub record PassRead (S : Shape) (d : List ℕ) (k : ℕ) (whole : ℕ → Reading → Res Reading) (c next : Cursor) : Type 0 where
  pub same : (base : ℕ) (ops : List Op) → whole base (reading c ops) ≡ ok (reading next (ops ++ (no_rows ∷ [])))
  pub moved : Moved S d k c next

-- what reading an op, which counts as k, answers, where the definition's step is `whole`
abbrev pub OpRead : Shape → List ℕ → ℕ → (ℕ → Reading → Res Reading) → Cursor → Result Taken Refusal → Type 0
OpRead S d k whole c (Ok (Rows line from step n next)) = RowsRead S d k whole c line from step n next
OpRead S d k whole c (Ok (Passed next)) = PassRead S d k whole c next
OpRead S d k whole c (Err why) = (base : ℕ) (ops : List Op) → whole base (reading c ops) ≡ fault (number_of why)

-- the rows of an op that was read lie in its column, and its items in the delta
abbrev pub Lies : Shape → List ℕ → Taken → Type 0
Lies S d (Rows line from step n next) = (line + n ≤ S.height) × ItemsIn (length d) from step S.item n
Lies S d (Passed next) = Unit {0}

-- the frame f, with n rows from a place on drawn into it if drawing is set
abbrev pub drawn_rows : List ℕ → ℕ → List ℕ → ℕ → ℕ → ℕ → Shape → Bool → List ℕ
drawn_rows f place d from step n S drawing = pick drawing (put S.item S.row step d n from place f) f

-- what drawing an op in the column that starts at base answers, and leaves in the frame
abbrev pub Drawn : List ℕ → Shape → List ℕ → ℕ → Taken → Bool → List ℕ → Cursor → Type 0
Drawn f S d base (Rows line from step n next) drawing g r = (r ≡ next) × (g ≡ drawn_rows f (base + line * S.row) d from step n S drawing)
Drawn f S d base (Passed next) drawing g r = (r ≡ next) × (g ≡ f)

-- reading by `whole` from the cursor c₀ on has come to c, and `rest` is left; the frame f has become g
pub record Walked (f : List ℕ) (S : Shape) (d : List ℕ) (whole : Reading → Res Reading) (c₀ : Cursor) (drawing : Bool) (rest : Reading → Res Reading) (g : List ℕ) (most : ℕ) (c : Cursor) : Type 0 where
  pub new : List Op
  pub same : (ops : List Op) → whole (reading c₀ ops) ≡ rest (reading c (ops ++ new))
  pub drawn : g ≡ pick drawing (draw S d new f) f
  pub counted : c.ops ≡ c₀.ops + ops_in S new
  pub few : ops_in S new ≤ most
  pub line : c.line ≤ S.height
  pub item : c.item ≤ length d

-- reading is refused; a check draws nothing
pub record Refused (f : List ℕ) (whole : Reading → Res Reading) (c₀ : Cursor) (drawing : Bool) (g : List ℕ) (n : ℕ) : Type 0 where
  pub same : (ops : List Op) → whole (reading c₀ ops) ≡ fault n
  pub kept : drawing ≡ false → g ≡ f

-- what a step answers and leaves in the frame, where the definition's step is `whole`
abbrev pub Took : List ℕ → Shape → List ℕ → (Reading → Res Reading) → Cursor → Bool → List ℕ → ℕ → Result Cursor Refusal → Type 0
Took f S d whole c₀ drawing g most (Ok c) = Walked f S d whole c₀ drawing ok g most c
Took f S d whole c₀ drawing g most (Err why) = Refused f whole c₀ drawing g (number_of why)

-- a delta that passes the check for a picture of m bytes: its ops, and that the work buffer w, which has become g, is fit for them
pub record Passes (w : List ℕ) (m : ℕ) (d : List ℕ) (z : Sizes) (i : Items) (g : List ℕ) (c : Cursor) : Type 0 where
  pub ops : List Op
  pub read : read_delta (shape_of z i) d ≡ ok ops
  pub frame : read_frame (length w) m d z i ≡ ok ops
  pub counted : c.ops ≡ ops_in (shape_of z i) ops
  pub same : m ≡ length w
  pub planes : Planes (shape_of z i) (length w)
  pub kept : g ≡ w

-- what the check of a whole delta answers and leaves in the work buffer
abbrev pub Checked : List ℕ → ℕ → List ℕ → Sizes → Items → List ℕ → Result Cursor Refusal → Type 0
Checked w m d z i g (Ok c) = Passes w m d z i g c
Checked w m d z i g (Err why) = (read_frame (length w) m d z i ≡ fault (number_of why)) × (g ≡ w)
