-- A Uniq of none and a Same of none (document 02, E4): what they are read as, and how they are told from Skips.
use Rattle.std.specs.Prelude.{ℕ, ◌+◌, ◌<◌, List, [], ◌∷◌, ◌++◌, ◌≡◌}
use Rattle.laws.specs.Result.{pick}
use Rattle.delta.specs.Reading.{Op, Reading}
use Rattle.delta.specs.Column.{OpKind, OpKind.same, OpKind.skips, OpKind.uniq}
use Rattle.delta.specs.Delta.{draw}
use Rattle.delta.specs.declared.Shape.{Shape}

-- an op with size bytes of items for n rows was read; its own bytes end at p
pub record Fills (S : Shape) (c : Reading) (p n size : ℕ) (next : Reading) : Type 0 where
  pub line : next.line ≡ c.line + n
  pub op_at : next.op_at ≡ pick S.inline (p + size) p
  pub item_at : next.item_at ≡ pick S.inline c.item_at (c.item_at + size)
  pub op : Op
  pub counted : next.ops ≡ c.ops ++ (op ∷ [])
  pub count : op.count ≡ n
  pub from : op.from ≡ pick S.inline p c.item_at

-- such an op moves nothing: the row stays, and nothing is drawn
pub record MovesNothing (S : Shape) (d : List ℕ) (c : Reading) (p size : ℕ) (next : Reading) : Type 0 where
  pub read : Fills S c p 0 size next
  pub line : next.line ≡ c.line
  pub drawn : (f : List ℕ) → draw S d (read.op ∷ []) f ≡ f

-- an op with a place for items has rows: it isn't a Uniq or Same of none
abbrev pub HasRows : Op → Type 0
HasRows o = 0 < o.from → 0 < o.count

-- with method 5 a Uniq and a Same have a place for items; a Skip has none
abbrev pub PlaceIn : OpKind → Op → Type 0
PlaceIn same o = 0 < o.from
PlaceIn (skips n) o = o.from ≡ 0
PlaceIn (uniq n) o = (0 < o.from) × (o.count ≡ n)

-- one op, of a kind, comes after the ops so far
pub record Adds (k : OpKind) (before after : List Op) : Type 0 where
  pub op : Op
  pub more : after ≡ before ++ (op ∷ [])
  pub place : PlaceIn k op
