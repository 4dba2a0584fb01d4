-- A Uniq of none and a Same of none (document 02, E4) are taken and move nothing; the Same still takes its item, and an absent one is 42.
use Prim.Native.Nat.{ℕ, ◌+◌, ◌*◌, ◌<◌, ◌≤◌}
use native.Mathlib.Omega.{arith}
use mathlib.Core.Bool.{true}
use mathlib.Core.List.{List, [], ◌∷◌, ◌++◌}
use mathlib.Core.Path.{◌≡◌, refl}
use lib.Dec.{leb}
use lib.ListN.{length}
use borrow.Author.Tests.{le-leb, lt-leb}
use Rattle.laws.specs.Result.{Res.ok, Res.fault, pick}
use Rattle.laws.proofs.ResultLaws.{Each, Each.each, each_any, each_map, each_need}
use Rattle.delta.specs.Reading.{Op, Reading, byte_at}
use Rattle.delta.specs.Column.{no_rows, skip_rows, fill, OpKind, OpKind.same, OpKind.skips, OpKind.uniq, op_as}
use Rattle.delta.specs.Delta.{put, draw}
use Rattle.delta.specs.declared.Shape.{Shape}
use Rattle.delta.specs.None.{Fills, MovesNothing, Adds}

module _ (S : Shape) (d : List ℕ) (base : ℕ) (c : Reading) where
  pub fill_reads : (p n size step : ℕ) → Each (Fills S c p n size) (fill S d base c p n size step)
  unfolding fill
  fill_reads p n size step =
      each_need (leb (c.line + n) S.height) 43 _ λ _. each_need (leb (pick S.inline p c.item_at + size) (length d)) 42 _ λ _.
      each (record { line = refl; op_at = refl; item_at = refl; op = _; counted = refl; count = refl; from = refl })

  -- an op of none is taken where reading stands in the column and the bytes of its items are there, and moves nothing
  fill_none : (p size step : ℕ) → c.line ≤ S.height → pick S.inline p c.item_at + size ≤ length d
      → (next : Reading) × (fill S d base c p 0 size step ≡ ok next) × MovesNothing S d c p size next
  unfolding fill draw put
  fill_none p size step l h =
      let o : Op = record { place = base + c.line * S.row; count = 0; from = pick S.inline p c.item_at; step = step } in
      let next : Reading = record { op_at = pick S.inline (p + size) p; item_at = pick S.inline c.item_at (c.item_at + size); line = c.line + 0; ops = c.ops ++ (o ∷ []) } in
      let read : Fills S c p 0 size next = record { line = refl; op_at = refl; item_at = refl; op = o; counted = refl; count = refl; from = refl } in
      (next, simp (le-leb (c.line + 0) S.height (omega arith), le-leb _ _ h), record { read = read; line = omega arith; drawn = λ f. refl })

  pub uniq_of_none : c.line ≤ S.height → pick S.inline (c.op_at + 1) c.item_at ≤ length d
      → (next : Reading) × (op_as S d base c (uniq 0) ≡ ok next) × MovesNothing S d c (c.op_at + 1) 0 next
  uniq_of_none l h = let z : 0 * S.item ≡ 0 = omega arith in rw z (fill_none (c.op_at + 1) 0 S.item l (omega arith))

  module _ (e : byte_at d (c.op_at + 1) ≡ ok 0) where
    pub same_of_none : c.line ≤ S.height → pick S.inline (c.op_at + 2) c.item_at + S.item ≤ length d
        → (next : Reading) × (op_as S d base c same ≡ ok next) × MovesNothing S d c (c.op_at + 2) S.item next
    same_of_none l h = rw e (fill_none (c.op_at + 2) S.item 0 l h)

    pub same_absent : c.line ≤ S.height → length d < pick S.inline (c.op_at + 2) c.item_at + S.item → op_as S d base c same ≡ fault 42
    unfolding fill
    same_absent l h = simp (e, le-leb (c.line + 0) S.height (omega arith), lt-leb _ _ h)

  -- reading an op of method 5 adds one of its kind
  module _ (inline : S.inline ≡ true) where
    place_after : {p n size : ℕ} {next : Reading} → 0 < p → (w : Fills S c p n size next) → 0 < w.op.from
    place_after h w = rw (w.from, inline) h

    pub has_place : (k : OpKind) → Each (λ next. Adds k c.ops next.ops) (op_as S d base c k)
    unfolding skip_rows
    has_place same =
        each_any (byte_at d (c.op_at + 1)) λ n.
        each_map (λ next w. record { op = w.op; more = w.counted; place = place_after (omega arith) w }) (fill_reads (c.op_at + 2) n S.item 0)
    has_place (skips n) = each_need (leb (c.line + n) S.height) 43 _ λ _. each (record { op = no_rows; more = refl; place = refl })
    has_place (uniq n) =
        each_map (λ next w. record { op = w.op; more = w.counted; place = (place_after (omega arith) w, w.count) }) (fill_reads (c.op_at + 1) n (n * S.item) S.item)
