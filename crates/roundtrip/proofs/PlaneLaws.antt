-- The columns of a plane that are written, read and drawn by the delta's own definitions, make the new plane.
use Prim.Native.Nat.{ℕ, zero, suc, ◌+◌, ◌-◌, ◌*◌, ◌<◌, ◌≤◌}
use native.Mathlib.Nat.{mul-le-mul_right}
use native.Mathlib.Numerals.{add-one}
use native.Mathlib.Omega.{arith}
use mathlib.Core.Bool.{Bool, true, false}
use mathlib.Core.List.{List, [], ◌∷◌, ◌++◌, append_assoc}
use mathlib.Core.Path.{◌≡◌, refl, sym, ap, ◌∙◌}
use lib.Dec.{ltb}
use lib.ListN.{length, get_or, take, drop, set, length-append, length-drop, length-set}
use lib.Seq.{get_or-set_same, drop-drop, drop-append_seam, take_all}
use borrow.Author.Tests.{ltb-true, ltb-false}
use Rattle.laws.specs.Result.{Res, Res.ok}
use Rattle.column_writer.specs.Column.{WrittenOp, column_ops, ops_bytes, column_bytes}
use Rattle.column_writer.proofs.ValidColumn.{valid_column}
use Rattle.writer.specs.Write.{column_at, column_in, columns_bytes}
use Rattle.delta.specs.Reading.{Reading}
use Rattle.delta.specs.Column.{read_column, read_columns}
use Rattle.delta.proofs.DeltaLaws.{column_ops_lem}
use Rattle.writer.proofs.ColumnLaws.{length_column, get_d_column, column_ext}
use Rattle.roundtrip.proofs.OpLaws.{reach_all, passed_all, reach_column, column, column_new}
use Rattle.roundtrip.proofs.ColumnLaws.{put_column, length_put_column, get_d_put_other, put_kept, length_passed_all, Head, head, bytewise, Makes, col, At, ops_are}

-- the new column, put at once
put_new : (row height : ℕ) → 1 ≤ row → (f new : List ℕ) (base : ℕ) (os : List WrittenOp)
    → reach_all os ≤ height
    → column os (column_at f row base height) ≡ column_at new row base height
    → put_column f row base (passed_all os (column_at f row base height)) ≡ put_column f row base (column_at new row base height)
unfolding column
put_new row height s1 f new base os h e =
    let c : List ℕ = column_at f row base height in
    let lc : length c ≡ height = length_column f row base height in
    let done : List ℕ = passed_all os c in
    let l : length done ≡ reach_all os = length_passed_all os c (omega arith) in
    let t : take (height - length done) (drop (length done) c) ≡ drop (reach_all os) c = rw l (take_all (height - reach_all os) (drop (reach_all os) c) (omega (arith, length-drop (reach_all os) c))) in
    sym (put_kept f row base height done (height - length done) s1 (omega arith))
    ∙ rw (t, e)

-- where a column puts its values
get_d_put_in : (f : List ℕ) (row at : ℕ) (vs : List ℕ) (r : ℕ) → 1 ≤ row → r < length vs → at + r * row < length f → get_or (put_column f row at vs) (at + r * row) 0 ≡ get_or vs r 0
unfolding put_column
get_d_put_in f row at [] r s h k = absurd (omega arith)
get_d_put_in f row at (v ∷ vs) zero s h k =
    let e : at + 0 * row ≡ at = omega arith in
    rw e (get_d_put_other (set f at v) row (at + row) vs at (λ i l q. omega arith) ∙ get_or-set_same f at v 0 (omega arith))
get_d_put_in f row at (v ∷ vs) (suc r) s h k =
    let e : at + suc r * row ≡ at + row + r * row = omega arith in
    rw e (get_d_put_in (set f at v) row (at + row) vs r s (omega arith) (omega (arith, length-set f at v)))

-- two columns of one plane share no place
apart : (row e r i : ℕ) → 0 < e → e < row → e + r * row ≡ i * row → ⊥
apart row e r i h k z = go (ltb r i) refl
  where
    go : (t : Bool) → ltb r i ≡ t → ⊥
    go true q = omega (arith, mul-le-mul_right row (ltb-true r i q))
    go false q = omega (arith, mul-le-mul_right row (ltb-false r i q))

-- k columns, put at once
unfoldable pub paint : List ℕ → ℕ → ℕ → ℕ → ℕ → List ℕ → List ℕ
paint new row height zero at f = f
paint new row height (suc k) at f = paint new row height k (at + 1) (put_column f row at (column_at new row at height))

pub length_paint : (new : List ℕ) (row height k at : ℕ) (f : List ℕ) → length (paint new row height k at f) ≡ length f
unfolding paint
length_paint new row height zero at f = refl
length_paint new row height (suc k) at f = length_paint new row height k (at + 1) (put_column f row at (column_at new row at height)) ∙ length_put_column f row at (column_at new row at height)

pub paint_out : (new : List ℕ) (row height k at : ℕ) (f : List ℕ) (j : ℕ)
    → ((c r : ℕ) → c < k → r < height → j ≡ at + c + r * row → ⊥) → get_or (paint new row height k at f) j 0 ≡ get_or f j 0
unfolding paint
paint_out new row height zero at f j h = refl
paint_out new row height (suc k) at f j h =
    paint_out new row height k (at + 1) (put_column f row at (column_at new row at height)) j (λ c r x y e. h (suc c) r (omega arith) y (omega arith))
    ∙ get_d_put_other f row at (column_at new row at height) j (λ i x e. h 0 i (omega arith) (omega (arith, length_column new row at height)) (omega arith))

pub paint_in : (new : List ℕ) (row height k at : ℕ) (f : List ℕ) → k ≤ row → 1 ≤ row → (c r : ℕ) → c < k → r < height → at + c + r * row < length f
    → get_or (paint new row height k at f) (at + c + r * row) 0 ≡ get_or new (at + c + r * row) 0
unfolding paint
paint_in new row height zero at f ks s c r x y l = absurd (omega arith)
paint_in new row height (suc k) at f ks s zero r x y l =
    let e : at + 0 + r * row ≡ at + r * row = omega arith in
    rw e (
    paint_out new row height k (at + 1) (put_column f row at (column_at new row at height)) (at + r * row) (λ c i u v z. apart row (suc c) i r (omega arith) (omega arith) (omega arith))
    ∙ get_d_put_in f row at (column_at new row at height) r s (omega (arith, length_column new row at height)) (omega arith)
    ∙ get_d_column new row at height r y)
paint_in new row height (suc k) at f ks s (suc c) r x y l =
    let e : at + suc c + r * row ≡ at + 1 + c + r * row = omega arith in
    rw e (paint_in new row height k (at + 1) (put_column f row at (column_at new row at height)) (omega arith) s c r (omega arith) y (omega (arith, length_put_column f row at (column_at new row at height))))

-- the columns that are written, read
module _ (row height planes : ℕ) (s1 : 1 ≤ row) (d first old new : List ℕ) where
  -- a reading that stands at a place, whose ops so far make a frame
  pub record Stands (c : Reading) (p : ℕ) (f : List ℕ) : Type 0 where
    pub op : c.op_at ≡ p
    pub makes : Makes row height planes d first c.ops f

  pub record Painted (r : Res Reading) (p : ℕ) (f : List ℕ) : Type 0 where
    pub to : Reading
    pub reads : r ≡ ok to
    pub stands : Stands to p f

  column_is : (at p : ℕ) (c : Reading) (f s : List ℕ) → Stands c p f → column_at f row at height ≡ column_at old row at height
      → drop p d ≡ column_in old new row height at ++ s
      → Painted (read_column (bytewise row height planes) d at c) (p + length (column_in old new row height at)) (put_column f row at (column_at new row at height))
  unfolding column_in column_bytes put_column col
  column_is at p c f s w a e =
      let oc : List ℕ = column_at old row at height in
      let nc : List ℕ = column_at new row at height in
      let os : List WrittenOp = column_ops oc nc in
      let lo : length oc ≡ height = length_column old row at height in
      let ln : length nc ≡ height = length_column new row at height in
      let hd : Head d p (length os) (ops_bytes os ++ s) = head d p (length os) (ops_bytes os ++ s) e in
      let b : get_or d c.op_at 0 ≡ length os = rw w.op hd.is in
      let far : reach_all os ≤ height = omega (arith, reach_column oc nc (lo ∙ sym ln)) in
      let start : At row height planes s1 d first at f (record { op_at = c.op_at + 1; item_at = c.item_at; line = 0; ops = c.ops }) (p + 1) [] =
      record { op = rw w.op; line = refl; makes = w.makes } in
      let g = ops_are row height planes s1 d first at f os (record { op_at = c.op_at + 1; item_at = c.item_at; line = 0; ops = c.ops }) (p + 1) [] s start (valid_column oc nc) (omega arith) (rw (add-one p) hd.after) in
      record {
        to = g.to;
        reads = column_ops_lem (bytewise row height planes) d at c (rw w.op hd.within) ∙ rw b g.reads;
        stands = record {
          op = g.at.op ∙ omega arith;
          makes = rw (put_new row height s1 f new at os far (rw a (column_new oc nc (lo ∙ sym ln)))) at g.at.makes;
        };
      }

  pub columns_are : (k at p : ℕ) (c : Reading) (f s : List ℕ) → k ≤ row → Stands c p f
      → ((i : ℕ) → i < k → column_at f row (at + i) height ≡ column_at old row (at + i) height)
      → drop p d ≡ columns_bytes old new row height k at ++ s
      → Painted (read_columns (bytewise row height planes) d k at c) (p + length (columns_bytes old new row height k at)) (paint new row height k at f)
  unfolding read_columns columns_bytes paint
  columns_are zero at p c f s ks w a e = record { to = c; reads = refl; stands = record { op = w.op ∙ omega arith; makes = w.makes } }
  columns_are (suc k) at p c f s ks w a e =
      let nc : List ℕ = column_at new row at height in
      let C : List ℕ = column_in old new row height at in
      let R : List ℕ = columns_bytes old new row height k (at + 1) in
      let z : at + 0 ≡ at = omega arith in
      let e' : drop p d ≡ C ++ (R ++ s) = e ∙ append_assoc C R s in
      let g = column_is at p c f (R ++ s) w (rw z at (a 0 (omega arith))) e' in
      let after : drop (p + length C) d ≡ R ++ s = sym (drop-drop (length C) p d) ∙ ap (λ (x : List ℕ). drop (length C) x) e' ∙ drop-append_seam C (R ++ s) in
      let h = columns_are k (at + 1) (p + length C) g.to (put_column f row at nc) s (omega arith) g.stands (λ i u.
      let x : at + 1 + i ≡ at + suc i = omega arith in
      rw x (column_ext (put_column f row at nc) f row (at + suc i) height (λ r v. get_d_put_other f row at nc (at + suc i + r * row) (λ m y b. apart row (suc i) r m (omega arith) (omega arith) (omega arith))) ∙ a (suc i) (omega arith))) after in
      record {
        to = h.to;
        reads = rw g.reads h.reads;
        stands = record { op = h.stands.op ∙ omega (arith, length-append C R); makes = h.stands.makes };
      }
