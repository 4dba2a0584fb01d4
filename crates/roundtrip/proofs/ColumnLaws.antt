-- A column of a frame, put and read; and the ops that are written for it, read and drawn by the delta's own definitions.
use Prim.Native.Nat.{ℕ, zero, suc, ◌+◌, ◌-◌, ◌*◌, ◌<◌, ◌≤◌}
use native.Mathlib.Nat.{add-zero, mul-le-mul_right}
use native.Mathlib.Numerals.{add-one, add-two}
use native.Mathlib.Omega.{arith}
use mathlib.Core.Bool.{true, false}
use mathlib.Core.List.{List, [], ◌∷◌, ◌++◌, append_assoc, append-nil}
use mathlib.Core.Path.{◌≡◌, refl, sym, ap, ◌∙◌}
use lib.ListN.{length, get_or, take, drop, set, replicate, length-append, length-take, length-drop, length-set, length-replicate}
use lib.Seq.{drop-cons, set-get_or, get_or-set_other, drop-drop, take-append_seam, drop-append_seam}
use borrow.Author.Tests.{le-leb}
use Rattle.laws.specs.Result.{Res, Res.ok}
use Rattle.laws.specs.Every.{Every}
use Rattle.laws.proofs.EveryLaws.{every_head, every_tail, every_more}
use Rattle.column_writer.specs.Column.{WrittenOp, WrittenOp.skip, WrittenOp.uniq, WrittenOp.same, op_bytes, ops_bytes, Valid}
use Rattle.writer.specs.Write.{column_at}
use Rattle.writer.proofs.ColumnLaws.{length_column, column_ext}
use Rattle.delta.specs.Reading.{Op, Reading}
use Rattle.delta.specs.Column.{no_rows, skip_rows, fill, OpKind, op_kind_of, op_as, read_op, read_ops}
use Rattle.delta.specs.Delta.{put, draw}
use Rattle.delta.proofs.DeltaLaws.{draw_append, kind_skip, kind_uniq, op_kind, same_fill}
use Rattle.delta.specs.None.{HasRows}
use Rattle.delta.specs.declared.Shape.{Shape}
use Rattle.roundtrip.proofs.OpLaws.{reach, passed, reach_all, passed_all}

-- values put down a column
unfoldable pub put_column : List ℕ → ℕ → ℕ → List ℕ → List ℕ
put_column f row at [] = f
put_column f row at (v ∷ vs) = put_column (set f at v) row (at + row) vs

pub length_put_column : (f : List ℕ) (row at : ℕ) (vs : List ℕ) → length (put_column f row at vs) ≡ length f
unfolding put_column
length_put_column f row at [] = refl
length_put_column f row at (v ∷ vs) = length_put_column (set f at v) row (at + row) vs ∙ length-set f at v

pub put_append : (f : List ℕ) (row at : ℕ) (xs ys : List ℕ)
    → put_column f row at (xs ++ ys) ≡ put_column (put_column f row at xs) row (at + length xs * row) ys
unfolding put_column
put_append f row at [] ys = let e : at + 0 * row ≡ at = omega arith in rw e
put_append f row at (x ∷ xs) ys =
    let e : at + suc (length xs) * row ≡ at + row + length xs * row = omega arith in
    rw e (put_append (set f at x) row (at + row) xs ys)

-- the delta's `put` is that
pub put_uniq : (row : ℕ) (d : List ℕ) (n from at : ℕ) (f : List ℕ) → from + n ≤ length d
    → put 1 row 1 d n from at f ≡ put_column f row at (take n (drop from d))
unfolding put put_column
put_uniq row d zero from at f h = refl
put_uniq row d (suc n) from at f h = rw (drop-cons d from 0 (omega arith), add-one from) (put_uniq row d n (suc from) (at + row) (set f at (get_or d from 0)) (omega arith))

pub put_same : (row : ℕ) (d : List ℕ) (n from at : ℕ) (f : List ℕ) → from < length d
    → put 1 row 0 d n from at f ≡ put_column f row at (replicate n (get_or d from 0))
unfolding put put_column
put_same row d zero from at f h = refl
put_same row d (suc n) from at f h = rw (drop-cons d from 0 h, add-zero from) (put_same row d n from (at + row) (set f at (get_or d from 0)) h)

-- what stands elsewhere stays
pub get_d_put_other : (f : List ℕ) (row at : ℕ) (vs : List ℕ) (j : ℕ) → ((i : ℕ) → i < length vs → j ≡ at + i * row → ⊥) → get_or (put_column f row at vs) j 0 ≡ get_or f j 0
unfolding put_column
get_d_put_other f row at [] j h = refl
get_d_put_other f row at (v ∷ vs) j h =
    get_d_put_other (set f at v) row (at + row) vs j (λ i k e. h (suc i) (omega arith) (omega arith))
    ∙ get_or-set_other f at j v 0 (λ e. h 0 (omega arith) (omega arith))

-- a column that is put as it stands
pub put_own : (f : List ℕ) (row at n : ℕ) → put_column f row at (column_at f row at n) ≡ f
unfolding put_column column_at
put_own f row at zero = refl
put_own f row at (suc n) = ap (λ (g : List ℕ). put_column g row (at + row) (column_at f row (at + row) n)) (set-get_or f at 0) ∙ put_own f row (at + row) n

-- parts of a column
pub drop_column_at : (f : List ℕ) (row at n r : ℕ) → drop r (column_at f row at n) ≡ column_at f row (at + r * row) (n - r)
unfolding column_at
drop_column_at f row at n zero = let e : at + 0 * row ≡ at = omega arith in let e' : n - 0 ≡ n = omega arith in rw (e, e')
drop_column_at f row at zero (suc r) = let e : 0 - suc r ≡ 0 = omega arith in rw e
drop_column_at f row at (suc n) (suc r) =
    let e : at + suc r * row ≡ at + row + r * row = omega arith in
    let e' : suc n - suc r ≡ n - r = omega arith in
    rw (e, e') (drop_column_at f row (at + row) n r)

pub take_column_at : (f : List ℕ) (row at n k : ℕ) → k ≤ n → take k (column_at f row at n) ≡ column_at f row at k
unfolding column_at
take_column_at f row at n zero h = refl
take_column_at f row at zero (suc k) h = absurd (omega arith)
take_column_at f row at (suc n) (suc k) h = ap (λ (l : List ℕ). get_or f at 0 ∷ l) (take_column_at f row (at + row) n k (omega arith))

-- rows that are put as they stand, below rows that were put
pub put_kept : (f : List ℕ) (row base height : ℕ) (done : List ℕ) (n : ℕ) → 1 ≤ row → length done + n ≤ height
    → put_column f row base (done ++ take n (drop (length done) (column_at f row base height))) ≡ put_column f row base done
put_kept f row base height done n s h =
    let g : List ℕ = put_column f row base done in
    let at : ℕ = base + length done * row in
    let e : take n (drop (length done) (column_at f row base height)) ≡ column_at g row at n =
    rw (drop_column_at f row base height (length done)) (
    take_column_at f row at (height - length done) n (omega arith)
    ∙ column_ext f g row at n (λ r k. sym (get_d_put_other f row base done (at + r * row) (λ i l e. omega (arith, mul-le-mul_right row l))))) in
    put_append f row base done (take n (drop (length done) (column_at f row base height)))
    ∙ rw e (put_own g row at n)

-- what stands at a place of a list, from what follows there
pub record Head (d : List ℕ) (p x : ℕ) (t : List ℕ) : Type 0 where
  pub within : p < length d
  pub is : get_or d p 0 ≡ x
  pub after : drop (suc p) d ≡ t

pub head : (d : List ℕ) (p x : ℕ) (t : List ℕ) → drop p d ≡ x ∷ t → Head d p x t
head d p x t e = go (omega (arith, length-drop p d, ap length e))
  where
    go : p < length d → Head d p x t
    go h =
        let z : get_or d p 0 ∷ drop (suc p) d ≡ x ∷ t = sym (drop-cons d p 0 h) ∙ e in
        record { within = h; is = cc; after = cc }

length_passed : (o : WrittenOp) (c : List ℕ) → reach o ≤ length c → length (passed o c) ≡ reach o
length_passed (skip n) c h = omega (arith, length-take n c)
length_passed (uniq vs) c h = refl
length_passed (same n x) c h = length-replicate n x

pub length_passed_all : (os : List WrittenOp) (c : List ℕ) → reach_all os ≤ length c → length (passed_all os c) ≡ reach_all os
unfolding passed_all reach_all
length_passed_all [] c h = refl
length_passed_all (o ∷ os) c h =
    length-append (passed o c) (passed_all os (drop (reach o) c))
    ∙ rw (length_passed o c (omega arith), length_passed_all os (drop (reach o) c) (omega (arith, length-drop (reach o) c)))

-- the shape of method 5
abbrev pub bytewise : ℕ → ℕ → ℕ → Shape
bytewise row height planes = record { item = 1; inline = true; words = false; row = row; height = height; planes = planes; plane = height * row; pointers = 64 }

module _ (row height planes : ℕ) (d first : List ℕ) where
  -- ops that make the frame f of the first one, with no Uniq or Same of none among them
  pub record Makes (ops : List Op) (f : List ℕ) : Type 0 where
    pub drawn : draw (bytewise row height planes) d ops first ≡ f
    pub rows : Every HasRows ops

  makes_skip : {ops : List Op} {f : List ℕ} → Makes ops f → Makes (ops ++ (no_rows ∷ [])) f
  unfolding draw put
  makes_skip {ops} {f} m = record {
    drawn = draw_append (bytewise row height planes) d ops (no_rows ∷ []) first ∙ m.drawn;
    rows = every_more m.rows (λ h. absurd (omega arith));
  }

  makes_more : {ops : List Op} {f g : List ℕ} (o : Op) → Makes ops f → 0 < o.count → put 1 row o.step d o.count o.from o.place f ≡ g → Makes (ops ++ (o ∷ [])) g
  unfolding draw
  makes_more {ops} {f} o m h e = record {
    drawn = draw_append (bytewise row height planes) d ops (o ∷ []) first ∙ rw m.drawn e;
    rows = every_more m.rows (λ _. h);
  }

module _ (row height planes : ℕ) (s1 : 1 ≤ row) (d : List ℕ) (first : List ℕ) (base : ℕ) (f : List ℕ) where
  unfoldable pub col : List ℕ
  col = column_at f row base height

  col_length : length col ≡ height
  unfolding col
  col_length = length_column f row base height

  -- a reading at a place of the delta, the values `done` below the column's top; `first` is the frame that all ops are drawn into, f the one before this column
  pub record At (c : Reading) (p : ℕ) (done : List ℕ) : Type 0 where
    pub op : c.op_at ≡ p
    pub line : c.line ≡ length done
    pub makes : Makes row height planes d first c.ops (put_column f row base done)

  -- a reading that went on to such a place
  pub record Goes (r : Res Reading) (p : ℕ) (done : List ℕ) : Type 0 where
    pub to : Reading
    pub reads : r ≡ ok to
    pub at : At to p done

  moved : (c : Reading) {p p' : ℕ} {done done' : List ℕ} → At c p done → p ≡ p' → done ≡ done' → At c p' done'
  moved c {p} {p'} {done} {done'} a e l = rw (← e, ← l) a

  -- the op at a place, by the byte that stands there
  op_at_lem : (c : Reading) {p x : ℕ} {t : List ℕ} {k : OpKind} → c.op_at ≡ p → Head d p x t → op_kind_of x ≡ k → read_op (bytewise row height planes) d base c ≡ op_as (bytewise row height planes) d base c k
  op_at_lem c {k = k} e h q = op_kind (bytewise row height planes) d base c (rw e h.within) {k = k} (rw (e, h.is) q)

  op_is : (o : WrittenOp) (c : Reading) (p : ℕ) (done s : List ℕ) → At c p done → Valid o → length done + reach o ≤ height → drop p d ≡ op_bytes o ++ s
      → Goes (read_op (bytewise row height planes) d base c) (p + length (op_bytes o)) (done ++ passed o (drop (length done) col))
  unfolding skip_rows fill col Valid op_bytes
  op_is (skip n) c p done s a v h e =
      let hd : Head d p n s = head d p n s e in
      let k : length (done ++ take n (drop (length done) (column_at f row base height))) ≡ length done + n =
      omega (
        arith,
        length-append done (take n (drop (length done) (column_at f row base height))),
        length-take n (drop (length done) (column_at f row base height)),
        length-drop (length done) (column_at f row base height),
        length_column f row base height,
      ) in
      record {
        to = record { op_at = c.op_at + 1; item_at = c.item_at; line = c.line + n; ops = c.ops ++ (no_rows ∷ []) };
        reads = op_at_lem c a.op hd (kind_skip n v.0 (omega (arith, v.1))) ∙ rw (a.line, le-leb (length done + n) height h);
        at = record {
          op = rw a.op (omega arith);
          line = rw a.line (sym k);
          makes = rw (put_kept f row base height done n s1 h) (makes_skip row height planes d first a.makes);
        };
      }
  op_is (uniq vs) c p done s a v h e =
      let hd : Head d p (128 + length vs) (vs ++ s) = head d p (128 + length vs) (vs ++ s) e in
      let k : drop (p + 1) d ≡ vs ++ s = rw (add-one p) hd.after in
      let l : p + 1 + length vs * 1 ≤ length d = omega (arith, length-drop (p + 1) d, ap length k, length-append vs s) in
      let w : take (length vs) (drop (p + 1) d) ≡ vs = rw k (take-append_seam vs s) in
      let r : 128 + length vs - 128 ≡ length vs = omega arith in
      let o : Op = record { place = base + length done * row; count = length vs; from = p + 1; step = 1 } in
      record {
        to = record { op_at = p + 1 + length vs * 1; item_at = c.item_at; line = length done + length vs; ops = c.ops ++ (o ∷ []) };
        reads =
            op_at_lem c a.op hd (kind_uniq (128 + length vs) (omega arith))
            ∙ simp (r, a.op, a.line, le-leb (length done + length vs) height h, le-leb (p + 1 + length vs * 1) (length d) l);
        at = record {
          op = omega arith;
          line = sym (length-append done vs);
          makes =
              makes_more row height planes d first o a.makes v.0
              (put_uniq row d (length vs) (p + 1) (base + length done * row) (put_column f row base done) (omega arith) ∙ rw (w, put_append f row base done vs));
        };
      }
  op_is (same n x) c p done s a v h e =
      let hd : Head d p 0 (n ∷ x ∷ s) = head d p 0 (n ∷ x ∷ s) e in
      let h2 : Head d (p + 1) n (x ∷ s) = head d (p + 1) n (x ∷ s) (rw (add-one p) hd.after) in
      let h3 : Head d (p + 2) x s = head d (p + 2) x s (rw (add-two p) (rw (add-one p) at h2.after)) in
      let l : p + 2 + 1 ≤ length d = omega (arith, h3.within) in
      let o : Op = record { place = base + length done * row; count = n; from = p + 2; step = 0 } in
      record {
        to = record { op_at = p + 2 + 1; item_at = c.item_at; line = length done + n; ops = c.ops ++ (o ∷ []) };
        reads =
            op_at_lem c a.op hd refl ∙ same_fill (bytewise row height planes) d base c (rw a.op h2.within)
            ∙ simp (a.op, h2.is, a.line, le-leb (length done + n) height h, le-leb (p + 2 + 1) (length d) l);
        at = record {
          op = omega arith;
          line = sym (length-append done (replicate n x) ∙ ap (λ (k : ℕ). length done + k) (length-replicate n x));
          makes =
              makes_more row height planes d first o a.makes v.0
              (put_same row d n (p + 2) (base + length done * row) (put_column f row base done) h3.within ∙ rw (h3.is, put_append f row base done (replicate n x)));
        };
      }

  -- the ops that are written for a column
  pub ops_are : (os : List WrittenOp) (c : Reading) (p : ℕ) (done s : List ℕ) → At c p done → Every Valid os → length done + reach_all os ≤ height → drop p d ≡ ops_bytes os ++ s
      → Goes (read_ops (bytewise row height planes) d base (length os) c) (p + length (ops_bytes os)) (done ++ passed_all os (drop (length done) col))
  unfolding read_ops ops_bytes reach_all passed_all
  ops_are [] c p done s a v h e = record { to = c; reads = refl; at = rw (append-nil done, add-zero p) a }
  ops_are (o ∷ os) c p done s a v h e =
      let e' : drop p d ≡ op_bytes o ++ (ops_bytes os ++ s) = e ∙ append_assoc (op_bytes o) (ops_bytes os) s in
      let more : List ℕ = done ++ passed o (drop (length done) col) in
      let l : length more ≡ length done + reach o = length-append done (passed o (drop (length done) col)) ∙ ap (λ (k : ℕ). length done + k) (length_passed o (drop (length done) col) (omega (arith, length-drop (length done) col, col_length))) in
      let t : drop (p + length (op_bytes o)) d ≡ ops_bytes os ++ s = sym (drop-drop (length (op_bytes o)) p d) ∙ ap (λ (x : List ℕ). drop (length (op_bytes o)) x) e' ∙ drop-append_seam (op_bytes o) (ops_bytes os ++ s) in
      let g = op_is o c p done (ops_bytes os ++ s) a (every_head v) (omega arith) e' in
      let g' = ops_are os g.to (p + length (op_bytes o)) more s g.at (every_tail v) (omega (arith, l)) t in
      record {
        to = g'.to;
        reads = rw g.reads g'.reads;
        at = moved g'.to g'.at (omega (arith, length-append (op_bytes o) (ops_bytes os))) (rest l);
      }
    where
      rest : length (done ++ passed o (drop (length done) col)) ≡ length done + reach o
          → done ++ passed o (drop (length done) col) ++ passed_all os (drop (length (done ++ passed o (drop (length done) col))) col)
          ≡ done ++ (passed o (drop (length done) col) ++ passed_all os (drop (reach o) (drop (length done) col)))
      rest l = rw (l, ← (drop-drop (reach o) (length done) col)) (append_assoc done (passed o (drop (length done) col)) (passed_all os (drop (reach o) (drop (length done) col))))
