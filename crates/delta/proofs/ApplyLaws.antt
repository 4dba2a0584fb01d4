-- Laws of applying a delta: the order of its checks, and what the two walks come to.
use Prim.Native.Nat.{ℕ, ◌*◌}
use native.Mathlib.Nat.{div-add-mod'}
use native.Mathlib.Omega.{arith}
use mathlib.Core.Bool.{Bool, true, false}
use mathlib.Core.Path.{◌≡◌, refl, sym, ◌∙◌, ap}
use mathlib.Core.List.{List, []}
use lib.ListN.{length}
use borrow.Author.Tests.{eq-eqb}
use Rattle.laws.specs.Result.{Res.ok, Res.fault}
use Rattle.laws.proofs.ResultLaws.{false_true, never, made_of, made_refused}
use Rattle.refusal.specs.declared.Refusal.{Refusal}
use Rattle.state.specs.declared.Sizes.{Sizes}
use Rattle.state.specs.State.{row_bytes, frame_bytes, frame_length, Sound}
use Rattle.anhd.specs.declared.Items.{Items}
use Rattle.anhd.specs.declared.Items.TheVariants.{Bytes, Shorts, Longs, ShortWords, LongWords}
use Rattle.anhd.specs.Anhd.{columns_ok}
use Rattle.delta.specs.declared.Shape.{Shape}
use Rattle.delta.specs.declared.Cursor.{Cursor}
use Rattle.std.specs.Prelude.{Result, Ok, Err, IsOk}
use borrow.Author.Rules.{rules}
use Rattle.delta.specs.Reading.{bytes_in_plane, column_shape, word_shape, shape_of, Op, ops_in}
use Rattle.delta.specs.Delta.{read_picture, read_delta, draw, read_frame, new_frame, op_count, Applies}
use Rattle.delta.specs.Walk.{Width, Planes, top, Walked, Refused, Took, Passes, Checked}

one : Width 1
one = record { least = omega arith; most = omega arith; not_three = λ e. omega arith }

two : Width 2
two = record { least = omega arith; most = omega arith; not_three = λ e. omega arith }

four : Width 4
four = record { least = omega arith; most = omega arith; not_three = λ e. omega arith }

-- the planes of a picture whose sizes are within the limits: columns, and words
module _ {z : Sizes} {n m : ℕ} (s : Sound z m) (h : n ≡ m) where
  columns_sound : {w : ℕ} {inline : Bool} → Width w → Planes (column_shape z w inline) n
  unfolding frame_bytes
  columns_sound v =
      record {
        width = v;
        row_most = s.row_most;
        height_least = λ _. s.height_least;
        beside = λ e. false_true e;
        fits = omega arith;
        plane_most = s.plane_most;
        planes_most = s.planes_most;
        length = h ∙ s.length;
      }

  words_sound : {w : ℕ} → Width w → Planes (word_shape z w) n
  unfolding frame_bytes
  words_sound {w} v =
      record {
        width = v;
        row_most = omega (arith, v.most);
        height_least = λ e. false_true (sym e);
        beside = λ _. refl;
        fits = omega (arith, div-add-mod' (z.height * row_bytes z.width) w);
        plane_most = s.plane_most;
        planes_most = s.planes_most;
        length = h ∙ s.length;
      }

  shape_sound : (i : Items) → Planes (shape_of z i) n
  shape_sound Bytes = columns_sound one
  shape_sound Shorts = columns_sound two
  shape_sound Longs = columns_sound four
  shape_sound ShortWords = words_sound two
  shape_sound LongWords = words_sound four

plane_bytes_lem : (z : Sizes) (i : Items) → (shape_of z i).plane ≡ bytes_in_plane z
plane_bytes_lem z Bytes = refl
plane_bytes_lem z Shorts = refl
plane_bytes_lem z Longs = refl
plane_bytes_lem z ShortWords = refl
plane_bytes_lem z LongWords = refl

pub planes_sound : {S : Shape} {z : Sizes} {n m : ℕ} (i : Items) → S ≡ shape_of z i → Sound z m → n ≡ m → Planes S n
planes_sound i e s h = rw e (shape_sound s h i)

-- where the sizes and the two buffers pass, the delta decides
module _ (z : Sizes) (i : Items) (d : List ℕ) (m n : ℕ) where
  pub frame_delta : {l : ℕ} → frame_length z ≡ ok l → m ≡ l → n ≡ l → columns_ok i (row_bytes z.width) ≡ true → read_frame n m d z i ≡ read_delta (shape_of z i) d
  unfolding read_frame
  frame_delta {l} e h k w = rw (e, eq-eqb m l h, eq-eqb n l k, w)

module _ {z : Sizes} {i : Items} {d f w : List ℕ} where
  applies_fault : {k : ℕ} → read_frame (length w) (length f) d z i ≡ fault k → Applies w f d z i (fault k) w
  unfolding op_count new_frame
  applies_fault e = record { counts = rw e; leaves = rw e }

  applies_ok : {ops : List Op} → read_frame (length w) (length f) d z i ≡ ok ops → Applies w f d z i (ok (ops_in (shape_of z i) ops)) (draw (shape_of z i) d ops f)
  unfolding op_count new_frame
  applies_ok e = record { counts = rw e; leaves = rw e }

-- a delta that is checked
pub check_walked : (z : Sizes) (i : Items) (d w : List ℕ) (m : ℕ) (S : Shape) (g : List ℕ) (n : ℕ) (r : Result Cursor Refusal) → S ≡ shape_of z i → read_frame (length w) m d z i ≡ read_delta (shape_of z i) d → m ≡ length w
    → Planes (shape_of z i) (length w) → Took w S d (read_picture S d) top false g n r → Checked w m d z i g r
unfolding read_delta
check_walked z i d w m S g n (Ok c) e r s p t =
    let q : read_delta (shape_of z i) d ≡ ok t.new = rw (← e) (rw (t.same []) refl) in
    record { ops = t.new; read = q; frame = r ∙ q; counted = rw (← e) (omega (arith, t.counted)); same = s; planes = p; kept = t.drawn }
check_walked z i d w m S g n (Err why) e r s p t = (r ∙ rw (← e) (rw (t.same []) refl), t.kept refl)

-- a delta that passed
module _ {z : Sizes} {i : Items} {d w g : List ℕ} {m : ℕ} {c : Cursor} (p : Passes w m d z i g c) {S : Shape} (s : S ≡ shape_of z i) where
  -- the frame that is then drawn into has the work buffer's length
  pub planes_for : {n : ℕ} → n ≡ length g → Planes S n
  planes_for e = rw (s, e, p.kept) p.planes

  -- the second walk isn't refused
  pub never_refused : {A : Type 0} {h k : List ℕ} {l : ℕ} → Refused h (read_picture S d) top true k l → A
  unfolding read_delta
  never_refused {A} {h} {k} {l} u =
      let a : read_delta (shape_of z i) d ≡ fault l = rw (← s) (rw (u.same []) refl) in
      let b = p.read in
      never (cc)

  pub drawn_is : (r : Result Cursor Refusal) (h k : List ℕ) (n : ℕ) → Took h S d (read_picture S d) top true k n r → IsOk r
  drawn_is (Ok c) h k n t = search rules
  drawn_is (Err why) h k n t = never_refused t

  -- it draws what the first one read
  pub applies_drawn : {f h k : List ℕ} {n : ℕ} {b : Cursor} → m ≡ length f → h ≡ f → Walked h S d (read_picture S d) top true ok k n b → Applies w f d z i (ok b.ops) k
  unfolding read_delta
  applies_drawn {f} {h} {k} {n} {b} e l u =
      let a : read_delta (shape_of z i) d ≡ ok u.new = rw (← s) (rw (u.same []) refl) in
      let o : u.new ≡ p.ops = cc in
      let q : k ≡ draw (shape_of z i) d p.ops f = u.drawn ∙ rw (l, o, s) refl in
      let v : b.ops ≡ ops_in (shape_of z i) u.new = rw (← s) (omega (arith, u.counted)) in
      rw (q, v, o) (applies_ok (rw e at p.frame))

pub applies_refused : {z : Sizes} {i : Items} {d f w g : List ℕ} {m n : ℕ} → m ≡ length f → (read_frame (length w) m d z i ≡ fault n) × (g ≡ w) → Applies w f d z i (fault n) g
applies_refused e p = rw p.1 (applies_fault (rw e at p.0))

-- what was applied: why the delta is refused, or the ops that were read, their number and the frame that they make
module _ {z : Sizes} {i : Items} {d f w g : List ℕ} where
  pub read_refused : {n : ℕ} → Applies w f d z i (fault n) g → read_frame (length w) (length f) d z i ≡ fault n
  unfolding op_count
  read_refused p = made_refused (read_frame (length w) (length f) d z i) (ops_in (shape_of z i)) (sym p.counts)

  pub drawn_ops : {c : ℕ} → Applies w f d z i (ok c) g → (ops : List Op) × (read_frame (length w) (length f) d z i ≡ ok ops) × (c ≡ ops_in (shape_of z i) ops) × (g ≡ draw (shape_of z i) d ops f)
  unfolding op_count
  drawn_ops p =
      let k = made_of (read_frame (length w) (length f) d z i) (sym p.counts) in
      let q : Applies w f d z i (ok (ops_in (shape_of z i) k.0)) (draw (shape_of z i) d k.0 f) = applies_ok k.1 in
      (k.0, k.1, sym k.2, p.leaves ∙ sym q.leaves)

  pub new_refused : {n : ℕ} → Applies w f d z i (fault n) g → new_frame (length w) f d z i ≡ fault n
  unfolding new_frame
  new_refused p = rw (read_refused p)

  pub new_drawn : {c : ℕ} → Applies w f d z i (ok c) g → new_frame (length w) f d z i ≡ ok g
  unfolding new_frame
  new_drawn p = let k = drawn_ops p in rw k.1 (ap (λ (h : List ℕ). ok h) (sym k.3))
