-- Laws of one op: its rows and items lie within the frame and the delta, and what it reads and draws.
use Prim.Native.Nat.{ℕ, ◌+◌, ◌-◌, ◌*◌, ◌<◌, ◌≤◌}
use native.Mathlib.Nat.{mul-le-mul_right, mul-le-mul_left, div-add-mod'}
use native.Mathlib.Omega.{arith}
use mathlib.Core.Bool.{Bool, true}
use mathlib.Core.Path.{◌≡◌, refl, ◌∙◌}
use mathlib.Core.List.{List, [], ◌∷◌}
use Rattle.laws.specs.Result.{Res, pick}
use Rattle.laws.proofs.ResultLaws.{pick_both}
use Rattle.delta.specs.declared.Shape.{Shape}
use Rattle.delta.specs.declared.Cursor.{Cursor}
use Rattle.delta.specs.declared.Taken.{Taken}
use Rattle.delta.specs.declared.Taken.TheVariants.{Rows, Passed}
use Rattle.std.specs.Prelude.{Result, Ok, Err}
use Rattle.refusal.specs.declared.Refusal.{Refusal}
use Rattle.delta.specs.Reading.{columns_in, Op, Reading}
use Rattle.delta.specs.Column.{no_rows}
use Rattle.delta.specs.Delta.{put, draw}
use Rattle.delta.specs.Walk.{Inside, Down, Column, Columns, Planes, reading, OpRead, Lies, Drawn, Took}
use Rattle.delta.proofs.WalkLaws.{pick_same}

-- rows from a line on
pub rows_inside : {S : Shape} {n base : ℕ} → Column S n base → (line count : ℕ) → line + count ≤ S.height → Down S n (base + line * S.row) count
rows_inside {S} v line count h = record { rows = record { lies = λ k l. omega (arith, v.rows.lies (line + k) (omega arith)) }; below = omega (arith, v.below, mul-le-mul_right S.row h) }

-- items one after the other
pub run_inside : {n start step w count : ℕ} → Inside n start step w count → step ≡ w → 1 < count → start + count * w ≤ n
run_inside {n} {start} {step} {w} {count} v e h =
    let k : count ≡ count - 1 + 1 = omega arith in
    let l = v.lies (count - 1) (omega arith) in
    rw k (omega (arith, rw e at l))

-- the columns of a plane
pub plane_inside : {S : Shape} {n : ℕ} → Planes S n → (p : ℕ) → p < S.planes → Columns S n (p * S.plane) (columns_in S)
plane_inside {S} {n} v p h =
    record {
      column = λ j b. record {
        rows = record {
          lies = λ i l.
              omega (arith, v.length, v.fits, mul-le-mul_right S.item b, div-add-mod' S.row S.item, mul-le-mul_right S.row l, mul-le-mul_right S.plane h);
        };
        below = omega (arith, v.row_most, v.plane_most, v.fits, mul-le-mul_right S.item b, div-add-mod' S.row S.item, mul-le-mul_right S.plane h, mul-le-mul_right S.plane v.planes_most);
      };
    }

-- the words of a plane
pub words_inside : {S : Shape} {n : ℕ} → Planes S n → S.words ≡ true → (p : ℕ) → p < S.planes → Column S n (p * S.plane)
words_inside {S} {n} v e p h =
    record {
      rows = record { lies = λ i l. omega (arith, v.length, v.beside e, v.fits, mul-le-mul_right S.row l, mul-le-mul_right S.plane h) };
      below = omega (arith, v.plane_most, v.fits, mul-le-mul_right S.plane h, mul-le-mul_right S.plane v.planes_most);
    }

pub columns_most : {S : Shape} {n : ℕ} → Planes S n → columns_in S ≤ 128
columns_most {S} v = omega (arith, v.row_most, div-add-mod' S.row S.item, mul-le-mul_left (columns_in S) v.width.least)

-- a Same or a Uniq
pub pick_most : (t : Bool) (a b n : ℕ) → a ≤ n → b ≤ n → pick t a b ≤ n
pick_most t a b n h k = pick_both (λ (m : ℕ). m ≤ n) t h k

-- an op that was read, which counts as k
module _ (S : Shape) (d : List ℕ) (k : ℕ) (whole : ℕ → Reading → Res Reading) (c : Cursor) where
  -- the same op by another name of its definition
  pub read_as : (whole' : ℕ → Reading → Res Reading) (r : Result Taken Refusal) → OpRead S d k whole' c r → ((base : ℕ) (ops : List Op) → whole base (reading c ops) ≡ whole' base (reading c ops)) → OpRead S d k whole c r
  read_as whole' (Ok (Rows line from step n next)) w e = record { same = λ base ops. e base ops ∙ w.same base ops; rows = w.rows; items = w.items; moved = w.moved }
  read_as whole' (Ok (Passed next)) w e = record { same = λ base ops. e base ops ∙ w.same base ops; moved = w.moved }
  read_as whole' (Err why) w e = λ base ops. e base ops ∙ w base ops

  -- its rows lie in its column, and its items in the delta
  pub op_lies : (t : Taken) → OpRead S d k whole c (Ok t) → Lies S d t
  op_lies (Rows line from step n next) w = (w.rows, w.items)
  op_lies (Passed next) w = tt

  -- drawn if drawing is set; nothing is drawn of one that is refused
  pub op_walked : k ≡ pick S.words 0 1 → (drawing : Bool) (f : List ℕ) (base : ℕ) {g : List ℕ} (t : Taken) {next : Cursor} → OpRead S d k whole c (Ok t) → Drawn f S d base t drawing g next
      → Took f S d (whole base) c drawing g k (Ok next)
  unfolding draw put
  op_walked e drawing f base (Rows line from step n next) w (p, q) =
      rw p
      (record {
        new = record { place = base + line * S.row; count = n; from = from; step = step } ∷ [];
        same = w.same base;
        drawn = q;
        counted = omega (arith, w.moved.counted, e);
        few = omega (arith, e);
        line = w.moved.line;
        item = w.moved.item;
      })
  op_walked e drawing f base (Passed next) w (p, q) =
      rw p
      (record {
        new = no_rows ∷ [];
        same = w.same base;
        drawn = q ∙ pick_same drawing f;
        counted = omega (arith, w.moved.counted, e);
        few = omega (arith, e);
        line = w.moved.line;
        item = w.moved.item;
      })

  pub op_refused : (why : Refusal) → OpRead S d k whole c (Err why) → (drawing : Bool) (f : List ℕ) (base : ℕ) → Took f S d (whole base) c drawing f k (Err why)
  op_refused why w drawing f base = record { same = w base; kept = λ _. refl }
