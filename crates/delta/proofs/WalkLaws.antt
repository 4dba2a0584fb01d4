-- Laws of a walk through a delta: where it begins, how it goes on, where it ends and where it is refused.
use Prim.Native.Nat.{ℕ, ◌+◌, ◌≤◌}
use native.Mathlib.Omega.{arith}
use mathlib.Core.Bool.{Bool, true, false}
use mathlib.Core.Path.{◌≡◌, refl, ◌∙◌}
use mathlib.Core.List.{List, [], ◌++◌, append-nil, append_assoc}
use lib.ListN.{length, length-append}
use Rattle.laws.specs.Result.{Res, Res.ok, Res.fault, ◌>>=◌, pick}
use Rattle.laws.proofs.ResultLaws.{pick_both}
use Rattle.refusal.specs.declared.Refusal.{Refusal}
use Rattle.delta.specs.declared.Shape.{Shape}
use Rattle.delta.specs.declared.Cursor.{Cursor}
use Rattle.std.specs.Prelude.{Result, Ok, Err}
use Rattle.delta.specs.Reading.{Op, Reading}
use Rattle.delta.specs.Delta.{draw}
use Rattle.delta.specs.Walk.{reading, Walked, Refused, Took}
use Rattle.delta.proofs.DeltaLaws.{draw_append}

pub pick_same : (t : Bool) (f : List ℕ) → f ≡ pick t f f
pick_same t f = pick_both (λ (g : List ℕ). f ≡ g) t refl refl

-- how many ops there are
pub in_none : (t : Bool) → pick t 0 (length {A = Op} []) ≡ 0
in_none t = pick_both (λ (n : ℕ). n ≡ 0) t refl refl

pub in_more : (t : Bool) (xs ys : List Op) → pick t 0 (length (xs ++ ys)) ≡ pick t 0 (length xs) + pick t 0 (length ys)
in_more true xs ys = refl
in_more false xs ys = length-append xs ys

-- what is drawn after what was drawn
pick_more : (S : Shape) (d : List ℕ) (t : Bool) (xs ys : List Op) (f g h : List ℕ) → g ≡ pick t (draw S d xs f) f → h ≡ pick t (draw S d ys g) g → h ≡ pick t (draw S d (xs ++ ys) f) f
pick_more S d true xs ys f g h p q = q ∙ rw (p, draw_append S d xs ys f)
pick_more S d false xs ys f g h p q = q ∙ p

module _ {S : Shape} {d : List ℕ} {drawing : Bool} {f : List ℕ} {whole : Reading → Res Reading} {c₀ : Cursor} where
  -- nothing is read yet
  pub walked_none : {rest : Reading → Res Reading} {c : Cursor} → ((ops : List Op) → whole (reading c₀ ops) ≡ rest (reading c ops)) → c.ops ≡ c₀.ops → c.line ≤ S.height → c.item ≤ length d
      → (most : ℕ) → Walked f S d whole c₀ drawing rest f most c
  unfolding draw
  walked_none {rest} {c} e o l i most = record {
    new = [];
    same = λ ops. e ops ∙ rw (append-nil ops);
    drawn = pick_same drawing f;
    counted = omega (arith, o, in_none S.words);
    few = omega (arith, in_none S.words);
    line = l;
    item = i;
  }

  -- a step more
  pub walked_more : {rest : Reading → Res Reading} {g : List ℕ} {m : ℕ} {c : Cursor} → Walked f S d whole c₀ drawing rest g m c
      → {step rest' : Reading → Res Reading} {h : List ℕ} {k : ℕ} {c' : Cursor} → Walked g S d step c drawing ok h k c'
      → ((ops : List Op) → rest (reading c ops) ≡ step (reading c ops) >>= rest') → {m' : ℕ} → m + k ≤ m' → Walked f S d whole c₀ drawing rest' h m' c'
  walked_more {rest} {g} {m} {c} w {step} {rest'} {h} {k} {c'} t e {m'} b = record {
    new = w.new ++ t.new;
    same = λ ops. w.same ops ∙ e (ops ++ w.new) ∙ rw (t.same (ops ++ w.new), append_assoc ops w.new t.new);
    drawn = pick_more S d drawing w.new t.new f g h w.drawn t.drawn;
    counted = omega (arith, w.counted, t.counted, in_more S.words w.new t.new);
    few = omega (arith, w.few, t.few, in_more S.words w.new t.new);
    line = t.line;
    item = t.item;
  }

  -- a step that is refused
  pub walked_refused : {rest : Reading → Res Reading} {g : List ℕ} {m : ℕ} {c : Cursor} → Walked f S d whole c₀ drawing rest g m c
      → {step : Reading → Res Reading} {h : List ℕ} {n : ℕ} → Refused g step c drawing h n
      → (rest' : Reading → Res Reading) → ((ops : List Op) → rest (reading c ops) ≡ step (reading c ops) >>= rest') → Refused f whole c₀ drawing h n
  walked_refused {rest} {g} {m} {c} w {step} {h} {n} t rest' e = record {
    same = λ ops. w.same ops ∙ e (ops ++ w.new) ∙ rw (t.same (ops ++ w.new));
    kept = λ b. t.kept b ∙ w.drawn ∙ rw b;
  }

  -- what is left is refused
  pub walked_fault : {rest : Reading → Res Reading} {g : List ℕ} {m : ℕ} {c : Cursor} → Walked f S d whole c₀ drawing rest g m c → {n : ℕ} → ((ops : List Op) → rest (reading c ops) ≡ fault n)
      → Refused f whole c₀ drawing g n
  walked_fault w e = record { same = λ ops. w.same ops ∙ e (ops ++ w.new); kept = λ b. w.drawn ∙ rw b }

  -- nothing is left
  pub walked_all : {rest : Reading → Res Reading} {g : List ℕ} {m : ℕ} {c : Cursor} → Walked f S d whole c₀ drawing rest g m c → ((ops : List Op) → rest (reading c ops) ≡ ok (reading c ops)) → {m' : ℕ} → m ≤ m'
      → Walked f S d whole c₀ drawing ok g m' c
  walked_all {c = c} w e b = record { new = w.new; same = λ ops. w.same ops ∙ e (ops ++ w.new); drawn = w.drawn; counted = w.counted; few = omega (arith, w.few); line = w.line; item = w.item }

-- the same step by another name of its definition
pub took_as : (S : Shape) (d : List ℕ) (drawing : Bool) (f : List ℕ) (whole whole' : Reading → Res Reading) (c₀ c₁ : Cursor) (g : List ℕ) (m m' : ℕ) (r : Result Cursor Refusal) → Took f S d whole' c₁ drawing g m' r
    → ((ops : List Op) → whole (reading c₀ ops) ≡ whole' (reading c₁ ops)) → c₁.ops ≡ c₀.ops → m' ≤ m → Took f S d whole c₀ drawing g m r
took_as S d drawing f whole whole' c₀ c₁ g m m' (Ok c) w e o b = record { new = w.new; same = λ ops. e ops ∙ w.same ops; drawn = w.drawn; counted = omega (arith, w.counted, o); few = omega (arith, w.few); line = w.line; item = w.item }
took_as S d drawing f whole whole' c₀ c₁ g m m' (Err why) w e o b = record { same = λ ops. e ops ∙ w.same ops; kept = w.kept }
