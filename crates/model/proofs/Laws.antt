-- Laws that the demands are proved from: a delta keeps the pictures' length, its ops are counted by the method, parity alternates, and what
-- a step that met its contract hands on.
use Prim.Native.Nat.{ℕ, zero, suc, ◌%◌}
use native.Mathlib.Omega.{arith}
use mathlib.Core.Bool.{Bool, not}
use mathlib.Core.List.{List, ◌++◌}
use mathlib.Core.Option.{some}
use mathlib.Core.Path.{◌≡◌, refl, ap, ◌∙◌}
use lib.Dec.{eqb}
use lib.ListN.{length, drop}
use borrow.Author.Tests.{eq-eqb, ne_eqb}
use Rattle.laws.specs.Result.{Res.ok, pick}
use Rattle.laws.proofs.ResultLaws.{Each.each, each_any, each_is, pick_both}
use Rattle.anhd.specs.declared.Items.{Items}
use Rattle.delta.specs.Reading.{shape_of, Op, ops_in}
use Rattle.delta.specs.Delta.{read_delta}
use Rattle.delta.proofs.DeltaLaws.{draw_length}
use Rattle.delta.proofs.CountLaws.{words_method}
use Rattle.frame.specs.Frame.{Frame, frame_at}
use Rattle.frame.proofs.FrameLaws.{frame_items}
use Rattle.state.specs.declared.Sizes.{Sizes}
use Rattle.state.specs.World.{is_odd}
use Rattle.state.specs.After.{After, Lent, work_after, lent_after}
use Rattle.state.specs.Film.{Film}
use Rattle.step_on.specs.declared.SteppedOn.{SteppedOn}
use Rattle.step_on.specs.Step.{LeavesOn}
use Rattle.model.specs.Model.{named, built, ops_counted}

-- what a frame's delta makes of two pictures of one length has that length too
pub built_length : (F : Film) (x : Frame) (one two g : List ℕ) {n : ℕ} → length one ≡ n → length two ≡ n → built F x one two ≡ ok g → length g ≡ n
unfolding built
built_length F x one two g {n} p q e =
    each_is {P = λ (l : List ℕ). length l ≡ n} e
    (each_any (read_delta (shape_of F.sizes x.header.items) x.dlta) λ ops.
    each (draw_length (shape_of F.sizes x.header.items) x.dlta ops (named x one two) ∙ pick_both (λ (l : List ℕ). length l ≡ n) (eqb x.header.interleave 1) p q))

-- the ops that are reported, by the shape of the lists and by the frame's method
pub ops_same : (s : List ℕ) (B at : ℕ) (x : Frame) → frame_at s at B ≡ ok (some x) → (z : Sizes) (ops : List Op) → ops_in (shape_of z x.header.items) ops ≡ ops_counted x ops
ops_same s B at x e z ops =
    let k = frame_items s B at x e in
    ap (λ (t : Bool). pick t 0 (length ops)) (ap (λ (i : Items). (shape_of z i).words) k.1 ∙ words_method z x.header.method k.0)

pub odd_suc : (n : ℕ) → is_odd (suc n) ≡ not (is_odd n)
unfolding is_odd
odd_suc n = go (n % 2) refl
  where
    go : (r : ℕ) → n % 2 ≡ r → eqb (suc n % 2) 1 ≡ not (eqb (n % 2) 1)
    go zero e = rw (e, eq-eqb (suc n % 2) 1 (omega arith))
    go (suc zero) e = rw (e, ne_eqb (suc n % 2) 1 (λ h. omega arith))
    go (suc (suc r)) e = absurd (omega arith)

-- what a step on that met its contract leaves
module _ {o : After} {l : Lent} {r : SteppedOn} {l' : Lent} (m : LeavesOn o l r l') where
  pub on_world : l'.world ≡ o.world
  unfolding lent_after
  on_world = ap (λ (k : Lent). k.world) m.left

  pub on_work : l'.work ≡ work_after l.work o.work
  unfolding lent_after
  on_work = ap (λ (k : Lent). k.work) m.left

  pub on_rec : l'.rec ≡ o.bytes ++ drop (length o.bytes) l.rec
  unfolding lent_after
  on_rec = ap (λ (k : Lent). k.rec) m.left
