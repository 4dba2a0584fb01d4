-- Laws of a list of words: it is its first op and the rest, where it ends, and what one op reads.
use Prim.Native.Nat.{ℕ, ◌+◌, ◌-◌, ◌*◌, ◌<◌, ◌≤◌}
use native.Mathlib.Omega.{arith}
use mathlib.Core.List.{List, []}
use mathlib.Core.Bool.{Bool}
use mathlib.Core.Path.{◌≡◌, refl, sym, ◌∙◌}
use lib.Dec.{leb, ltb, eqb}
use lib.ListN.{length}
use borrow.Author.Tests.{le-leb, lt-leb, eq-eqb, ne_eqb, leb-true}
use Rattle.laws.specs.Result.{Res, Res.ok, Res.fault, ◌>>=◌, pick}
use Rattle.laws.proofs.ResultLaws.{Each, Each.each, each_is, each_any, each_need, each_pick}
use Rattle.laws.specs.Loop.{Step.next, Step.done}
use Rattle.laws.proofs.LoopLaws.{starts, stops, Comes, Comes.comes_next, Comes.comes_done, comes_pick, iterate_next}
use Rattle.laws.specs.Bytes.{be16}
use Rattle.delta.specs.declared.Shape.{Shape}
use Rattle.delta.specs.declared.Cursor.{Cursor}
use Rattle.delta.specs.Reading.{Reading, pair_at}
use Rattle.delta.specs.Words.{word_run, move_of, word_op, past_op, offset_on, word_step, read_words}
use Rattle.delta.specs.Walk.{reading, Walked}

-- an op goes on in the list
record Onward (d : List ℕ) (c next : Reading) : Type 0 where
  onward : c.op_at < next.op_at
  inside : next.op_at ≤ length d

run_onward : (S : Shape) (d : List ℕ) (base : ℕ) (c : Reading) (k p n : ℕ) → c.op_at < p → Each (Onward d c) (word_run S d base c k p n)
unfolding word_run
run_onward S d base c k p n h =
    each_need (leb (k + n) S.height) 45 _ λ _. each_need (leb (p + n * S.item) (length d)) 42 _ λ e.
    each (record { onward = omega arith; inside = leb-true (p + n * S.item) (length d) e })

op_onward : (S : Shape) (d : List ℕ) (base : ℕ) (c : Reading) (x : ℕ) → Each (Onward d c) (word_op S d base c x)
unfolding word_op
op_onward S d base c x =
    each_need (ltb (c.line + move_of x) S.height) 45 _ λ _.
    each_pick (ltb x 32768) (λ _. run_onward S d base c (c.line + move_of x) (c.op_at + 2) 1 (omega arith))
    (λ _. each_any (pair_at d (c.op_at + 2)) λ n. run_onward S d base c (c.line + move_of x) (c.op_at + 4) n (omega arith))

-- where an op that was read has come to
pub word_further : (S : Shape) (d : List ℕ) (base x : ℕ) (c : Cursor) {drawing : Bool} {f g : List ℕ} {next : Cursor} → Walked f S d (λ y. word_op S d base y x) c drawing ok g 0 next → (c.op < next.op) × (next.op ≤ length d)
word_further S d base x c w = let o = each_is (w.same []) (op_onward S d base (reading c []) x) in (o.onward, o.inside)

-- a list of words is its first op and the rest
module _ (S : Shape) (d : List ℕ) (base : ℕ) where
  step_falls : (c : Reading) → Comes (λ (next : Reading). length d - next.op_at < length d - c.op_at) (λ (r : Res Reading). Unit {0}) (word_step S d base c)
  step_falls c = go (pair_at d c.op_at)
    where
      past : (r : Res Reading) → Each (Onward d c) r → Comes (λ (next : Reading). length d - next.op_at < length d - c.op_at) (λ (r : Res Reading). Unit {0}) (past_op r)
      past (ok x) (each o) = comes_next {t = x} (omega (arith, o.onward, o.inside))
      past (fault n) o = comes_done tt

      go : (r : Res ℕ) → Comes (λ (next : Reading). length d - next.op_at < length d - c.op_at) (λ (r : Res Reading). Unit {0}) (offset_on S d base c r)
      go (ok x) = comes_pick (eqb x 65535) (λ _. comes_done tt) (λ _. past (word_op S d base c x) (op_onward S d base c x))
      go (fault n) = comes_done tt

  words_next : (c x : Reading) → word_step S d base c ≡ next x → read_words S d base c ≡ read_words S d base x
  unfolding read_words
  words_next c x e = iterate_next (word_step S d base) (λ r. length d - r.op_at) (fault 42) step_falls e

  words_done : (c : Reading) (r : Res Reading) → word_step S d base c ≡ done r → read_words S d base c ≡ r
  unfolding read_words
  words_done c r e = sym (stops (starts refl) e)

  module _ (c : Reading) where
    pub words_none : length d < c.op_at + 2 → read_words S d base c ≡ fault 42
    unfolding pair_at
    words_none h = words_done c (fault 42) (simp (lt-leb _ _ h))

    module _ (h : c.op_at + 2 ≤ length d) {x : ℕ} (e : x ≡ be16 d c.op_at) where
      step_is : word_step S d base c ≡ pick (eqb x 65535) (done (ok c)) (past_op (word_op S d base c x))
      unfolding pair_at
      step_is = rw (le-leb _ _ h, ← e) refl

      pub words_end : x ≡ 65535 → read_words S d base c ≡ ok c
      words_end q = words_done c (ok c) (step_is ∙ rw (eq-eqb x 65535 q) refl)

      pub words_more : (x ≡ 65535 → ⊥) → read_words S d base c ≡ word_op S d base c x >>= read_words S d base
      words_more q = go (word_op S d base c x) (step_is ∙ rw (ne_eqb x 65535 q) refl)
        where
          go : (r : Res Reading) → word_step S d base c ≡ past_op r → read_words S d base c ≡ r >>= read_words S d base
          go (ok y) p = words_next c y p
          go (fault n) p = words_done c (fault n) p
