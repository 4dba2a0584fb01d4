-- Laws of counting runs: a run ends at each changed byte that is the last, or has an unchanged one after it.
use Prim.Native.Nat.{ℕ, suc, ◌+◌, ◌<◌, ◌≤◌, min}
use native.Mathlib.Nat.{add-zero}
use native.Mathlib.Numerals.{add-one}
use native.Mathlib.Omega.{arith}
use mathlib.Core.Bool.{Bool, true, false, not, ◌&&◌}
use mathlib.Core.List.{List, [], ◌∷◌}
use mathlib.Core.Logic.{◌≢◌}
use mathlib.Core.Path.{◌≡◌, refl, sym, ap, ◌∙◌}
use mir.Val.{bool_byte}
use lib.Dec.{eqb}
use lib.ListN.{length, get_or, drop, drop_of_length-le}
use lib.Seq.{drop-cons}
use borrow.Author.Tests.{eq-eqb, ne_eqb, eqb-true, eqb-false}
use Rattle.laws.specs.Result.{pick}
use Rattle.runs.specs.Runs.{Run, kept, changed, runs_of, differing}
use Rattle.runs.specs.Front.{runs_at}
use Rattle.runs.proofs.RunLaws.{runs_end, kept_at, changed_at, changed_is, changed_joins}
use Rattle.runs.proofs.StretchLaws.{by_test}
use Rattle.runs.proofs.NextLaws.{changed_kept}
use Rattle.changes.specs.Count.{count, CountsBlock}
use Rattle.changes.specs.declared.Counts.{Counts}

byte_small : (t : Bool) → bool_byte t ≤ 1
byte_small true = omega arith
byte_small false = omega arith

-- the same as an equation, which a proof can use without naming the test
pub byte_most : (t : Bool) → bool_byte t ≡ min (bool_byte t) 1
byte_most t = omega (arith, byte_small t)

-- how many runs there are with one element more in front
pub count_kept : (rs : List Run) → length (kept rs) ≡ length rs
unfolding kept
count_kept [] = refl
count_kept (r ∷ rs) = refl

count_begins : (a : ℕ) (rs : List Run) → length (changed a (kept rs)) ≡ 1 + length (kept rs)
count_begins a rs = rw (changed_kept a rs) (omega arith)

count_joins : (a b : ℕ) (rs : List Run) → length (changed a (changed b rs)) ≡ length (changed b rs)
count_joins a b rs = rw (changed_is b rs, changed_joins a _ _ (eq-eqb 0 0 refl))

picked : (t : Bool) (d : ℕ) → pick t d (suc d) ≡ bool_byte (not t) + d
picked true d = omega arith
picked false d = omega arith

pub differing_short : (old new : List ℕ) → differing old new ≤ length old
unfolding differing
differing_short [] new = omega arith
differing_short (a ∷ old) [] = omega arith
differing_short (a ∷ old) (b ∷ new) = omega (arith, picked (eqb a b) (differing old new), byte_small (not (eqb a b)), differing_short old new)

-- what one place adds
module _ (old new : List ℕ) (l : length old ≡ length new) (i : ℕ) where
  runs_step : i + 1 < length old
      → length (runs_at old new i) ≡ bool_byte (not (eqb (get_or old i 0) (get_or new i 0)) && eqb (get_or old (i + 1) 0) (get_or new (i + 1) 0)) + length (runs_at old new (i + 1))
  runs_step h =
      by_test true (eqb (get_or old i 0) (get_or new i 0))
      (λ e. rw (e, kept_at old new i (omega arith) (sym l) (eqb-true _ _ e)) (count_kept (runs_at old new (i + 1)) ∙ omega arith))
      (λ e. by_test true (eqb (get_or old (i + 1) 0) (get_or new (i + 1) 0))
      (λ f. rw (e, f, changed_at old new i (omega arith) (sym l) (eqb-false _ _ e), kept_at old new (i + 1) h (sym l) (eqb-true _ _ f)) (count_begins _ _))
      (λ f. rw (e, f, changed_at old new i (omega arith) (sym l) (eqb-false _ _ e), changed_at old new (i + 1) h (sym l) (eqb-false _ _ f)) (count_joins _ _ _ ∙ omega arith)))

  differing_step : i < length old → differing (drop i old) (drop i new) ≡ bool_byte (not (eqb (get_or old i 0) (get_or new i 0))) + differing (drop (i + 1) old) (drop (i + 1) new)
  unfolding differing
  differing_step h = rw (drop-cons old i 0 h, drop-cons new i 0 (omega arith), add-one i) (picked (eqb (get_or old i 0) (get_or new i 0)) (differing (drop (suc i) old) (drop (suc i) new)))

-- the turns of a count
pub count_starts : (old new : List ℕ) (at : ℕ) → CountsBlock old new at at 0 0
count_starts old new at = record { runs = omega arith; bytes = omega arith; few_runs = omega arith; few_bytes = omega arith }

pub count_then : {old new : List ℕ} {from i to ends changed ends' changed' : ℕ} → CountsBlock old new from i ends changed → CountsBlock old new i to ends' changed'
    → CountsBlock old new from to (ends + ends') (changed + changed')
count_then c d = record {
  runs = omega (arith, c.runs, d.runs);
  bytes = omega (arith, c.bytes, d.bytes);
  few_runs = omega (arith, c.few_runs, d.few_runs);
  few_bytes = omega (arith, c.few_bytes, d.few_bytes);
}

pub count_byte : (old new : List ℕ) (i : ℕ) → length old ≡ length new → i + 1 < length old
    → CountsBlock old new i (i + 1) (bool_byte (not (eqb (get_or old i 0) (get_or new i 0)) && eqb (get_or old (i + 1) 0) (get_or new (i + 1) 0))) (bool_byte (not (eqb (get_or old i 0) (get_or new i 0))))
unfolding runs_at
count_byte old new i l h = record {
  runs = sym (runs_step old new l i h);
  bytes = sym (differing_step old new l i (omega arith));
  few_runs = omega (arith, byte_small (not (eqb (get_or old i 0) (get_or new i 0)) && eqb (get_or old (i + 1) 0) (get_or new (i + 1) 0)));
  few_bytes = omega (arith, byte_small (not (eqb (get_or old i 0) (get_or new i 0))));
}

-- the last byte
module _ (old new : List ℕ) (i : ℕ) (l : length old ≡ length new) (h : i + 1 ≡ length old) where
  none_left : length (runs_at old new (i + 1)) ≡ 0
  none_left = rw (runs_end old new (i + 1) (omega arith))

  last_kept : get_or old i 0 ≡ get_or new i 0 → CountsBlock old new i (i + 1) 0 0
  unfolding runs_at
  last_kept e = record {
    runs = omega (arith, ap length (kept_at old new i (omega arith) (sym l) e), count_kept (runs_at old new (i + 1)));
    bytes = omega (arith, rw (eq-eqb _ _ e) at (differing_step old new l i (omega arith)));
    few_runs = omega arith;
    few_bytes = omega arith;
  }

  one_left : get_or old i 0 ≢ get_or new i 0 → length (runs_at old new i) ≡ 1
  unfolding changed
  one_left e = rw (changed_at old new i (omega arith) (sym l) e, runs_end old new (i + 1) (omega arith), changed)

  last_changed : get_or old i 0 ≢ get_or new i 0 → CountsBlock old new i (i + 1) 1 1
  unfolding runs_at
  last_changed e = record {
    runs = omega (arith, none_left, one_left e);
    bytes = omega (arith, rw (ne_eqb _ _ e) at (differing_step old new l i (omega arith)));
    few_runs = omega arith;
    few_bytes = omega arith;
  }

-- what the whole comes to
pub count_two : (old new : List ℕ) → length old ≢ length new → record { runs = 0; changed = 0 } ≡ count old new
unfolding count
count_two old new h = simp (ne_eqb _ _ h)

count_all : (old new : List ℕ) (runs changed : ℕ) → length old ≡ length new → CountsBlock old new 0 (length old) runs changed → record { runs = runs; changed = changed } ≡ count old new
unfolding count runs_at differing
count_all old new runs changed l c =
    let n : length (runs_at old new (length old)) ≡ 0 = rw (runs_end old new (length old) (omega arith)) in
    let d : differing (drop (length old) old) (drop (length old) new) ≡ 0 = rw (drop_of_length-le old {i = length old} (omega arith), differing) in
    let p : runs ≡ length (runs_of old new) = omega (arith, c.runs, n) in
    let q : changed ≡ differing old new = omega (arith, c.bytes, d) in
    simp (eq-eqb _ _ l, p, q)

module _ {old new : List ℕ} {i runs changed : ℕ} (c : CountsBlock old new 0 i runs changed) (l : length old ≡ length new) (h : i + 1 ≡ length old) where
  pub all_kept : get_or old i 0 ≡ get_or new i 0 → record { runs = runs; changed = changed } ≡ count old new
  all_kept e = count_all old new runs changed l (simp add-zero at (rw h at (count_then c (last_kept old new i l h e))))

  pub all_changed : get_or old i 0 ≢ get_or new i 0 → record { runs = runs + 1; changed = changed + 1 } ≡ count old new
  all_changed e = count_all old new (runs + 1) (changed + 1) l (rw h at (count_then c (last_changed old new i l h e)))

pub count_none : (old new : List ℕ) → length old ≡ length new → length old ≡ 0 → record { runs = 0; changed = 0 } ≡ count old new
count_none old new l e = count_all old new 0 0 l (rw e (count_starts old new 0))

-- what the count of two lists of one length tells
module _ (old new : List ℕ) {c : Counts} (l : length old ≡ length new) (e : c ≡ count old new) where
  told : c ≡ record { runs = length (runs_of old new); changed = differing old new }
  unfolding count
  told = e ∙ simp (eq-eqb (length old) (length new) l)

  pub runs_counted : c.runs ≡ length (runs_of old new)
  runs_counted = ap (λ (x : Counts). x.runs) told

  pub changed_counted : c.changed ≡ differing old new
  changed_counted = ap (λ (x : Counts). x.changed) told
