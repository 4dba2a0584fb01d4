-- Laws of taking runs, one after the other: those that were read so far, with those that are left to read, come to the whole list.
use Prim.Native.Nat.{ℕ, suc, ◌+◌, ◌-◌, ◌<◌, ◌≤◌}
use native.Mathlib.Omega.{arith}
use mathlib.Core.Bool.{Bool, true, false, and-true}
use mathlib.Core.List.{List, [], ◌∷◌, ◌++◌, append_assoc, append-nil}
use mathlib.Core.Option.{Option, none, some}
use mathlib.Core.Path.{◌≡◌, refl, sym, ap, ◌∙◌}
use lib.ListN.{length, take, drop}
use lib.Seq.{drop-drop, sets}
use Rattle.laws.specs.Result.{◌>>?◌, pick}
use Rattle.laws.proofs.ResultLaws.{false_true, pick_both}
use Rattle.laws.proofs.StoreLaws.{wanted_length, length_part}
use Rattle.number.specs.Number.{read_number}
use Rattle.number.proofs.NumberLaws.{Found}
use Rattle.runs.specs.Runs.{Run, differ, all_differ, patch}
use Rattle.runs.proofs.AppendLaws.{reach, reach_more, differ_append, patch_more}
use Rattle.record.specs.RunList.{Runs, read_run, read_runs, read_list, runs_back}
use Rattle.restore.specs.Walk.{RunFound, RunTaken, Walked, Stopped}

-- what can't be read isn't taken
pub none_taken : {putting : Bool} {f f' : List ℕ} {whole : Option Runs} → whole ≡ none → (putting ≡ false → f' ≡ f) → Stopped f whole putting f'
none_taken e k = record { unread = λ p. e; bad = λ p. rw e; kept = k }

-- the number of runs at a place, and what follows from it
pub list_faulty : (bytes : List ℕ) (at size : ℕ) → read_number (drop at bytes) ≡ none → read_list size (drop at bytes) ≡ none
unfolding read_list
list_faulty bytes at size e = simp e

pub list_found : {bytes : List ℕ} {at value next : ℕ} (size : ℕ) → Found bytes at value next → read_list size (drop at bytes) ≡ read_runs value 0 size (drop next bytes)
unfolding read_list
list_found size g = simp g.is

-- runs in front of those that are read
abbrev pub in_front : List Run → Option Runs → Option Runs
in_front rs (some m) = some (record { runs = rs ++ m.runs; rest = m.rest })
in_front rs none = none

front_none : (x : Option Runs) → x ≡ in_front [] x
front_none none = refl
front_none (some m) = refl

front_more : (rs : List Run) (r : Run) (x : Option Runs) → in_front rs (x >>? λ m. some (record { runs = r ∷ m.runs; rest = m.rest })) ≡ in_front (rs ++ (r ∷ [])) x
front_more rs r none = refl
front_more rs r (some m) = rw (append_assoc rs (r ∷ []) m.runs)

front_run : (rs : List Run) (k least room : ℕ) (s t : List ℕ) (r : Run) → read_run least room s ≡ some (record { run = r; rest = t })
    → in_front rs (read_runs (suc k) least room s) ≡ in_front (rs ++ (r ∷ [])) (read_runs k 1 (room - (r.gap + length r.bytes)) t)
unfolding read_runs
front_run rs k least room s t r e = simp e (front_more rs r (read_runs k 1 (room - (r.gap + length r.bytes)) t))

-- runs of which some don't differ aren't put back, whatever follows
front_bad : (f : List ℕ) (rs : List Run) (x : Option Runs) → all_differ rs f ≡ false → in_front rs x >>? runs_back f ≡ none
unfolding runs_back
front_bad f rs none e = refl
front_bad f rs (some m) e = rw (differ_append rs m.runs f, e)

-- so far: the runs that were read, and the buffer f that f₀ has become
pub record Taking (putting : Bool) (bytes f₀ : List ℕ) (whole : Option Runs) (f : List ℕ) (at place least left : ℕ) : Type 0 where
  pub runs : List Run
  pub reached : place ≡ reach runs
  pub size : length f ≡ length f₀
  pub inside : place ≤ length f₀
  pub same : whole ≡ in_front runs (read_runs left least (length f₀ - place) (drop at bytes))
  pub good : putting ≡ false → all_differ runs f₀ ≡ true
  pub buffer : f ≡ pick putting (patch runs f₀) f₀

pub take_starts : (putting : Bool) {bytes f : List ℕ} {from count : ℕ} → Taking putting bytes f (read_runs count 0 (length f) (drop from bytes)) f from 0 0 count
unfolding reach all_differ
take_starts putting {f = f} =
    let z : length f - 0 ≡ length f = omega arith in
    record { runs = []; reached = refl; size = refl; inside = omega arith; same = rw z (front_none _); good = λ e. refl; buffer = pick_both (λ (g : List ℕ). f ≡ g) putting (unfold patch in refl) refl }

module _ {putting : Bool} {bytes f₀ f : List ℕ} {whole : Option Runs} {at place least left : ℕ} (w : Taking putting bytes f₀ whole f at place least left) where
  pub take_ends : left ≡ 0 → Walked f₀ whole putting (drop at bytes) f
  unfolding read_runs
  take_ends e = record { runs = w.runs; read = w.same ∙ rw (e, append-nil w.runs); good = w.good; left = w.buffer }

  kept_so_far : putting ≡ false → f ≡ f₀
  kept_so_far e = w.buffer ∙ rw e

  module _ (h : 0 < left) where
    more_left : left ≡ suc (left - 1)
    more_left = omega arith

    pub take_faulty : read_run least (length f - place) (drop at bytes) ≡ none → Stopped f₀ whole putting f
    unfolding read_runs
    take_faulty e = none_taken (w.same ∙ rw (more_left, ← w.size, e)) kept_so_far

    module _ {gap n start : ℕ} (a : RunFound bytes at least (length f - place) gap n start) where
      old : List ℕ
      old = take n (drop start bytes)

      next : Run
      next = record { gap = gap; bytes = old }

      old_length : length old ≡ n
      unfolding old
      old_length = length_part bytes start n (omega (arith, a.inside))

      next_in : place + gap + n ≤ length f₀
      next_in = omega (arith, a.fits, w.size, w.inside)

      -- the run that was found is the next of the list, and others follow
      abbrev others : Option Runs
      others = read_runs (left - 1) 1 (length f₀ - (place + gap + n)) (drop (start + n) bytes)

      read_more : whole ≡ in_front (w.runs ++ (next ∷ [])) others
      unfolding old next
      read_more =
          let room : length f - place - (gap + length old) ≡ length f₀ - (place + gap + n) = omega (arith, w.size, old_length) in
          (rw (more_left, ← w.size) at w.same) ∙ rw room at (front_run w.runs (left - 1) least (length f - place) (drop at bytes) (drop (start + n) bytes) next a.is)

      -- its bytes differ from those that they replace if they did so far and it does
      next_differ : putting ≡ false → all_differ (w.runs ++ (next ∷ [])) f₀ ≡ differ old (drop (place + gap) f₀)
      unfolding all_differ old next
      next_differ p = differ_append w.runs (next ∷ []) f₀ ∙ rw (w.good p, ← w.reached, drop-drop gap place f₀) (and-true _)

      module _ {r : Bool} {f' : List ℕ} (t : RunTaken f (place + gap) (take n (drop start bytes)) putting f' r) where
        differs_so : putting ≡ false → r ≡ differ (take n (drop start bytes)) (drop (place + gap) f₀)
        differs_so p = t.is ∙ rw (p, kept_so_far p)

        pub take_equal : r ≡ false → Stopped f₀ whole putting f'
        unfolding old
        take_equal e = record {
          unread = λ p. false_true (sym e ∙ t.is ∙ rw p);
          bad = λ p. rw read_more (front_bad f₀ (w.runs ++ (next ∷ [])) others (next_differ p ∙ sym (differs_so p) ∙ e));
          kept = λ p. t.left ∙ rw p (kept_so_far p);
        }

        pub take_more : r ≡ true → Taking putting bytes f₀ whole f' (start + n) (place + gap + n) 1 (left - 1)
        unfolding old next
        take_more e = record {
          runs = w.runs ++ (next ∷ []);
          reached = omega (arith, w.reached, reach_more w.runs next, old_length);
          size = ap length t.left ∙ wanted_length putting f (place + gap) old ∙ w.size;
          inside = next_in;
          same = read_more;
          good = λ p. next_differ p ∙ sym (differs_so p) ∙ e;
          buffer = t.left ∙ go putting w.buffer;
        }
          where
            go : (p : Bool) → f ≡ pick p (patch w.runs f₀) f₀ → pick p (sets f (place + gap) (take n (drop start bytes))) f ≡ pick p (patch (w.runs ++ (next ∷ [])) f₀) f₀
            go true q = rw q (sym (patch_more w.runs next f₀ (omega (arith, w.reached, next_in, old_length)) ∙ rw w.reached))
            go false q = q
