-- Laws of reading the next run of a record, test by test.
use Prim.Native.Nat.{ℕ, ◌+◌, ◌-◌, ◌<◌, ◌≤◌}
use native.Mathlib.Numerals.{add-one}
use native.Mathlib.Omega.{arith}
use mathlib.Core.Bool.{true, false}
use mathlib.Core.List.{List}
use mathlib.Core.Option.{none}
use mathlib.Core.Path.{◌≡◌, sym}
use lib.Dec.{eqb, leb, ltb}
use lib.ListN.{length, get_or, take, drop, length-drop}
use lib.Seq.{drop-drop, get_or-drop}
use borrow.Author.Tests.{le-leb, lt-leb, lt-ltb}
use Rattle.laws.proofs.ResultLaws.{given_none}
use Rattle.number.specs.Number.{read_number}
use Rattle.number.proofs.NumberLaws.{Found}
use Rattle.runs.proofs.DifferLaws.{differ_on, differ_off}
use Rattle.runs.specs.Runs.{differ}
use Rattle.record.specs.RunList.{read_run}
use Rattle.restore.specs.Walk.{RunFound}

module _ (bytes : List ℕ) (at least room : ℕ) where
  pub no_gap : read_number (drop at bytes) ≡ none → read_run least room (drop at bytes) ≡ none
  unfolding read_run
  no_gap e = simp e

  module _ {gap next : ℕ} (g : Found bytes at gap next) where
    pub short_gap : gap < least → read_run least room (drop at bytes) ≡ none
    unfolding read_run
    short_gap h = simp (g.is, lt-leb _ _ h)

    pub no_count : read_number (drop next bytes) ≡ none → read_run least room (drop at bytes) ≡ none
    unfolding read_run
    no_count e = rw g.is (given_none (leb least gap) _ (simp e))

    module _ {count start : ℕ} (n : Found bytes next count start) where
      pub count_of_none : count ≡ 0 → read_run least room (drop at bytes) ≡ none
      unfolding read_run
      count_of_none e = rw g.is (given_none (leb least gap) _ (simp (n.is, e)))

      pub past_end : room < gap + count → read_run least room (drop at bytes) ≡ none
      unfolding read_run
      past_end l = rw g.is (given_none (leb least gap) _ (rw n.is (given_none (ltb 0 count) _ (simp (lt-leb _ _ l)))))

      pub ends_early : length bytes - start < count → read_run least room (drop at bytes) ≡ none
      unfolding read_run
      ends_early m =
          rw g.is (given_none (leb least gap) _ (rw n.is (given_none (ltb 0 count) _ (given_none (leb (gap + count) room) _ (simp (length-drop, lt-leb _ _ m))))))

      pub run_found : least ≤ gap → 0 < count → gap + count ≤ room → count ≤ length bytes - start → RunFound bytes at least room gap count start
      unfolding read_run
      run_found h k l m = record {
        is = simp (g.is, le-leb _ _ h, n.is, lt-ltb _ _ k, le-leb _ _ l, length-drop, le-leb _ _ m, drop-drop);
        fits = l;
        inside = omega (arith, n.inside);
      }

-- the old bytes of a run, compared with what is left of the picture, byte by byte
module _ (bytes shown : List ℕ) (start to i : ℕ) (h : start + i < length bytes) (k : to + i < length shown) where
  pub differs_on : eqb (get_or bytes (start + i) 0) (get_or shown (to + i) 0) ≡ false → differ (take i (drop start bytes)) (drop to shown) ≡ differ (take (i + 1) (drop start bytes)) (drop to shown)
  differs_on e =
      rw (add-one i) (sym (differ_on i (drop start bytes) (drop to shown) (omega (arith, length-drop start bytes)) (omega (arith, length-drop to shown)) (rw (get_or-drop start bytes i 0, get_or-drop to shown i 0) e)))

  pub differs_off : eqb (get_or bytes (start + i) 0) (get_or shown (to + i) 0) ≡ true → false ≡ differ (take (i + 1) (drop start bytes)) (drop to shown)
  differs_off e =
      rw (add-one i) (sym (differ_off i (drop start bytes) (drop to shown) (omega (arith, length-drop start bytes)) (omega (arith, length-drop to shown)) (rw (get_or-drop start bytes i 0, get_or-drop to shown i 0) e)))
