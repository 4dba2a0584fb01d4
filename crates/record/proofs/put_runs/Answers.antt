-- `record::put_runs`: whatever puts the runs that are left, from here, puts them all; the picture is done up to here.
use Prim.Native.Nat.{ℕ, ◌+◌}
use native.Mathlib.Omega.{arith}
use mathlib.Core.Bool.{Bool}
use mathlib.Core.List.{List, []}
use mathlib.Core.Path.{◌≡◌, ap, ◌∙◌}
use lib.ListN.{length, take, drop, length-drop}
use lib.Seq.{sets}
use Rattle.laws.specs.Put.{Put}
use Rattle.laws.proofs.PutLaws.{put_then, put_nothing}
use Rattle.laws.specs.Result.{pick}
use Rattle.laws.proofs.ResultLaws.{told}
use Rattle.laws.proofs.StoreLaws.{wanted_length}
use Rattle.runs.proofs.PatchLaws.{same_of_none}
use Rattle.runs.specs.Runs.{runs_of, change_of}
use Rattle.runs.proofs.NextLaws.{RunAhead, ahead_of, none_ahead}
use Rattle.record.proofs.CommitLaws.{committing_more, committing_ends, replaced_behind}
use Rattle.record.specs.RunList.{run_bytes, runs_bytes}
use Rattle.record.proofs.RunLaws.{ahead_bytes, ahead_bytes_length, ahead_size}
use Rattle.record.proofs.put_runs.Invariants.{Writing}
use Rattle.record.proofs.put_runs.Goals.{In-Some}
use Rattle.record.proofs.put_runs.Goals as goal

module _ {out₀ old₀ new out old : List ℕ} {from at place : ℕ} {commit : Bool} (w : Writing out₀ from old₀ new commit out old at place) where
  more : {gap count : ℕ} → RunAhead old new at gap count → {out' old' : List ℕ} {p : ℕ} → Put out place (run_bytes (record { gap = gap; bytes = take count (drop (at + gap) old) })) out' p
      → old' ≡ pick commit (sets old (at + gap) (take count (drop (at + gap) new))) old → Writing out₀ from old₀ new commit out' old' (at + gap + count) p
  more {gap} {count} a v r =
      let next : at + gap + count ≡ at + (gap + count) = omega arith in
      let e = replaced_behind a w.same commit r in
      let l = ap length r ∙ wanted_length commit old (at + gap) (take count (drop (at + gap) new)) in
      record {
        inside = omega (arith, a.inside, l);
        size = v.size ∙ w.size;
        same = l ∙ w.same;
        fits = rw (e, next) (omega (arith, v.size, v.place, w.fits, ahead_bytes_length a, ahead_size a));
        whole = λ q. w.whole (rw (ahead_bytes a) (put_then v (rw (e, next) at q)));
        picture = committing_more a w.same commit r w.picture;
      }

  all : runs_of (drop at old) (drop at new) ≡ [] → Put out₀ from (runs_bytes (runs_of old₀ new)) out place × (old ≡ pick commit new old₀)
  unfolding runs_bytes
  all e = (
    w.whole (rw e put_nothing),
    committing_ends w.picture (same_of_none (drop at old) (drop at new) (omega (arith, w.same, length-drop at old, length-drop at new)) e),
  )

ahead : (c : In-Some)
    → RunAhead c.loop-run.old c.args.new.now c.loop-run.at c.in-Some.run'.gap c.in-Some.run'.count
ahead c = ahead_of _ _ _ _ _ (told change_of c.next_run.ensures c.in-Some.is)

pub returns : goal.returns
returns c = all c.loop-run.invariant (none_ahead _ _ _ c.loop-run.invariant.same (told change_of c.next_run.ensures c.in_default.is))

pub overflow_add-start : goal.overflow_add-start
overflow_add-start c = omega (arith, (ahead (goal.at.overflow_add-start c).In-Some).inside)

pub overflow_add-end : goal.overflow_add-end
overflow_add-end c = omega (arith, (ahead (goal.at.overflow_add-end c).In-Some).inside)

pub put_run-place-requires : goal.put_run-place-requires
put_run-place-requires c =
    let a = ahead (goal.at.put_run-place-requires c).In-Some in
    (omega (arith, a.inside, c.loop-run.invariant.same), omega (arith, a.inside, c.loop-run.invariant.same), omega (arith, a.inside), omega (arith, c.loop-run.invariant.fits, ahead_bytes_length a))

pub replace-requires : goal.replace-requires
replace-requires c =
    let a = ahead (goal.at.replace-requires c).In-Some in
    (omega (arith, a.inside), omega (arith, a.inside, c.loop-run.invariant.same))

pub loop-run-smaller : goal.loop-run-smaller
loop-run-smaller c = let a = ahead (goal.at.loop-run-smaller c).In-Some in omega (arith, a.inside, a.filled, c.loop-run.invariant.same)

pub loop-run-preserved : goal.loop-run-preserved
loop-run-preserved c =
    more c.loop-run.invariant (ahead (goal.at.loop-run-preserved c).In-Some) c.put_run-place.ensures c.replace.ensures
