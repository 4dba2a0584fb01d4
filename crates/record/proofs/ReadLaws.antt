-- What reads well is what would be written: a run list that leads back is that of what it leads back to, and a record that leads back is that of
-- the step that it leads back over.
use Prim.Native.Nat.{ℕ, zero, suc, ◌+◌, ◌<◌, ◌≤◌}
use native.Mathlib.Omega.{arith}
use mathlib.Core.List.{List, [], ◌++◌, append_assoc, append-nil}
use mathlib.Core.Path.{◌≡◌, refl, ap, ◌∙◌}
use lib.Dec.{leb, ltb, eqb}
use lib.ListN.{length, take, drop, take-append-drop, drop_of_length-le}
use lib.Seq.{length-take-le}
use borrow.Author.Tests.{leb-true, ltb-true, eqb-true}
use Rattle.laws.specs.Bytes.{Bytes}
use Rattle.laws.proofs.BytesLaws.{bytes_drop}
use Rattle.laws.proofs.ResultLaws.{All, All.all_some, all_self, all_bind, all_map, all_given}
use Rattle.number.proofs.NumberLaws.{write_read, rest_bytes}
use Rattle.runs.specs.Runs.{runs_of}
use Rattle.runs.proofs.PatchLaws.{Fit}
use Rattle.runs.proofs.BackLaws.{runs_patch}
use Rattle.record.specs.RunList.{run_bytes, runs_bytes, list_bytes, FirstRun, read_run, Runs, read_runs, read_list, Before, runs_back, before_of}
use Rattle.record.specs.Record.{picture_bytes, map_bytes, record_bytes, Past, past_of}

-- a run that was read
record ReadRun (least room : ℕ) (s : List ℕ) (f : FirstRun) : Type 0 where
  is : s ≡ run_bytes f.run ++ f.rest
  rest : Bytes f.rest
  least_gap : least ≤ f.run.gap
  filled : 0 < length f.run.bytes
  fits : f.run.gap + length f.run.bytes ≤ room

run_read : (least room : ℕ) (s : List ℕ) → Bytes s → All (ReadRun least room s) (read_run least room s)
unfolding read_run run_bytes
run_read least room s y =
    all_bind (all_self _) λ g eg. all_given (leb least g.value) _ λ a.
    all_bind (all_self _) λ n en. all_given (ltb 0 n.value) _ λ b. all_given (leb (g.value + n.value) room) _ λ c. all_given (leb n.value (length n.rest)) _ λ d.
    let yg : Bytes g.rest = rest_bytes s g y eg in
    let l : length (take n.value n.rest) ≡ n.value = length-take-le n.value n.rest (leb-true _ _ d) in
    all_some {a = record { run = record { gap = g.value; bytes = take n.value n.rest }; rest = drop n.value n.rest }} (record {
      is = write_read s g y eg ∙ rw (l, append_assoc, append_assoc, take-append-drop n.value n.rest, ← (write_read g.rest n yg en));
      rest = bytes_drop n.value n.rest (rest_bytes g.rest n yg en);
      least_gap = leb-true _ _ a;
      filled = rw l (ltb-true _ _ b);
      fits = rw l (leb-true _ _ c);
    })

-- runs that were read
record ReadRuns (k least room : ℕ) (s : List ℕ) (m : Runs) : Type 0 where
  is : s ≡ runs_bytes m.runs ++ m.rest
  rest : Bytes m.rest
  count : length m.runs ≡ k
  fit : Fit least room m.runs

runs_read : (k least room : ℕ) (s : List ℕ) → Bytes s → All (ReadRuns k least room s) (read_runs k least room s)
unfolding read_runs runs_bytes Fit
runs_read zero least room s y = all_some (record { is = refl; rest = y; count = refl; fit = tt })
runs_read (suc k) least room s y =
    all_bind (run_read least room s y) λ f r. all_bind (runs_read k _ _ f.rest r.rest) λ m t.
    all_some (record {
      is = r.is ∙ rw (append_assoc, ← t.is);
      rest = t.rest;
      count = ap suc t.count;
      fit = (r.least_gap, r.filled, r.fits, t.fit);
    })

-- a run list that was read, and one that leads back
record ReadList (size : ℕ) (s : List ℕ) (m : Runs) : Type 0 where
  is : s ≡ list_bytes m.runs ++ m.rest
  rest : Bytes m.rest
  fit : Fit 0 size m.runs

list_read : (size : ℕ) (s : List ℕ) → Bytes s → All (ReadList size s) (read_list size s)
unfolding read_list list_bytes
list_read size s y =
    all_bind (all_self _) λ n e.
    all_map (λ m t. record { is = write_read s n y e ∙ rw (t.count, append_assoc, ← t.is); rest = t.rest; fit = t.fit }) (runs_read n.value 0 size n.rest (rest_bytes s n y e))

record LedBack (s f : List ℕ) (b : Before) : Type 0 where
  is : s ≡ list_bytes (runs_of b.buffer f) ++ b.rest
  rest : Bytes b.rest

led_back_lem : (s f : List ℕ) → Bytes s → All (LedBack s f) (before_of s f)
unfolding before_of runs_back
led_back_lem s f y = all_bind (list_read (length f) s y) λ m t. all_given _ _ λ d. all_some (record { is = rw (runs_patch m.runs f t.fit d) t.is; rest = t.rest })

-- a record that leads back
pub record_read : (bytes shown map : List ℕ) → Bytes bytes → All (λ (p : Past). bytes ≡ record_bytes p.frame p.place p.picture shown p.map map) (past_of bytes shown map)
unfolding past_of record_bytes picture_bytes map_bytes
record_read bytes shown map y =
    all_bind (all_self _) λ f ef. all_bind (all_self _) λ p ep.
    let yf : Bytes f.rest = rest_bytes bytes f y ef in
    all_bind (led_back_lem p.rest shown (rest_bytes f.rest p yf ep)) λ b r. all_bind (led_back_lem b.rest map r.rest) λ c q. all_given (eqb (length c.rest) 0) _ λ z.
    let e : c.rest ≡ [] = drop_of_length-le c.rest {i = 0} (omega (arith, eqb-true (length c.rest) 0 z)) in
    let i : b.rest ≡ list_bytes (runs_of c.buffer map) = q.is ∙ rw (e, append-nil) in
    all_some (simp append_assoc (write_read bytes f y ef ∙ rw (← i, ← r.is, ← (write_read f.rest p yf ep))))
