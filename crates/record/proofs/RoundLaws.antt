-- What is written of two pictures and two maps leads back: the runs are read back, and put back into the new one they give the old one.
use Prim.Native.Nat.{ℕ, ◌+◌, ◌-◌, ◌^◌, ◌<◌, ◌≤◌}
use native.Mathlib.Omega.{arith}
use mathlib.Core.List.{List, [], ◌∷◌, ◌++◌, append_assoc, append-nil}
use mathlib.Core.Option.{Option, some}
use mathlib.Core.Path.{◌≡◌, refl, ap}
use lib.ListN.{length, length-append}
use lib.Seq.{take-append_seam, drop-append_seam}
use borrow.Author.Tests.{lt-ltb, le-leb, eq-eqb}
use Rattle.laws.specs.Result.{Res.ok, ◌>>?◌}
use Rattle.number.proofs.NumberLaws.{read_write}
use Rattle.runs.specs.Runs.{Run, runs_of}
use Rattle.runs.proofs.PatchLaws.{Fit, patch_runs, differ_runs, fit_new, count_runs, fit_from}
use Rattle.colours.specs.Colours.{MAP}
use Rattle.record.specs.RunList.{Runs, run_bytes, runs_bytes, list_bytes, read_run, read_runs, read_list, runs_back, before_of}
use Rattle.record.specs.Record.{picture_bytes, map_bytes, record_bytes, past_of, restored}

-- the runs are read back
read_run_lem : (r : Run) (least room : ℕ) (s : List ℕ) → room < 2 ^ 32 → least ≤ r.gap → 0 < length r.bytes → r.gap + length r.bytes ≤ room
    → read_run least room (run_bytes r ++ s) ≡ some (record { run = r; rest = s })
unfolding read_run run_bytes
read_run_lem r least room s h f g k =
    let hg : r.gap < 2 ^ 32 = omega arith in
    let ho : length r.bytes < 2 ^ 32 = omega arith in
    let hl : length r.bytes ≤ length (r.bytes ++ s) = omega (arith, length-append r.bytes s) in
    simp (append_assoc, read_write, le-leb least r.gap f, lt-ltb 0 (length r.bytes) g, le-leb (r.gap + length r.bytes) room k, le-leb (length r.bytes) _ hl, take-append_seam, drop-append_seam)

read_runs_lem : (rs : List Run) (least room : ℕ) (s : List ℕ) → room < 2 ^ 32 → Fit least room rs → read_runs (length rs) least room (runs_bytes rs ++ s) ≡ some (record { runs = rs; rest = s })
unfolding read_runs runs_bytes Fit
read_runs_lem [] least room s h f = refl
read_runs_lem (r ∷ rs) least room s h f =
    simp (append_assoc, read_run_lem r least room (runs_bytes rs ++ s) h f.0 f.1 f.2)
    (ap (λ (o : Option Runs). o >>? λ m. some (record { runs = r ∷ m.runs; rest = m.rest })) (read_runs_lem rs _ (room - (r.gap + length r.bytes)) s (omega arith) (fit_from _ _ _ rs (omega arith) f.3)))

pub list_back : (old new s : List ℕ) → length old ≡ length new → length new < 2 ^ 32 → before_of (list_bytes (runs_of old new) ++ s) new ≡ some (record { buffer = old; rest = s })
unfolding before_of read_list list_bytes runs_back
list_back old new s l h =
    let hc : length (runs_of old new) < 2 ^ 32 = omega (arith, count_runs old new) in
    simp (append_assoc, read_write, read_runs_lem (runs_of old new) 0 (length new) s h (fit_new old new), differ_runs old new, patch_runs old new l)

-- a record that is written leads back
pub past_record : (n p : ℕ) (old new map map' : List ℕ) → n < 2 ^ 32 → p < 2 ^ 32 → length old ≡ length new → length new ≤ 1_048_576 → length map ≡ length map' → length map' ≤ MAP
    → past_of (record_bytes n p old new map map') new map' ≡ some (record { frame = n; place = p; picture = old; map = map })
unfolding past_of record_bytes picture_bytes map_bytes
past_record n p old new map map' hn hp l h m k =
    let e : before_of (list_bytes (runs_of map map')) map' ≡ some (record { buffer = map; rest = [] }) = rw append-nil at (list_back map map' [] m (omega arith)) in
    let d = list_back old new (list_bytes (runs_of map map')) l (omega arith) in
    simp (append_assoc, read_write, d, e)

-- and is put back at the frame that it leads to, if its place is from 12 on and before the next place
pub restored_record : (n p next : ℕ) (old new map map' : List ℕ) → 2 ≤ n → n < 2 ^ 32 → 12 ≤ p → p < next → p < 2 ^ 32
    → length old ≡ length new → length new ≤ 1_048_576 → length map ≡ length map' → length map' ≤ MAP
    → restored (record_bytes n p old new map map') new map' n next ≡ ok (record { frame = n; place = p; picture = old; map = map })
unfolding restored
restored_record n p next old new map map' f hn l u hp e h m k =
    rw (past_record n p old new map map' hn hp e h m k) (simp (le-leb 2 n f, eq-eqb n n refl, le-leb 12 p l, lt-ltb p next u))
