-- Laws of the next run of two pictures: how it is written, and what it adds to the runs after it.
use Prim.Native.Nat.{ℕ, ◌+◌, ◌≤◌}
use native.Mathlib.Omega.{arith}
use mathlib.Core.List.{List, ◌++◌}
use mathlib.Core.Path.{◌≡◌, ◌∙◌}
use lib.ListN.{length, take, drop, length-append}
use lib.Seq.{sets}
use Rattle.laws.specs.Put.{Put}
use Rattle.laws.proofs.PutLaws.{put_is, put_then}
use Rattle.laws.proofs.StoreLaws.{length_part}
use Rattle.number.specs.Number.{write_number}
use Rattle.runs.specs.Runs.{Run, runs_of}
use Rattle.runs.proofs.NextLaws.{RunAhead, ahead_length}
use Rattle.record.specs.RunList.{run_bytes, runs_bytes}

-- the length of a run
pub run_length : (r : Run) → length (run_bytes r) ≡ length (write_number r.gap) + length (write_number (length r.bytes)) + length r.bytes
unfolding run_bytes
run_length r = simp length-append

-- a run is put number by number, then its bytes
pub run_put : (gap start count : ℕ) (old : List ℕ) {out out₁ out₂ out₃ : List ℕ} {at p q : ℕ} → start + count ≤ length old → Put out at (write_number gap) out₁ p → Put out₁ p (write_number count) out₂ q
    → out₃ ≡ sets out₂ q (take count (drop start old)) → Put out at (run_bytes (record { gap = gap; bytes = take count (drop start old) })) out₃ (q + count)
unfolding run_bytes
run_put gap start count old h u v e =
    let l : length (take count (drop start old)) ≡ count = length_part old start count (omega arith) in
    rw l (put_then (put_then u v) (put_is (omega (arith, l)) e))

-- the next run, in the numbers that the runs come to
module _ {old new : List ℕ} {at gap count : ℕ} (a : RunAhead old new at gap count) where
  pub ahead_bytes : runs_bytes (runs_of (drop at old) (drop at new))
      ≡ run_bytes (record { gap = gap; bytes = take count (drop (at + gap) old) }) ++ runs_bytes (runs_of (drop (at + (gap + count)) old) (drop (at + (gap + count)) new))
  unfolding runs_bytes
  ahead_bytes = rw (a.runs, runs_bytes)

  pub ahead_size : length (run_bytes (record { gap = gap; bytes = take count (drop (at + gap) old) })) ≡ length (write_number gap) + length (write_number count) + count
  ahead_size = run_length (record { gap = gap; bytes = take count (drop (at + gap) old) }) ∙ rw (ahead_length a)

  pub ahead_bytes_length : length (runs_bytes (runs_of (drop at old) (drop at new)))
      ≡ length (write_number gap) + length (write_number count) + count + length (runs_bytes (runs_of (drop (at + (gap + count)) old) (drop (at + (gap + count)) new)))
  ahead_bytes_length = rw (ahead_bytes, length-append, ahead_size)
