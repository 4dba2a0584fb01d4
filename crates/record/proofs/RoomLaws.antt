-- How many bytes runs are written in at most.
use Prim.Native.Nat.{ℕ, suc, ◌+◌, ◌-◌, ◌*◌, ◌/◌, ◌^◌, ◌<◌, ◌≤◌}
use native.Mathlib.Nat.{suc-add}
use native.Mathlib.Omega.{arith}
use mathlib.Core.List.{List, [], ◌∷◌}
use mathlib.Core.Path.{◌≡◌, refl, ap, ◌∙◌}
use lib.ListN.{length, length-append}
use Rattle.number.proofs.NumberLaws.{write_short, write_few}
use Rattle.number.specs.Number.{write_number}
use Rattle.runs.specs.Runs.{Run, kept, changed, runs_of, differing}
use Rattle.runs.proofs.PatchLaws.{Fit, by_runs, by_changed, fit_old}
use Rattle.record.specs.RunList.{run_bytes, runs_bytes, list_bytes}
use Rattle.record.proofs.RunLaws.{run_length}

-- the bytes of runs are those that differ
changes : List Run → ℕ
changes [] = 0
changes (r ∷ rs) = length r.bytes + changes rs

changes_kept : (rs : List Run) → changes (kept rs) ≡ changes rs
unfolding changes kept
changes_kept [] = refl
changes_kept (r ∷ rs) = refl

changes_changed : (a : ℕ) (rs : List Run) → changes (changed a rs) ≡ suc (changes rs)
unfolding changes
changes_changed a = by_changed (λ cs rs. changes cs ≡ suc (changes rs)) a refl (λ r rs z. suc-add (length r.bytes) (changes rs)) (λ r rs z. omega arith)

changes_runs : (old new : List ℕ) → changes (runs_of old new) ≡ differing old new
unfolding changes differing
changes_runs =
    by_runs (λ old new rs. changes rs ≡ differing old new) (λ new. refl) (λ a old. refl)
    (λ a b old new rs e ih. changes_kept rs ∙ ih ∙ rw e)
    (λ a b old new rs e ih. changes_changed a rs ∙ ap suc ih ∙ rw e)

-- two numbers for each run, each of one byte and at most one more for each 128, and the old bytes
room_of : (least room : ℕ) (rs : List Run) → Fit least room rs → 128 * length (runs_bytes rs) ≤ 128 * (2 * length rs + changes rs) + room
unfolding Fit runs_bytes changes
room_of least room [] f = omega arith
room_of least room (r ∷ rs) f =
    omega (arith, length-append (run_bytes r) (runs_bytes rs), run_length r, write_short r.gap, write_short (length r.bytes), f.2, room_of 1 (room - (r.gap + length r.bytes)) rs f.3)

pub runs_room : (old new : List ℕ) → length (runs_bytes (runs_of old new)) ≤ 2 * length (runs_of old new) + differing old new + length old / 128
runs_room old new = omega (arith, room_of 0 (length old) (runs_of old new) (fit_old old new), changes_runs old new)

-- each run has a changed byte, and each but the first an unchanged one before it
few_later : (room : ℕ) (rs : List Run) → Fit 1 room rs → (2 * length rs ≤ room) × (length rs + changes rs ≤ room)
unfolding Fit changes
few_later room [] f = (omega arith, omega arith)
few_later room (r ∷ rs) f = let ih = few_later (room - (r.gap + length r.bytes)) rs f.3 in (omega (arith, f.0, f.1, f.2, ih.0), omega (arith, f.0, f.1, f.2, ih.1))

few : (room : ℕ) (rs : List Run) → Fit 0 room rs → (2 * length rs ≤ room + 1) × (length rs + changes rs ≤ room + 1)
unfolding Fit changes
few room [] f = (omega arith, omega arith)
few room (r ∷ rs) f = let h = few_later (room - (r.gap + length r.bytes)) rs f.3 in (omega (arith, f.1, f.2, h.0), omega (arith, f.1, f.2, h.1))

runs_short : (old new : List ℕ) → length (runs_bytes (runs_of old new)) ≤ 2 * length old + 1
runs_short old new = let h = few (length old) (runs_of old new) (fit_old old new) in omega (arith, room_of 0 (length old) (runs_of old new) (fit_old old new), h.0, h.1)

-- a run list: the number of runs takes suc k bytes at most
pub list_short : (k : ℕ) (old new : List ℕ) → length old + 1 < 2 * 128 ^ suc k → length (list_bytes (runs_of old new)) ≤ 2 * length old + 1 + suc k
unfolding list_bytes
list_short k old new h =
    let n : ℕ = length (runs_of old new) in
    let f = few (length old) (runs_of old new) (fit_old old new) in
    omega (arith, length-append (write_number n) (runs_bytes (runs_of old new)), write_few k n (omega arith), runs_short old new)
