-- How long a column can be: three bytes for two rows, and two bytes more. A Uniq of one row has two bytes, and between two Uniqs
-- lies a Skip or a Same, which makes up for it.
use Prim.Native.Nat.{ℕ, ◌+◌, ◌-◌, ◌*◌, ◌/◌, ◌≤◌}
use native.Mathlib.Omega.{arith}
use mathlib.Core.Bool.{Bool, true, false}
use mathlib.Core.List.{List, [], ◌∷◌}
use mathlib.Core.Path.{◌≡◌, refl}
use lib.Dec.{leb}
use lib.ListN.{length, replicate, length-append, length-replicate}
use borrow.Author.Tests.{leb-true}
use Rattle.runs.specs.Runs.{Run, runs_of}
use Rattle.runs.proofs.PatchLaws.{Fit, fit_old}
use Rattle.column_writer.specs.Column.{WrittenOp, WrittenOp.skip, WrittenOp.uniq, WrittenOp.same, Group, groups_of, join_uniq, stretch_ops, cut, cut_all, ops_of, ops_bytes, column_bytes}
use Rattle.column_writer.proofs.CutLaws.{length_bytes_append, skip_count, skip_bytes, same_count, same_bytes, uniq_count, uniq_bytes}
use Rattle.column_writer.proofs.ColumnLaws.{flat, flat_groups, column_case}

-- how many bytes ops have once they are cut
size : List WrittenOp → ℕ
size os = length (ops_bytes (cut_all os))

size_none : size [] ≡ 0
unfolding size cut_all ops_bytes
size_none = refl

size_first : (o : WrittenOp) (os : List WrittenOp) → size (o ∷ os) ≡ length (ops_bytes (cut o)) + size os
unfolding size cut_all
size_first o os = length_bytes_append (cut o) (cut_all os)

-- ops over n rows: those after a Uniq in front have three bytes for two rows
Tight : ℕ → List WrittenOp → Type 0
Tight n [] = Unit {0}
Tight n (skip g ∷ os) = 2 * size (skip g ∷ os) ≤ 3 * n
Tight n (uniq vs ∷ os) = 2 * size os + 3 * length vs ≤ 3 * n
Tight n (same m v ∷ os) = 2 * size (same m v ∷ os) ≤ 3 * n

tight_size : (n : ℕ) (os : List WrittenOp) → Tight n os → 2 * size os ≤ 3 * n + 1
unfolding Tight
tight_size n [] t = omega (arith, size_none)
tight_size n (skip g ∷ os) t = omega (arith, t)
tight_size n (uniq vs ∷ os) t = omega (arith, t, size_first (uniq vs) os, uniq_bytes vs, uniq_count vs)
tight_size n (same m v ∷ os) t = omega (arith, t)

tight_join_uniq : (n : ℕ) (vs : List ℕ) (os : List WrittenOp) → Tight n os → Tight (length vs + n) (join_uniq vs os)
unfolding Tight join_uniq
tight_join_uniq n vs [] t = omega (arith, size_none)
tight_join_uniq n vs (skip g ∷ os) t = omega (arith, t)
tight_join_uniq n vs (uniq ws ∷ os) t = omega (arith, t, length-append vs ws)
tight_join_uniq n vs (same m v ∷ os) t = omega (arith, t)

-- a stretch of changed rows
tight_stretch : (gs : List Group) → Tight (length (flat gs)) (stretch_ops gs)
unfolding flat stretch_ops Tight
tight_stretch [] = tt
tight_stretch (g ∷ gs) = go (leb 4 g.rows) refl (tight_stretch gs)
  where
    go : (t : Bool) → leb 4 g.rows ≡ t → Tight (length (flat gs)) (stretch_ops gs) → Tight (length (flat (g ∷ gs))) (stretch_ops (g ∷ gs))
    go true e t =
        let n : 4 ≤ g.rows = leb-true 4 g.rows e in
        rw (e, stretch_ops) (
        omega (
          arith,
          n,
          length-append (replicate g.rows g.value) (flat gs),
          length-replicate g.rows g.value,
          tight_size (length (flat gs)) (stretch_ops gs) t,
          size_first (same g.rows g.value) (stretch_ops gs),
          same_bytes g.rows g.value,
          same_count g.rows g.value,
        ))
    go false e t = rw (e, stretch_ops, length-append (replicate g.rows g.value) (flat gs)) (tight_join_uniq (length (flat gs)) (replicate g.rows g.value) (stretch_ops gs) t)

-- the ops of a run, of runs that all have a gap, and of all runs
run_size : (r : Run) (rs : List Run) → 2 * length (ops_bytes (ops_of (r ∷ rs))) ≤ 2 * ((r.gap + 126) / 127) + 3 * length r.bytes + 1 + 2 * length (ops_bytes (ops_of rs))
unfolding ops_of size
run_size r rs =
    let s : List WrittenOp = stretch_ops (groups_of r.bytes) in
    omega (
      arith,
      length_bytes_append (cut_all (skip r.gap ∷ s)) (ops_of rs),
      size_first (skip r.gap) s,
      skip_bytes r.gap,
      skip_count r.gap,
      tight_size (length r.bytes) s (rw flat_groups at (tight_stretch (groups_of r.bytes))),
    )

later_size : (n : ℕ) (rs : List Run) → Fit 1 n rs → 2 * length (ops_bytes (ops_of rs)) ≤ 3 * n
unfolding Fit
later_size n [] h = unfold ops_of ops_bytes in omega arith
later_size n (r ∷ rs) h = omega (arith, h.0, h.2, run_size r rs, later_size (n - (r.gap + length r.bytes)) rs h.3)

ops_size : (n : ℕ) (rs : List Run) → Fit 0 n rs → 2 * length (ops_bytes (ops_of rs)) ≤ 3 * n + 1
unfolding Fit
ops_size n [] h = unfold ops_of ops_bytes in omega arith
ops_size n (r ∷ rs) h = omega (arith, h.2, run_size r rs, later_size (n - (r.gap + length r.bytes)) rs h.3)

-- a column's ops, and the column
pub ops_short : (old new : List ℕ) → 2 * length (ops_bytes (ops_of (runs_of new old))) ≤ 3 * length new + 1
ops_short old new = ops_size (length new) (runs_of new old) (fit_old new old)

pub column_short : (old new : List ℕ) → length (column_bytes old new) ≤ length new + length new / 2 + 2
unfolding column_bytes
column_short old new =
    column_case (λ (os : List WrittenOp). length (length os ∷ ops_bytes os) ≤ length new + length new / 2 + 2) old new
    (omega (arith, ops_short old new)) (unfold cut in omega (arith, uniq_bytes new, uniq_count new))
