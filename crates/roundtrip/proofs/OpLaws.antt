-- The ops that are written for a column turn the old column into the new one, and end within it.
use Prim.Native.Nat.{ℕ, zero, suc, ◌+◌, ◌-◌, ◌*◌, ◌/◌, ◌%◌, ◌≤◌}
use native.Mathlib.Nat.{zero-add, add-zero, add_assoc, div-add-mod'}
use native.Mathlib.Omega.{arith}
use mathlib.Core.Bool.{Bool, true, false}
use mathlib.Core.List.{List, [], ◌∷◌, ◌++◌, append_assoc, append-nil}
use mathlib.Core.Path.{◌≡◌, refl, sym, ap, ◌∙◌}
use lib.Dec.{leb}
use lib.ListN.{length, take, drop, replicate, length-append, length-drop, length-replicate, replicate-append-replicate, take-append-drop}
use lib.Seq.{take-add, drop-drop, drop-length}
use Rattle.runs.specs.Runs.{Run, runs_of, patch}
use Rattle.runs.proofs.PatchLaws.{Fit, patch_runs, fit_new}
use Rattle.column_writer.specs.Column.{WrittenOp, WrittenOp.skip, WrittenOp.uniq, WrittenOp.same, Group, groups_of, join_uniq, stretch_ops, rest_of, uniqs, cut, cut_all, ops_of, column_ops}
use Rattle.column_writer.proofs.ColumnLaws.{flat, flat_groups, column_case}

-- what an op makes of the rows that it passes, and how many these are
abbrev pub reach : WrittenOp → ℕ
reach (skip n) = n
reach (uniq vs) = length vs
reach (same n v) = n

abbrev pub passed : WrittenOp → List ℕ → List ℕ
passed (skip n) c = take n c
passed (uniq vs) c = vs
passed (same n v) c = replicate n v

unfoldable pub reach_all : List WrittenOp → ℕ
reach_all [] = 0
reach_all (o ∷ os) = reach o + reach_all os

unfoldable pub passed_all : List WrittenOp → List ℕ → List ℕ
passed_all [] c = []
passed_all (o ∷ os) c = passed o c ++ passed_all os (drop (reach o) c)

reach_append : (os ps : List WrittenOp) → reach_all (os ++ ps) ≡ reach_all os + reach_all ps
unfolding reach_all
reach_append [] ps = sym (zero-add (reach_all ps))
reach_append (o ∷ os) ps = ap (λ (n : ℕ). reach o + n) (reach_append os ps) ∙ sym (add_assoc (reach o) (reach_all os) (reach_all ps))

passed_append : (os ps : List WrittenOp) (c : List ℕ) → passed_all (os ++ ps) c ≡ passed_all os c ++ passed_all ps (drop (reach_all os) c)
unfolding passed_all reach_all
passed_append [] ps c = refl
passed_append (o ∷ os) ps c =
    ap (λ (l : List ℕ). passed o c ++ l) (passed_append os ps (drop (reach o) c))
    ∙ simp (append_assoc, drop-drop)

-- two lists of ops that do the same
record Alike (os ps : List WrittenOp) : Type 0 where
  far : reach_all os ≡ reach_all ps
  out : (c : List ℕ) → passed_all os c ≡ passed_all ps c

alike_refl : (os : List WrittenOp) → Alike os os
alike_refl os = record { far = refl; out = λ c. refl }

alike_trans : {os ps qs : List WrittenOp} → Alike os ps → Alike ps qs → Alike os qs
alike_trans p q = record { far = p.far ∙ q.far; out = λ c. p.out c ∙ q.out c }

alike_append : {os os' ps ps' : List WrittenOp} → Alike os os' → Alike ps ps' → Alike (os ++ ps) (os' ++ ps')
alike_append {os} {os'} {ps} {ps'} p q = record {
  far = rw (reach_append os ps, reach_append os' ps', p.far, q.far) refl;
  out = λ c. rw (passed_append os ps c, passed_append os' ps' c, p.out c, p.far) (ap (λ (l : List ℕ). passed_all os' c ++ l) (q.out (drop (reach_all os') c)));
}

alike_cons : (o : WrittenOp) {os ps : List WrittenOp} → Alike os ps → Alike (o ∷ os) (o ∷ ps)
unfolding reach_all passed_all
alike_cons o p = record { far = ap (λ (n : ℕ). reach o + n) p.far; out = λ c. ap (λ (l : List ℕ). passed o c ++ l) (p.out (drop (reach o) c)) }

-- ops of two kinds after one another are one op
two_skips : (a b : ℕ) → Alike (skip a ∷ skip b ∷ []) (skip (a + b) ∷ [])
unfolding reach_all passed_all
two_skips a b = record { far = omega arith; out = λ c. rw (append-nil (take b (drop a c)), append-nil (take (a + b) c)) (sym (take-add a b c)) }

two_sames : (v a b : ℕ) → Alike (same a v ∷ same b v ∷ []) (same (a + b) v ∷ [])
unfolding reach_all passed_all
two_sames v a b = record { far = omega arith; out = λ c. rw (append-nil (replicate b v), append-nil (replicate (a + b) v)) (replicate-append-replicate a b v) }

two_uniqs : (a b : List ℕ) → Alike (uniq a ∷ uniq b ∷ []) (uniq (a ++ b) ∷ [])
unfolding reach_all passed_all
two_uniqs a b = record { far = omega (arith, length-append a b); out = λ c. sym (append_assoc a b []) }

-- cutting changes nothing: k ops of w rows and the rest, for Skips and Sames alike
module _ (P : ℕ → WrittenOp) (none_alike : Alike [] (P 0 ∷ [])) (two : (a b : ℕ) → Alike (P a ∷ P b ∷ []) (P (a + b) ∷ [])) where
  rest_alike : (r : ℕ) → Alike (rest_of r (P r)) (P r ∷ [])
  unfolding rest_of
  rest_alike zero = none_alike
  rest_alike (suc r) = alike_refl (P (suc r) ∷ [])

  many_alike : (w k r : ℕ) → Alike (replicate k (P w) ++ rest_of r (P r)) (P (k * w + r) ∷ [])
  many_alike w zero r = let e : 0 * w + r ≡ r = omega arith in rw e (rest_alike r)
  many_alike w (suc k) r =
      let e : suc k * w + r ≡ w + (k * w + r) = omega arith in
      rw e (alike_trans (alike_cons (P w) (many_alike w k r)) (two w (k * w + r)))

  whole_alike : (w n : ℕ) → Alike (replicate (n / w) (P w) ++ rest_of (n % w) (P (n % w))) (P n ∷ [])
  whole_alike w n = rw (div-add-mod' n w) at (many_alike w (n / w) (n % w))

no_skip : Alike [] (skip 0 ∷ [])
unfolding reach_all passed_all
no_skip = record { far = refl; out = λ c. refl }

no_same : (v : ℕ) → Alike [] (same 0 v ∷ [])
unfolding reach_all passed_all
no_same v = record { far = refl; out = λ c. refl }

uniqs_alike : (k : ℕ) (vs : List ℕ) → length vs ≤ k → Alike (uniqs k vs) (uniq vs ∷ [])
unfolding uniqs reach_all passed_all
uniqs_alike zero [] h = record { far = refl; out = λ c. refl }
uniqs_alike zero (v ∷ vs) h = absurd (omega arith)
uniqs_alike (suc k) [] h = record { far = refl; out = λ c. refl }
uniqs_alike (suc k) (v ∷ vs) h =
    rw (take-append-drop 127 (v ∷ vs)) at
    (alike_trans (alike_cons (uniq (take 127 (v ∷ vs))) (uniqs_alike k (drop 127 (v ∷ vs)) (omega (arith, length-drop 127 (v ∷ vs))))) (two_uniqs (take 127 (v ∷ vs)) (drop 127 (v ∷ vs))))

cut_alike : (o : WrittenOp) → Alike (cut o) (o ∷ [])
unfolding cut
cut_alike (skip n) = whole_alike skip no_skip two_skips 127 n
cut_alike (uniq vs) = uniqs_alike (length vs) vs (omega arith)
cut_alike (same n v) = whole_alike (λ k. same k v) (no_same v) (two_sames v) 255 n

cut_all_alike : (os : List WrittenOp) → Alike (cut_all os) os
unfolding cut_all
cut_all_alike [] = alike_refl []
cut_all_alike (o ∷ os) = alike_append (cut_alike o) (cut_all_alike os)

-- a stretch puts its rows
join_uniq_alike : (vs : List ℕ) (os : List WrittenOp) → Alike (join_uniq vs os) (uniq vs ∷ os)
unfolding join_uniq
join_uniq_alike vs [] = alike_refl (uniq vs ∷ [])
join_uniq_alike vs (skip n ∷ os) = alike_refl (uniq vs ∷ skip n ∷ os)
join_uniq_alike vs (same n v ∷ os) = alike_refl (uniq vs ∷ same n v ∷ os)
join_uniq_alike vs (uniq ws ∷ os) = record {
  far = unfold reach_all in omega (arith, length-append vs ws);
  out = λ c. unfold passed_all in simp (append_assoc, length-append, drop-drop);
}

-- a Same is a Uniq of one value
same_alike : (n v : ℕ) → Alike (same n v ∷ []) (uniq (replicate n v) ∷ [])
unfolding reach_all passed_all
same_alike n v = record { far = omega (arith, length-replicate n v); out = λ c. refl }

stretch_alike : (gs : List Group) → Alike (stretch_ops gs) (uniq (flat gs) ∷ [])
unfolding stretch_ops flat
stretch_alike [] = record { far = unfold reach_all in refl; out = λ c. unfold passed_all in refl }
stretch_alike (g ∷ gs) = go (leb 4 g.rows) refl (stretch_alike gs)
  where
    go : (t : Bool) → leb 4 g.rows ≡ t → Alike (stretch_ops gs) (uniq (flat gs) ∷ []) → Alike (stretch_ops (g ∷ gs)) (uniq (replicate g.rows g.value ++ flat gs) ∷ [])
    go true e ih = rw (e, stretch_ops) (alike_trans (alike_append (same_alike g.rows g.value) ih) (two_uniqs (replicate g.rows g.value) (flat gs)))
    go false e ih =
        rw (e, stretch_ops) (alike_trans (join_uniq_alike (replicate g.rows g.value) (stretch_ops gs))
        (alike_trans (alike_cons (uniq (replicate g.rows g.value)) ih) (two_uniqs (replicate g.rows g.value) (flat gs))))

-- the ops of a column's stretches do what its runs do
unfoldable pub column : List WrittenOp → List ℕ → List ℕ
column os c = passed_all os c ++ drop (reach_all os) c

alike_column : {os ps : List WrittenOp} → Alike os ps → (c : List ℕ) → column os c ≡ column ps c
unfolding column
alike_column p c = rw (p.out c, p.far)

run_alike : (r : Run) (rs : List Run) → Alike (ops_of (r ∷ rs)) (skip r.gap ∷ uniq r.bytes ∷ ops_of rs)
unfolding ops_of
run_alike r rs =
    alike_append
    (alike_trans (cut_all_alike (skip r.gap ∷ stretch_ops (groups_of r.bytes))) (alike_cons (skip r.gap) (rw flat_groups at (stretch_alike (groups_of r.bytes)))))
    (alike_refl (ops_of rs))

column_none : (c : List ℕ) → column (ops_of []) c ≡ c
unfolding column ops_of reach_all passed_all
column_none c = refl

column_run : (g : ℕ) (vs : List ℕ) (os : List WrittenOp) (c : List ℕ) → column (skip g ∷ uniq vs ∷ os) c ≡ take g c ++ vs ++ column os (drop (g + length vs) c)
unfolding column reach_all passed_all
column_run g vs os c = simp (append_assoc, drop-drop, add_assoc)

column_all : (old new : List ℕ) → length old ≡ length new → column (uniq new ∷ []) old ≡ new
unfolding column reach_all passed_all
column_all old new h = rw (add-zero (length new), ← h, drop-length old, append-nil new, append-nil new)

ops_patch : (rs : List Run) (c : List ℕ) → column (ops_of rs) c ≡ patch rs c
unfolding patch
ops_patch [] c = column_none c
ops_patch (r ∷ rs) c =
    alike_column (run_alike r rs) c ∙ column_run r.gap r.bytes (ops_of rs) c
    ∙ ap (λ (l : List ℕ). take r.gap c ++ r.bytes ++ l) (ops_patch rs (drop (r.gap + length r.bytes) c))

-- for all rows
uniqs_column : (old new : List ℕ) → length old ≡ length new → column (uniqs (length new) new) old ≡ new
uniqs_column old new h = alike_column (uniqs_alike (length new) new (omega arith)) old ∙ column_all old new h

-- the ops of a column make the new one of the old one
pub column_new : (old new : List ℕ) → length old ≡ length new → column (column_ops old new) old ≡ new
column_new old new h = column_case (λ (os : List WrittenOp). column os old ≡ new) old new (ops_patch (runs_of new old) old ∙ patch_runs new old (sym h)) (uniqs_column old new h)

-- the ops end within the column
reach_ops : (rs : List Run) (least room : ℕ) → Fit least room rs → reach_all (ops_of rs) ≤ room
unfolding Fit
reach_ops [] least room f = unfold ops_of reach_all in omega arith
reach_ops (r ∷ rs) least room f =
    let e : reach_all (skip r.gap ∷ uniq r.bytes ∷ ops_of rs) ≡ r.gap + (length r.bytes + reach_all (ops_of rs)) = unfold reach_all in refl in
    omega (arith, (run_alike r rs).far, e, reach_ops rs 1 (room - (r.gap + length r.bytes)) f.3, f.2)

pub reach_column : (old new : List ℕ) → length old ≡ length new → reach_all (column_ops old new) ≤ length old
reach_column old new h =
    let all : reach_all (uniqs (length new) new) ≡ length new + 0 = (uniqs_alike (length new) new (omega arith)).far ∙ unfold reach_all in refl in
    column_case (λ (os : List WrittenOp). reach_all os ≤ length old) old new (reach_ops (runs_of new old) 0 (length old) (fit_new new old)) (omega arith)
