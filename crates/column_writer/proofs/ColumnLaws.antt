-- Laws of a column's ops: groups of rows with one value, a stretch of changed rows, and the runs that they lie in.
use Prim.Native.Nat.{ℕ, zero, suc, ◌+◌, ◌≤◌, ◌<◌}
use native.Mathlib.Omega.{arith}
use mathlib.Core.Bool.{Bool, true, false}
use mathlib.Core.List.{List, [], ◌∷◌, ◌++◌, append_assoc}
use mathlib.Core.Path.{◌≡◌, refl, sym, ap, ◌∙◌}
use lib.Dec.{eqb, leb}
use lib.ListN.{replicate, length}
use borrow.Author.Tests.{eq-eqb, ne_eqb, eqb-true, le-leb, lt-leb}
use Rattle.runs.specs.Runs.{Run, changed, runs_of}
use Rattle.runs.specs.Front.{front, after_front, later}
use Rattle.runs.proofs.RunLaws.{changed_is}
use Rattle.column_writer.specs.Column.{WrittenOp, WrittenOp.skip, WrittenOp.uniq, WrittenOp.same, Group, join, groups_of, join_uniq, stretch_ops, cut, cut_all, ops_of, uniqs, column_ops}
use Rattle.column_writer.specs.Piece.{NotFirst}
use Rattle.column_writer.proofs.BoundLaws.{cut_no_skip}

-- the first group has the first row's value
record Leads (w : ℕ) (gs : List Group) : Type 0 where
  many : ℕ
  others : List Group
  is : gs ≡ record { value = w; rows = many } ∷ others

join_leads : (v : ℕ) (gs : List Group) → Leads v (join v gs)
unfolding join
join_leads v [] = record { many = 1; others = []; is = refl }
join_leads v (g ∷ gs) = go (eqb v g.value) refl
  where
    go : (t : Bool) → eqb v g.value ≡ t → Leads v (join v (g ∷ gs))
    go true e = record { many = suc g.rows; others = gs; is = rw (e, join) (ap (λ (w : ℕ). record { value = w; rows = suc g.rows } ∷ gs) (sym (eqb-true v g.value e))) }
    go false e = record { many = 1; others = g ∷ gs; is = rw (e, join) }

join_apart : (v : ℕ) (vs : List ℕ) → NotFirst v vs → join v (groups_of vs) ≡ record { value = v; rows = 1 } ∷ groups_of vs
unfolding join groups_of
join_apart v [] h = refl
join_apart v (w ∷ ws) h = let l = join_leads w (groups_of ws) in rw l.is (rw (ne_eqb v w h, join))

join_same : (v n : ℕ) (gs : List Group) → join v (record { value = v; rows = n } ∷ gs) ≡ record { value = v; rows = suc n } ∷ gs
unfolding join
join_same v n gs = rw (eq-eqb v v refl, join)

-- rows with one value in front of others are a group
pub group_front : (n v : ℕ) (vs : List ℕ) → NotFirst v vs → groups_of (replicate (suc n) v ++ vs) ≡ record { value = v; rows = suc n } ∷ groups_of vs
unfolding groups_of
group_front zero v vs h = join_apart v vs h
group_front (suc n) v vs h = ap (join v) (group_front n v vs h) ∙ join_same v (suc n) (groups_of vs)

pub stretch_same : (n v : ℕ) (gs : List Group) → 4 ≤ n → stretch_ops (record { value = v; rows = n } ∷ gs) ≡ same n v ∷ stretch_ops gs
unfolding stretch_ops
stretch_same n v gs h = rw (le-leb 4 n h, stretch_ops)

pub stretch_few : (n v : ℕ) (gs : List Group) → n < 4 → stretch_ops (record { value = v; rows = n } ∷ gs) ≡ join_uniq (replicate n v) (stretch_ops gs)
unfolding stretch_ops
stretch_few n v gs h = rw (lt-leb 4 n h, stretch_ops)

pub stretch_none : stretch_ops (groups_of []) ≡ []
unfolding stretch_ops groups_of
stretch_none = refl

-- the rows of groups
unfoldable pub flat : List Group → List ℕ
flat [] = []
flat (g ∷ gs) = replicate g.rows g.value ++ flat gs

flat_join : (v : ℕ) (gs : List Group) → flat (join v gs) ≡ v ∷ flat gs
unfolding flat join
flat_join v [] = refl
flat_join v (g ∷ gs) = go (eqb v g.value) refl
  where
    go : (t : Bool) → eqb v g.value ≡ t → flat (join v (g ∷ gs)) ≡ v ∷ (replicate g.rows g.value ++ flat gs)
    go true e = rw (e, join) (ap (λ (x : ℕ). x ∷ (replicate g.rows g.value ++ flat gs)) (sym (eqb-true v g.value e)))
    go false e = rw (e, join)

pub flat_groups : (vs : List ℕ) → flat (groups_of vs) ≡ vs
unfolding flat groups_of
flat_groups [] = refl
flat_groups (v ∷ vs) = flat_join v (groups_of vs) ∙ ap (λ (l : List ℕ). v ∷ l) (flat_groups vs)

-- rows that become a Uniq, in two parts
pub join_uniq_join : (vs ws : List ℕ) (os : List WrittenOp) → join_uniq (vs ++ ws) os ≡ join_uniq vs (join_uniq ws os)
unfolding join_uniq
join_uniq_join vs ws [] = refl
join_uniq_join vs ws (skip n ∷ os) = refl
join_uniq_join vs ws (uniq us ∷ os) = ap (λ (l : List ℕ). uniq l ∷ os) (append_assoc vs ws us)
join_uniq_join vs ws (same c v ∷ os) = refl

pub join_uniq_none : (vs : List ℕ) → join_uniq vs [] ≡ uniq vs ∷ []
unfolding join_uniq
join_uniq_none vs = refl

pub join_uniq_same : (vs : List ℕ) (c v : ℕ) (os : List WrittenOp) → join_uniq vs (same c v ∷ os) ≡ uniq vs ∷ same c v ∷ os
unfolding join_uniq
join_uniq_same vs c v os = refl

-- the ops of runs: those of the stretch that begins at once, and those after it
pub ops_none : ops_of [] ≡ []
unfolding ops_of
ops_none = refl

run_at_once : (vs : List ℕ) (rs : List Run) → ops_of (record { gap = 0; bytes = vs } ∷ rs) ≡ cut_all (stretch_ops (groups_of vs)) ++ ops_of rs
unfolding ops_of cut_all
run_at_once vs rs = rw cut_no_skip

pub ops_split : (rs : List Run) → ops_of rs ≡ cut_all (stretch_ops (groups_of (front rs))) ++ ops_of (after_front rs)
unfolding front after_front
ops_split [] = rw stretch_none (unfold cut_all in refl)
ops_split (r ∷ rs) = go (eqb r.gap 0) refl
  where
    go : (t : Bool) → eqb r.gap 0 ≡ t → ops_of (r ∷ rs) ≡ cut_all (stretch_ops (groups_of (front (r ∷ rs)))) ++ ops_of (after_front (r ∷ rs))
    go true e = rw (e, front, after_front) (ap (λ (g : ℕ). ops_of (record { gap = g; bytes = r.bytes } ∷ rs)) (eqb-true r.gap 0 e) ∙ run_at_once r.bytes rs)
    go false e = rw (e, front, after_front, stretch_none) (unfold cut_all in refl)

pub cut_first : (o : WrittenOp) (os : List WrittenOp) (bs : List WrittenOp) → cut_all (o ∷ os) ++ bs ≡ cut o ++ (cut_all os ++ bs)
unfolding cut_all
cut_first o os bs = append_assoc (cut o) (cut_all os) bs

-- unchanged rows in front of a changed one
run_later : (n : ℕ) (vs : List ℕ) (rs : List Run) → ops_of (later n (record { gap = 0; bytes = vs } ∷ rs)) ≡ cut (skip n) ++ (cut_all (stretch_ops (groups_of vs)) ++ ops_of rs)
unfolding later ops_of
run_later n vs rs = let e : n + 0 ≡ n = omega arith in rw e (cut_first (skip n) (stretch_ops (groups_of vs)) (ops_of rs))

pub ops_later : (n a : ℕ) (rs : List Run) → ops_of (later n (changed a rs)) ≡ cut (skip n) ++ ops_of (changed a rs)
ops_later n a rs = rw (changed_is a rs) (rw (run_at_once (a ∷ front rs) (after_front rs)) (run_later n (a ∷ front rs) (after_front rs)))

-- what holds of the ops of the runs, and of Uniqs over all rows, holds of a column's ops
pub column_case : (P : List WrittenOp → Type 0) (old new : List ℕ) → P (ops_of (runs_of new old)) → P (uniqs (length new) new) → P (column_ops old new)
unfolding column_ops
column_case P old new p q = go (leb (length (ops_of (runs_of new old))) 255)
  where
    go : (t : Bool) → P (elim t as (λ _. List WrittenOp) [ true ↦ ops_of (runs_of new old) | false ↦ uniqs (length new) new ])
    go true = p
    go false = q
