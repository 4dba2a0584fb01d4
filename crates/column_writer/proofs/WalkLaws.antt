-- Laws of the writer's walk down a column: each turn of its searches, and the pieces that they find.
use Prim.Native.Nat.{ℕ, zero, suc, ◌+◌, ◌-◌, ◌≤◌, ◌<◌}
use native.Mathlib.Numerals.{add-one}
use native.Mathlib.Omega.{arith}
use native.Mathlib.Decide.{ℕ_discrete as dec_eq}
use mathlib.Core.List.{List, [], ◌∷◌, ◌++◌, append_assoc}
use mathlib.Core.Path.{◌≡◌, refl, sym, ap, ◌∙◌}
use lib.ListN.{length, get_or, take, drop, replicate, length-drop, replicate-append-replicate}
use lib.Seq.{drop-cons, drop-drop, take-add, take-suc, get_or-drop}
use Rattle.runs.specs.Front.{runs_at, front, after_front, later}
use Rattle.runs.proofs.RunLaws.{runs_end, kept_at, changed_at, front_changed, after_front_changed, front_kept, later_none, later_kept}
use Rattle.column_writer.specs.Column.{WrittenOp, WrittenOp.uniq, WrittenOp.same, groups_of, join_uniq, stretch_ops, cut, cut_all, ops_of}
use Rattle.column_writer.specs.Piece.{NotFirst, ops_at, Unchanged, GroupPart, GroupRows, UniqRows, NextPiece}
use Rattle.column_writer.specs.declared.piece.PieceKind.TheVariants.{Rest, Skip, Same, Uniq}
use Rattle.column_writer.proofs.ColumnLaws.{group_front, stretch_same, stretch_few, stretch_none, join_uniq_join, join_uniq_none, join_uniq_same, ops_split, cut_first, ops_later}

-- a search for a changed row
pub record Passed (old new : List ℕ) (from i : ℕ) : Type 0 where
  pub low : from ≤ i
  pub high : i ≤ length new
  pub runs : runs_at new old from ≡ later (i - from) (runs_at new old i)

pub passed_none : {old new : List ℕ} {from : ℕ} → from ≤ length new → Passed old new from from
passed_none {old} {new} {from} h =
    let e : from - from ≡ 0 = omega arith in
    record { low = omega arith; high = h; runs = rw e (sym (later_none (runs_at new old from))) }

module _ {old new : List ℕ} {from i : ℕ} (p : Passed old new from i) where
  pub passed_more : length old ≡ length new → i < length new → get_or new i 0 ≡ get_or old i 0 → Passed old new from (i + 1)
  passed_more l h e =
      let n : i + 1 - from ≡ i - from + 1 = omega (arith, p.low) in
      record { low = omega (arith, p.low); high = omega arith; runs = p.runs ∙ rw (kept_at new old i h l e, n) (later_kept (i - from) (runs_at new old (i + 1))) }

  pub passed_all_lem : length new ≤ i → Unchanged old new from i
  passed_all_lem h = record { low = p.low; high = p.high; runs = p.runs; stops = λ k. absurd (omega arith) }

-- what a changed row, and one that isn't, tell of the stretch
module _ (old new : List ℕ) (i : ℕ) (h : i < length new) (l : length old ≡ length new) where
  front_at : (get_or new i 0 ≡ get_or old i 0 → ⊥) → front (runs_at new old i) ≡ get_or new i 0 ∷ front (runs_at new old (i + 1))
  front_at e = rw (changed_at new old i h l e) (front_changed (get_or new i 0) (runs_at new old (i + 1)))

  after_front_at : (get_or new i 0 ≡ get_or old i 0 → ⊥) → after_front (runs_at new old i) ≡ after_front (runs_at new old (i + 1))
  after_front_at e = rw (changed_at new old i h l e) (after_front_changed (get_or new i 0) (runs_at new old (i + 1)))

  pub front_unchanged : get_or new i 0 ≡ get_or old i 0 → front (runs_at new old i) ≡ []
  front_unchanged e = rw (kept_at new old i h l e) (front_kept (runs_at new old (i + 1)))

  front_other : (v : ℕ) → (get_or new i 0 ≡ v → ⊥) → NotFirst v (front (runs_at new old i))
  front_other v n = go (dec_eq (get_or new i 0) (get_or old i 0))
    where
      go : Dec (get_or new i 0 ≡ get_or old i 0) → NotFirst v (front (runs_at new old i))
      go (yes e) = rw (front_unchanged e) tt
      go (no e) = rw (front_at e) (λ p. n (sym p))

pub front_end : (old new : List ℕ) (i : ℕ) → length new ≤ i → front (runs_at new old i) ≡ []
front_end old new i h = rw (runs_end new old i h) (unfold front in refl)

-- a group of rows with one value
snoc_replicate : (n v : ℕ) → replicate n v ++ (v ∷ []) ≡ replicate (n + 1) v
snoc_replicate n v = replicate-append-replicate n 1 v

pub group_starts : (old new : List ℕ) (from : ℕ) → length old ≡ length new → from < length new → (get_or new from 0 ≡ get_or old from 0 → ⊥) → GroupPart old new from (from + 1)
group_starts old new from l h e =
    let n : from + 1 - from ≡ 1 = omega arith in
    record {
      low = omega arith;
      high = omega arith;
      rows = rw (n, drop-cons new from 0 h);
      before = rw n (front_at old new from h l e);
      after = after_front_at old new from h l e;
    }

module _ {old new : List ℕ} {from i : ℕ} (g : GroupPart old new from i) where
  pub group_more : length old ≡ length new → i < length new → get_or new i 0 ≡ get_or new from 0 → (get_or new i 0 ≡ get_or old i 0 → ⊥) → GroupPart old new from (i + 1)
  group_more l h s e =
      let n : i + 1 - from ≡ i - from + 1 = omega (arith, g.low) in
      let r : from + (i - from) ≡ i = omega (arith, g.low) in
      let at : get_or (drop from new) (i - from) 0 ≡ get_or new from 0 = get_or-drop from new (i - from) 0 ∙ rw r s in
      let inside : i - from < length (drop from new) = simp length-drop (omega (arith, g.low)) in
      record {
        low = omega (arith, g.low);
        high = omega arith;
        rows = rw n (rw (add-one (i - from), take-suc (drop from new) (i - from) 0 inside, at, g.rows) (snoc_replicate (i - from) (get_or new from 0) ∙ rw (add-one (i - from))));
        before = g.before ∙ rw (front_at old new i h l e, s, n) (joined (i - from) (get_or new from 0) (front (runs_at new old (i + 1))));
        after = g.after ∙ after_front_at old new i h l e;
      }
    where
      joined : (n v : ℕ) (vs : List ℕ) → replicate n v ++ (v ∷ vs) ≡ replicate (n + 1) v ++ vs
      joined n v vs = sym (append_assoc (replicate n v) (v ∷ []) vs) ∙ ap (λ (t : List ℕ). t ++ vs) (snoc_replicate n v)

  pub group_other : length old ≡ length new → i < length new → (get_or new i 0 ≡ get_or new from 0 → ⊥) → GroupRows old new from i
  group_other l h n = record { part = g; ends = front_other old new i h l (get_or new from 0) n }

  pub group_unchanged : length old ≡ length new → i < length new → get_or new i 0 ≡ get_or old i 0 → GroupRows old new from i
  group_unchanged l h e = record { part = g; ends = rw (front_unchanged old new i h l e) tt }

  pub group_last : length new ≤ i → {end : ℕ} → end ≡ i → GroupRows old new from end
  group_last h e = rw e (let r : GroupRows old new from i = record { part = g; ends = rw (front_end old new i h) tt } in r)

-- the ops of the stretch that a row lies in, before they are cut
unfoldable pub stretch_at : List ℕ → List ℕ → ℕ → List WrittenOp
stretch_at old new i = stretch_ops (groups_of (front (runs_at new old i)))

ops_at_lem : (old new : List ℕ) (i : ℕ) → ops_at old new i ≡ cut_all (stretch_at old new i) ++ ops_of (after_front (runs_at new old i))
unfolding stretch_at
ops_at_lem old new i = ops_split (runs_at new old i)

module _ {old new : List ℕ} {from end : ℕ} (g : GroupRows old new from end) where
  groups_at : groups_of (front (runs_at new old from)) ≡ record { value = get_or new from 0; rows = end - from } ∷ groups_of (front (runs_at new old end))
  groups_at = rw g.part.before (go (end - from) (omega (arith, g.part.low)))
    where
      go : (n : ℕ) → 0 < n → groups_of (replicate n (get_or new from 0) ++ front (runs_at new old end)) ≡ record { value = get_or new from 0; rows = n } ∷ groups_of (front (runs_at new old end))
      go zero h = absurd (omega arith)
      go (suc n) h = group_front n (get_or new from 0) (front (runs_at new old end)) g.ends

  at_same : 4 ≤ end - from → stretch_at old new from ≡ same (end - from) (get_or new from 0) ∷ stretch_at old new end
  unfolding stretch_at
  at_same h = rw groups_at (stretch_same (end - from) (get_or new from 0) (groups_of (front (runs_at new old end))) h)

  at_few : end - from < 4 → stretch_at old new from ≡ join_uniq (take (end - from) (drop from new)) (stretch_at old new end)
  unfolding stretch_at
  at_few h = rw (groups_at, g.part.rows) (stretch_few (end - from) (get_or new from 0) (groups_of (front (runs_at new old end))) h)

  same_ops : 4 ≤ end - from → ops_at old new from ≡ cut (same (end - from) (get_or new from 0)) ++ ops_at old new end
  same_ops h =
      ops_at_lem old new from
      ∙ rw (at_same h, g.part.after, ops_at_lem old new end) (cut_first (same (end - from) (get_or new from 0)) (stretch_at old new end) (ops_of (after_front (runs_at new old end))))

-- rows that become Uniqs
pub record UniqPart (old new : List ℕ) (from i : ℕ) : Type 0 where
  pub low : from < i
  pub high : i ≤ length new
  pub before : stretch_at old new from ≡ join_uniq (take (i - from) (drop from new)) (stretch_at old new i)
  pub after : after_front (runs_at new old from) ≡ after_front (runs_at new old i)

pub uniq_part_starts : {old new : List ℕ} {from first : ℕ} → GroupRows old new from first → first - from < 4 → UniqPart old new from first
uniq_part_starts g h = record { low = g.part.low; high = g.part.high; before = at_few g h; after = g.part.after }

module _ {old new : List ℕ} {from i : ℕ} (w : UniqPart old new from i) where
  pub uniq_part_more : {end : ℕ} → GroupRows old new i end → end - i < 4 → UniqPart old new from end
  uniq_part_more {end} g h =
      let r : from + (i - from) ≡ i = omega (arith, w.low) in
      let d : drop (i - from) (drop from new) ≡ drop i new = drop-drop (i - from) from new ∙ rw r in
      let n : end - from ≡ i - from + (end - i) = omega (arith, w.low, g.part.low) in
      record {
        low = omega (arith, w.low, g.part.low);
        high = g.part.high;
        before = w.before ∙ rw (at_few g h, n, take-add (i - from) (end - i) (drop from new), d) (sym (join_uniq_join (take (i - from) (drop from new)) (take (end - i) (drop i new)) (stretch_at old new end)));
        after = w.after ∙ g.part.after;
      }

  uniq_part_is : (os : List WrittenOp) → stretch_at old new i ≡ os → join_uniq (take (i - from) (drop from new)) os ≡ uniq (take (i - from) (drop from new)) ∷ os → UniqRows old new from i
  uniq_part_is os e f = record {
    low = w.low;
    high = w.high;
    ops =
        ops_at_lem old new from
        ∙ rw (w.before, w.after, e, f, ops_at_lem old new i, e) (cut_first (uniq (take (i - from) (drop from new))) os (ops_of (after_front (runs_at new old i))));
  }

  pub uniq_part_none_left : front (runs_at new old i) ≡ [] → UniqRows old new from i
  unfolding stretch_at
  uniq_part_none_left e = uniq_part_is [] (rw e stretch_none) (join_uniq_none (take (i - from) (drop from new)))

  pub uniq_part_stops : {end : ℕ} → GroupRows old new i end → 4 ≤ end - i → UniqRows old new from i
  uniq_part_stops {end} g h = uniq_part_is (same (end - i) (get_or new i 0) ∷ stretch_at old new end) (at_same g h) (join_uniq_same (take (i - from) (drop from new)) (end - i) (get_or new i 0) (stretch_at old new end))

-- the next piece
module _ {old new : List ℕ} {from start : ℕ} (u : Unchanged old new from start) where
  pub piece_rest : from < length new → length new ≤ start → NextPiece old new from Rest (start - from)
  piece_rest h k =
      let e : from + (start - from) ≡ start = omega (arith, u.low) in
      record { some = omega arith; inside = omega (arith, u.high); ops = rw (e, u.runs, runs_end new old start k) (unfold later in refl) }

  pub piece_skip : length old ≡ length new → start < length new → from < start → NextPiece old new from Skip (start - from)
  piece_skip l h k =
      let e : from + (start - from) ≡ start = omega arith in
      record {
        some = omega arith;
        inside = omega arith;
        ops = rw (e, u.runs, changed_at new old start h l (u.stops h)) (ops_later (start - from) (get_or new start 0) (runs_at new old (start + 1)));
      }

  pub changed_here : start < length new → start ≤ from → get_or new from 0 ≡ get_or old from 0 → ⊥
  changed_here h k = let e : start ≡ from = omega (arith, u.low) in rw e at (u.stops h)

first_of : (new : List ℕ) (from : ℕ) → from < length new → get_or (drop from new) 0 0 ≡ get_or new from 0
first_of new from h = get_or-drop from new 0 0 ∙ ap (λ (k : ℕ). get_or new k 0) (omega arith)

pub piece_same : {old new : List ℕ} {from end : ℕ} → GroupRows old new from end → 4 ≤ end - from → NextPiece old new from Same (end - from)
piece_same {old} {new} {from} {end} g h =
    let e : from + (end - from) ≡ end = omega (arith, g.part.low) in
    record {
      some = omega arith;
      inside = omega (arith, g.part.low, g.part.high);
      ops = rw (e, first_of new from (omega (arith, g.part.low, g.part.high))) (same_ops g h);
    }

pub piece_uniq : {old new : List ℕ} {from end : ℕ} → UniqRows old new from end → NextPiece old new from Uniq (end - from)
piece_uniq {old} {new} {from} {end} w =
    let e : from + (end - from) ≡ end = omega (arith, w.low) in
    record { some = omega (arith, w.low); inside = omega (arith, w.low, w.high); ops = rw e w.ops }
