-- Laws of chunks: a whole chunk lies within its parent, and so does what a search finds; chunks of two ids don't overlap.
use Prim.Native.Nat.{ℕ, ◌+◌, ◌-◌, ◌≤◌, ◌<◌}
use native.Mathlib.Omega.{arith}
use mathlib.Core.Bool.{Bool, true, false}
use mathlib.Core.Path.{◌≡◌, refl, sym, ap, ◌∙◌}
use mathlib.Core.List.{List, [], ◌∷◌, ◌++◌}
use mathlib.Core.Option.{Option, none, some}
use lib.Dec.{leb, eqb}
use lib.ListN.{length, get_or, set, length-set, length-replicate}
use Rattle.std.specs.Prelude.{replicate, ◌≢◌}
use Rattle.std.proofs.Common.{below_more, get_or-set_other, get_or-set_same}
use Rattle.std.proofs.lemmas.List.{get_or-replicate}
use native.Mathlib.Nat.{le_refl}
use borrow.Author.Tests.{leb-true, eqb-true}
use Rattle.laws.specs.Result.{Res, Res.ok, Res.fault, ◌>>=◌, or_refuse, pick}
use Rattle.laws.specs.Every.{Every, Every.every_none, Every.every_cons}
use Rattle.laws.proofs.EveryLaws.{every_more}
use Rattle.laws.proofs.ResultLaws.{Each, Each.each, Each.no_value, All, All.all_some, All.all_none, each_need, each_ok, each_pick, each_bind, each_self, pick_both, all_value, each_some, made_of, ok_same, each_is}
use Rattle.laws.proofs.LoopLaws.{Going, starts, turns, stops, Comes, Comes.comes_next, Comes.comes_done, iterate_holds}
use Rattle.laws.specs.Bytes.{be32}
use Rattle.refusal.specs.Number.{number_of}
use Rattle.refusal.specs.declared.Refusal.{Refusal}
use Rattle.std.specs.Prelude.{Ok, Err, None, Option as Maybe}
use Rattle.iff.specs.declared.Part.{Part as FoundPart}
use Rattle.iff.specs.Chunk.{Chunk, padded, chunk_at, Walk, walk_on, walk_step, chunks, Part, part_of, first, find, found_of, FindsAll, or_part}

-- a chunk at a place lies within the parent, and the next place is past it
pub record Within (s : List ℕ) (at : ℕ) (c : Chunk) : Type 0 where
  pub starts : at + 8 ≤ c.start
  pub holds : c.start + c.size ≤ c.next
  pub rises : at < c.next
  pub ends : c.next ≤ length s

-- a part lies within the parent
pub record Lies (s : List ℕ) (p : Part) : Type 0 where
  pub ends : p.start + p.size ≤ length s

pub chunk_within : (s : List ℕ) (at : ℕ) → Each (All (Within s at)) (chunk_at s at)
unfolding chunk_at
chunk_within s at =
    each_pick (leb (length s) at) (λ _. each all_none)
    (λ _. each_need (leb (at + 8) (length s)) 21 _ λ _. each_need (leb (at + 8 + padded (be32 s (at + 4))) (length s)) 21 _ λ h.
    each (all_some (record { starts = omega arith; holds = omega arith; rises = omega arith; ends = leb-true (at + 8 + padded (be32 s (at + 4))) (length s) h })))

-- the bytes that chunks take in their parent, without their pads
abbrev taken : List Chunk → ℕ
taken [] = 0
taken (c ∷ cs) = c.size + 8 + taken cs

taken_more : (cs : List Chunk) (c : Chunk) → taken (cs ++ (c ∷ [])) ≡ taken cs + (c.size + 8)
taken_more [] c = omega arith
taken_more (d ∷ cs) c = omega (arith, taken_more cs c)

-- chunks up to a place of a parent lie within it, and don't overlap
record Before (s : List ℕ) (at : ℕ) (cs : List Chunk) : Type 0 where
  inside : at ≤ length s
  lie : Every (λ (c : Chunk). Lies s (part_of c)) cs
  room : taken cs ≤ at

walk_before : (s : List ℕ) (w : Walk) → Before s w.at w.passed → (r : Res (Option Chunk)) → Each (All (Within s w.at)) r
    → Comes (λ (v : Walk). Before s v.at v.passed) (Each (Before s (length s))) (walk_on w r)
walk_before s w b (ok none) h = comes_done (each (record { inside = omega arith; lie = b.lie; room = omega arith }))
walk_before s w b (ok (some c)) h =
    let k : Within s w.at c = all_value (each_ok h) in
    comes_next (record { inside = k.ends; lie = every_more {x = c} b.lie (record { ends = omega arith }); room = rw (taken_more w.passed c) (omega arith) })
walk_before s w b (fault n) h = comes_done no_value

chunks_before : (s : List ℕ) → Each (Before s (length s)) (chunks s)
unfolding chunks
chunks_before s =
    iterate_holds (walk_step s) (λ w. length s - w.at) (fault 21) (λ (w : Walk). Before s w.at w.passed) (Each (Before s (length s))) no_value
    (λ w b. walk_before s w b (chunk_at s w.at) (chunk_within s w.at)) (record { at = 0; passed = [] }) (record { inside = omega arith; lie = every_none; room = omega arith })

first_lies : (id : ℕ) {s : List ℕ} {cs : List Chunk} → Every (λ (c : Chunk). Lies s (part_of c)) cs → All (Lies s) (first cs id)
first_lies id every_none = all_none
first_lies id {s} (every_cons {x = c} p ps) = pick_both (All (Lies s)) (eqb c.id id) (all_some p) (first_lies id ps)

pub find_lies : (id : ℕ) (s : List ℕ) → Each (All (Lies s)) (find s id)
unfolding find
find_lies id s = each_bind (chunks_before s) λ cs b. each (first_lies id b.lie)

pub found : (n id : ℕ) (s : List ℕ) → Each (λ (p : Part). find s id ≡ ok (some p)) (find s id >>= or_refuse n)
found n id s = each_bind (each_self (find s id)) go
  where
    go : (o : Option Part) → find s id ≡ ok o → Each (λ (p : Part). find s id ≡ ok (some p)) (or_refuse n o)
    go (some p) e = each e
    go none e = no_value

-- the bytes of a chunk that was found, with its header
abbrev bytes : Option Part → ℕ
bytes (some p) = p.size + 8
bytes none = 0

one_fits : (id : ℕ) (cs : List Chunk) → bytes (first cs id) ≤ taken cs
one_fits id [] = omega arith
one_fits id (c ∷ cs) = pick_both (λ o. bytes o ≤ c.size + 8 + taken cs) (eqb c.id id) (omega arith) (omega (arith, one_fits id cs))

module _ (x y : ℕ) (differ : x ≡ y → ⊥) where
  both_fit : (cs : List Chunk) → bytes (first cs x) + bytes (first cs y) ≤ taken cs
  both_fit [] = omega arith
  both_fit (c ∷ cs) = go (eqb c.id x) refl (eqb c.id y) refl (both_fit cs)
    where
      go : (t : Bool) → eqb c.id x ≡ t → (u : Bool) → eqb c.id y ≡ u → bytes (first cs x) + bytes (first cs y) ≤ taken cs
          → bytes (pick t (some (part_of c)) (first cs x)) + bytes (pick u (some (part_of c)) (first cs y)) ≤ c.size + 8 + taken cs
      go true p true q h = absurd (differ (sym (eqb-true c.id x p) ∙ eqb-true c.id y q))
      go true p false q h = omega (arith, one_fits y cs)
      go false p true q h = omega (arith, one_fits x cs)
      go false p false q h = omega arith

  -- so two chunks that a parent has leave room for their headers
  pub parts_room : (s : List ℕ) (p q : Part) → find s x ≡ ok (some p) → find s y ≡ ok (some q) → p.size + 8 + (q.size + 8) ≤ length s
  unfolding find
  parts_room s p q e f =
      let k = made_of (chunks s) e in
      let g = ok_same (rw k.1 at f) in
      omega (arith, (each_is k.1 (chunks_before s)).room, rw (k.2, g) at (both_fit k.0))

-- the first chunk of an id in a list with one chunk more
first_more : (id : ℕ) (cs : List Chunk) (c : Chunk) → ok (first (cs ++ (c ∷ [])) id) ≡ pick (eqb c.id id) (or_part (ok (first cs id)) (part_of c)) (ok (first cs id))
first_more id [] c = go (eqb c.id id)
  where
    go : (t : Bool) → ok (pick t (some (part_of c)) none) ≡ pick t (ok (some (part_of c))) (ok none)
    go true = refl
    go false = refl
first_more id (d ∷ cs) c = go (eqb d.id id) (eqb c.id id) (first_more id cs c)
  where
    go : (u t : Bool) → ok (first (cs ++ (c ∷ [])) id) ≡ pick t (or_part (ok (first cs id)) (part_of c)) (ok (first cs id))
        → ok (pick u (some (part_of d)) (first (cs ++ (c ∷ [])) id)) ≡ pick t (or_part (ok (pick u (some (part_of d)) (first cs id))) (part_of c)) (ok (pick u (some (part_of d)) (first cs id)))
    go true true h = refl
    go true false h = refl
    go false t h = h

-- a walk at a place, and what the searches for ids have found up to it
pub record Searches (s ids : List ℕ) (at : ℕ) (found : List (Maybe FoundPart)) : Type 0 where
  pub before : List Chunk
  pub going : Going (walk_step s) (λ w. length s - w.at) (fault 21) (chunks s) (record { at = at; passed = before })
  pub as_many : length found ≡ length ids
  pub same : (k : ℕ) → k < length ids → found_of (Ok (get_or found k None)) ≡ ok (first before (get_or ids k 0))

pub search_starts : (s ids : List ℕ) (n : ℕ) → length ids ≡ n → Searches s ids 0 (replicate n None)
unfolding chunks
search_starts s ids n e = record { before = []; going = starts refl; as_many = rw length-replicate (omega arith); same = λ k l. let m : k < n = omega arith in rw get_or-replicate refl }

-- what a search has found past a chunk, by what it had found before it
abbrev Past : ℕ → Chunk → Maybe FoundPart → Maybe FoundPart → Type 0
Past id c f g = found_of (Ok g) ≡ pick (eqb c.id id) (or_part (found_of (Ok f)) (part_of c)) (found_of (Ok f))

-- the searches for the ids before the i-th are past a chunk, and the others before it
pub record Passes (ids : List ℕ) (c : Chunk) (i : ℕ) (f g : List (Maybe FoundPart)) : Type 0 where
  pub done : (k : ℕ) → k < i → Past (get_or ids k 0) c (get_or f k None) (get_or g k None)
  pub left : (k : ℕ) → i ≤ k → get_or g k None ≡ get_or f k None
  pub as_many : length g ≡ length f

pub passes_one : {ids : List ℕ} {c : Chunk} {i : ℕ} {f g : List (Maybe FoundPart)} (v : Maybe FoundPart) → Passes ids c i f g → i < length g → Past (get_or ids i 0) c (get_or g i None) v
    → Passes ids c (i + 1) f (set g i v)
passes_one {ids} {c} {i} {f} {g} v p l h =
    record {
      done = below_more _ _ (λ k m. let ne : k ≢ i = omega arith in rw get_or-set_other (p.done k m)) (rw get_or-set_same (rw (p.left i (le_refl i)) at h));
      left = λ k m. let ne : k ≢ i = omega arith in rw get_or-set_other (p.left k (omega arith));
      as_many = rw length-set p.as_many;
    }

module _ {s ids : List ℕ} {at : ℕ} {f : List (Maybe FoundPart)} (h : Searches s ids at f) where
  pub search_past : {c : Chunk} {g : List (Maybe FoundPart)} → chunk_at s at ≡ ok (some c) → Passes ids c (length ids) f g → Searches s ids c.next g
  search_past {c} e p =
      let k : Within s at c = each_some e (chunk_within s at) in
      record {
        before = h.before ++ (c ∷ []);
        going = turns h.going (ap (walk_on (record { at = at; passed = h.before })) e) (omega (arith, k.rises, k.ends));
        as_many = p.as_many ∙ h.as_many;
        same = λ i l. p.done i l ∙ rw (h.same i l) (sym (first_more (get_or ids i 0) h.before c));
      }

  pub search_ends : chunk_at s at ≡ ok none → FindsAll s ids (Ok f)
  unfolding find
  search_ends e =
      let d : ok h.before ≡ chunks s = stops h.going (ap (walk_on (record { at = at; passed = h.before })) e) in
      record { each = λ k l. rw (← d) (h.same k l) }

  pub search_breaks : {why : Refusal} → chunk_at s at ≡ fault (number_of why) → FindsAll s ids (Err why)
  unfolding find
  search_breaks {why} e =
      let d : fault (number_of why) ≡ chunks s = stops h.going (ap (walk_on (record { at = at; passed = h.before })) e) in
      record { each = λ k l. rw (← d) refl }
