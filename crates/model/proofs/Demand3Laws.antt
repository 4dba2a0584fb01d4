-- What demand 3 is proved from: every call that met its contract is seen as the model says.
use Prim.Native.Nat.{ℕ, suc}
use mathlib.Core.List.{List, [], ◌++◌}
use mathlib.Core.Option.{Option, none, some}
use mathlib.Core.Path.{◌≡◌, refl, ap, ◌∙◌}
use lib.Dec.{leb, ltb, eqb}
use lib.ListN.{length, drop}
use lib.Seq.{take-append_seam}
use Rattle.laws.specs.Result.{Res, Res.ok, Res.fault}
use Rattle.laws.proofs.ResultLaws.{pick_both, never}
use Rattle.state.specs.State.{opened}
use Rattle.record.specs.Record.{Past, past_of}
use Rattle.step_on.specs.declared.SteppedOn.{SteppedOn}
use Rattle.step_back.specs.declared.SteppedBack.{SteppedBack}
use Rattle.frame.specs.Frame.{Frame}
use Rattle.state.specs.World.{World, is_odd}
use Rattle.state.specs.After.{lent, Answer, Answer.refused, Answer.ended, Answer.took_on, Answer.took_back}
use Rattle.step_on.specs.Step.{on_of, MeetsOn, step_on}
use Rattle.step_back.specs.Back.{MeetsBack, step_back}
use Rattle.state.specs.Film.{Film}
use Rattle.model.specs.Model.{Call, Seen, here, built_at, place_at, picture, map_at, record_at, stands, report_at, answer_for, answer_at, answer_on, answer_first, number_after, record_after, model}
use Rattle.model.specs.Trace.{Handed, Handed.latest, record_in, untaken, seen_on, seen_back, Trace, Trace.none_left, Trace.stepped_on, Trace.stepped_back}
use Rattle.model.proofs.Laws.{on_world, on_rec}
use Rattle.model.proofs.Opened.{Opened, size}
use Rattle.model.proofs.Reached.{Reached, records, Comes, Reached.first, Reached.next}
use Rattle.model.proofs.StepsOn.{on_comes}
use Rattle.model.proofs.StepsBack.{back_first, back_taken}

-- what holds of every refusal, of End and of every report holds of a step on's answer
module _ (P : Answer → Type 0) (F : Film) (m room : ℕ) (off : (n : ℕ) → P (refused n)) (end : P ended) (took : (x : Frame) → P (took_on (report_at F m x))) where
  built_case : (x : Frame) (c : Res (List ℕ)) → P (answer_for F m room x c)
  built_case x (ok f) = pick_both P (leb (length (record_at F m)) room) (took x) (off 51)
  built_case x (fault n) = off n

  here_case : (o : Res (Option Frame)) → P (answer_at F m room o)
  unfolding answer_at
  here_case (ok (some x)) = built_case x (built_at F m x)
  here_case (ok none) = end
  here_case (fault n) = off n

  answer_case : (work : ℕ) → P (answer_on F m work room)
  unfolding answer_on
  answer_case work = pick_both P (eqb work (size F)) (pick_both P (ltb (suc m) 1_000_000) (here_case (here F (place_at F m))) (off 53)) (off 12)

-- a taken step on reports its record's length
record Reports (F : Film) (m : ℕ) (x : Answer) : Type 0 where
  bytes : (rec rest : List ℕ) → rec ≡ record_after F m x ++ rest → record_in x rec ≡ record_after F m x

reports : (F : Film) (m work room : ℕ) → Reports F m (answer_on F m work room)
unfolding record_in record_after report_at
reports F m work room =
    answer_case (Reports F m) F m room (λ n. record { bytes = λ rec rest q. refl }) (record { bytes = λ rec rest q. refl })
    (λ x. record { bytes = λ rec rest q. rw q (take-append_seam (record_at F m) rest) }) work

-- the records after a call
untaken_on : (F : Film) (m : ℕ) (x : Answer) → (x ≡ took_back → ⊥) → untaken x (record_after F m x) (records F m) ≡ records F (number_after m x)
unfolding untaken record_after number_after records
untaken_on F m (refused n) h = refl
untaken_on F m ended h = refl
untaken_on F m (took_on r) h = refl
untaken_on F m took_back h = absurd (h refl)

-- a step on is never answered as a step back
on_forward : (F : Film) (m work room : ℕ) → answer_on F m work room ≡ took_back → ⊥
on_forward F m work room = answer_case (λ (x : Answer). x ≡ took_back → ⊥) F m room (λ n e. never (cc)) (λ e. never (cc)) (λ x e. never (cc)) work

-- a call that met its contract is seen as the model says
module _ (F : Film) (op : Opened F) {m : ℕ} (p : Reached F m) {w : World} (ew : w ≡ stands F m) where
  on_seen : (work rec : List ℕ) (r : SteppedOn) (a b map work' rec' : List ℕ) → MeetsOn F.file (record { world = w; work = work; rec = rec }) r (lent a b map r.state work' rec')
      → seen_on r a b map rec' ≡ record { answer = answer_on F m (length work) (length rec); world = stands F (number_after m (answer_on F m (length work) (length rec))); bytes = record_after F m (answer_on F m (length work) (length rec)) }
  on_seen work rec r a b map work' rec' h =
      let k : MeetsOn F.file (record { world = stands F m; work = work; rec = rec }) r (lent a b map r.state work' rec') = rw ew at h in
      let c = on_comes F op m p (length rec) (length work) in
      let x : on_of r.answer ≡ answer_on F m (length work) (length rec) = k.answer ∙ c.answer in
      let y : record_in (on_of r.answer) rec' ≡ record_after F m (answer_on F m (length work) (length rec)) =
      rw x ((reports F m (length work) (length rec)).bytes rec' (drop (length (step_on F.file (stands F m) (length work) (length rec)).bytes) rec) (on_rec k ∙ rw c.bytes)) in
      λ i. record { answer = x i; world = (on_world k ∙ c.world) i; bytes = y i }

  back_seen : (bytes : List ℕ) (x : Answer) (m' : ℕ) (r : SteppedBack) (a b map : List ℕ) → Comes F m m' x [] (step_back (stands F m) bytes) → MeetsBack w bytes r (record { a = a; b = b; map = map; state = r.state })
      → seen_back r a b map ≡ record { answer = x; world = stands F m'; bytes = [] }
  back_seen bytes x m' r a b map c h =
      let k : MeetsBack (stands F m) bytes r (record { a = a; b = b; map = map; state = r.state }) = rw ew at h in
      λ i. record { answer = (k.answer ∙ c.answer) i; world = (k.left ∙ c.world) i; bytes = [] }

untaken_first : (F : Film) (q : Option Past) → untaken (answer_first q) [] [] ≡ []
unfolding untaken
untaken_first F none = refl
untaken_first F (some p) = refl

untaken_back : (F : Film) (m : ℕ) → untaken took_back [] (records F (suc m)) ≡ records F m
unfolding untaken records
untaken_back F m = refl

-- the bytes that a step back may be handed at frame m + 2
handed_latest : (F : Film) (m : ℕ) (bytes : List ℕ) → Handed (records F (suc m)) bytes → bytes ≡ record_at F m
unfolding records
handed_latest F m bytes latest = refl

-- from every frame that can be reached
pub from_there : (F : Film) → Opened F → {w : World} {rs : List (List ℕ)} {cs : List Call} {os : List Seen} → Trace F.file w rs cs os
    → (m : ℕ) → Reached F m → w ≡ stands F m → rs ≡ records F m → os ≡ model F m cs
unfolding model records
from_there F o none_left m p ew er = refl
from_there F o (stepped_on {rs = rs} work rec r a b map work' rec' h t) m p ew er =
    let y : Answer = answer_on F m (length work) (length rec) in
    let e = on_seen F o p ew work rec r a b map work' rec' h in
    let c = on_comes F o m p (length rec) (length work) in
    let ih = from_there F o t (number_after m y) c.there (ap (λ (s : Seen). s.world) e) (ap (λ (s : Seen). untaken s.answer s.bytes rs) e ∙ rw er (untaken_on F m y (on_forward F m (length work) (length rec)))) in
    rw (e, ih)
from_there F o (stepped_back {rs = rs} bytes r a b map g h t) m first ew er =
    let c = back_first F o bytes in
    let e = back_seen F o first ew bytes (answer_first (past_of bytes F.first F.map)) 0 r a b map c h in
    let ih = from_there F o t 0 first (ap (λ (s : Seen). s.world) e) (ap (λ (s : Seen). untaken s.answer [] rs) e ∙ rw er (untaken_first F (past_of bytes F.first F.map))) in
    rw (e, ih)
from_there F o (stepped_back {rs = rs} bytes r a b map g h t) m (next {m = n} x i p q d l) ew er =
    let c = back_taken F o (next x i p q d l) in
    let k : MeetsBack _ (record_at F n) r (record { a = a; b = b; map = map; state = r.state }) = rw (handed_latest F n bytes (rw er at g)) at h in
    let e = back_seen F o (next x i p q d l) ew (record_at F n) took_back n r a b map c k in
    let ih = from_there F o t n p (ap (λ (s : Seen). s.world) e) (ap (λ (s : Seen). untaken s.answer [] rs) e ∙ rw er (untaken_back F n)) in
    rw (e, ih)

-- the world after an opening is the model's first
pub opened_stands : (F : Film) → ◌≡◌ {A = World} (record { a = F.first; b = F.first; map = F.map; state = opened F.sizes F.start F.end }) (stands F 0)
unfolding stands picture place_at map_at is_odd
opened_stands F = refl
