-- Demand 3: after an opening that wasn't refused both pictures, the map and the state are the model's, and so are every answer, every taken
-- step on's record, both pictures, the map and the state after every call.
use Prim.Native.Nat.{ℕ}
use mathlib.Core.List.{List, []}
use mathlib.Core.Path.{◌≡◌, refl, sym, ◌∙◌, ap}
use lib.ListN.{length}
use Rattle.laws.specs.Result.{Res.ok}
use Rattle.laws.proofs.ResultLaws.{answered, each_is}
use Rattle.refusal.specs.Number.{result_of}
use Rattle.state.specs.World.{World}
use Rattle.opening.specs.declared.OpenedFile.{OpenedFile}
use Rattle.opening.specs.Open.{opening, world_opened, MeetsOpen}
use Rattle.model.specs.Model.{Call, Seen, stands, model_of}
use Rattle.model.specs.Trace.{Trace}
use Rattle.model.proofs.Opened.{opening_opened}
use Rattle.model.proofs.Reached.{records, Reached.first}
use Rattle.model.proofs.Demand3Laws.{from_there, opened_stands}

pub demand_3 : (file a b map : List ℕ) (r : OpenedFile) (a' b' map' : List ℕ) → MeetsOpen file a b map r (record { a = a'; b = b'; map = map'; state = r.state }) → result_of r.answer ≡ ok tt
    → (calls : List Call) (seen : List Seen) → Trace file (record { a = a'; b = b'; map = map'; state = r.state }) [] calls seen
    → model_of file calls ≡ ok (record { opened = record { a = a'; b = b'; map = map'; state = r.state }; seen = seen })
unfolding model_of records
demand_3 file a b map r a' b' map' h e calls seen t =
    let q = answered (opening file (length a) (length b) (length map)) (sym e ∙ h.answer) in
    let F = q.0 in
    let k = each_is q.1 (opening_opened file (length a) (length b) (length map)) in
    let w : ◌≡◌ {A = World} (record { a = a'; b = b'; map = map'; state = r.state }) (stands F 0) = h.left ∙ ap (world_opened a b map) q.1 ∙ opened_stands F in
    let t' : Trace F.file (record { a = a'; b = b'; map = map'; state = r.state }) [] calls seen = rw k.same t in
    let o = from_there F k.opened t' 0 first w refl in
    rw k.read (λ i. ok (record { opened = sym w i; seen = sym o i }))
