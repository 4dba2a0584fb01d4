-- A list of calls after an opening, each of which met its contract (document 01, "Opening, stepping on, stepping back", and document 02, E6):
-- the file stays as opened, pictures, map and state are handed on as the last call left them, and each step back is given the unaltered
-- record of the latest step on taken and not yet taken back, or any bytes where there is none.
use Rattle.std.specs.Prelude.{ℕ, List, [], ◌∷◌, length, take, drop}
use Rattle.step_on.specs.declared.SteppedOn.{SteppedOn}
use Rattle.step_back.specs.declared.SteppedBack.{SteppedBack}
use Rattle.state.specs.World.{World}
use Rattle.state.specs.After.{Answer, Answer.refused, Answer.ended, Answer.took_on, Answer.took_back, lent}
use Rattle.step_on.specs.Step.{on_of, MeetsOn}
use Rattle.step_back.specs.Back.{back_of, MeetsBack}
use Rattle.model.specs.Model.{Call, Call.on, Call.back, Seen}

-- the bytes that a step back may be handed, by the records not yet taken back, the latest first: the latest, or any where there is none
pub data Handed : List (List ℕ) → List ℕ → Type 0 where
  any : {bytes : List ℕ} → Handed [] bytes
  latest : {bytes : List ℕ} {rs : List (List ℕ)} → Handed (bytes ∷ rs) bytes

-- the record in a record buffer: as many bytes as are reported
unfoldable pub record_in : Answer → List ℕ → List ℕ
record_in (refused n) rec = []
record_in ended rec = []
record_in (took_on r) rec = take r.record_length rec
record_in took_back rec = []

-- the records not yet taken back after a call
unfoldable pub untaken : Answer → List ℕ → List (List ℕ) → List (List ℕ)
untaken (refused n) bytes rs = rs
untaken ended bytes rs = rs
untaken (took_on r) bytes rs = bytes ∷ rs
untaken took_back bytes rs = drop 1 rs

-- what is seen after a step on and after a step back
abbrev pub seen_on : SteppedOn → List ℕ → List ℕ → List ℕ → List ℕ → Seen
seen_on r a b map rec = record { answer = on_of r.answer; world = record { a = a; b = b; map = map; state = r.state }; bytes = record_in (on_of r.answer) rec }

abbrev pub seen_back : SteppedBack → List ℕ → List ℕ → List ℕ → Seen
seen_back r a b map = record { answer = back_of r.answer; world = record { a = a; b = b; map = map; state = r.state }; bytes = [] }

-- the calls from pictures, map and state on, by the records not yet taken back, and what is seen after each
pub data Trace (file : List ℕ) : World → List (List ℕ) → List Call → List Seen → Type 0 where
  none_left : {w : World} {rs : List (List ℕ)} → Trace file w rs [] []
  stepped_on : {w : World} {rs : List (List ℕ)} {cs : List Call} {os : List Seen} (work rec : List ℕ) (r : SteppedOn) (a b map work' rec' : List ℕ)
      → MeetsOn file (record { world = w; work = work; rec = rec }) r (lent a b map r.state work' rec')
      → Trace file (seen_on r a b map rec').world (untaken (seen_on r a b map rec').answer (seen_on r a b map rec').bytes rs) cs os
      → Trace file w rs (on (length work) (length rec) ∷ cs) (seen_on r a b map rec' ∷ os)
  stepped_back : {w : World} {rs : List (List ℕ)} {cs : List Call} {os : List Seen} (bytes : List ℕ) (r : SteppedBack) (a b map : List ℕ)
      → Handed rs bytes
      → MeetsBack w bytes r (record { a = a; b = b; map = map; state = r.state })
      → Trace file (seen_back r a b map).world (untaken (seen_back r a b map).answer [] rs) cs os
      → Trace file w rs (back bytes ∷ cs) (seen_back r a b map ∷ os)
