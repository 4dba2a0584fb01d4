-- What a step is lent, what it answers and what it leaves (document 01, "Opening, stepping on, stepping back" and "Refusal numbers",
-- and document 02, E6).
use Rattle.std.specs.Prelude.{ℕ, List, []}
use Rattle.std.proofs.Math.Option.{Option, none, some}
use Rattle.laws.specs.Store.{with_front}
use Rattle.state.specs.declared.Report.{Report}
use Rattle.state.specs.declared.State.{State}
use Rattle.state.specs.World.{World}

-- the answers, in the paper's terms
pub data Answer : Type 0 where
  refused : ℕ → Answer
  ended : Answer
  took_on : Report → Answer
  took_back : Answer

-- what a call comes to: its answer, A, B, the map and the state after it, a record that was written, and a frame that stands in the work
-- buffer
pub record After : Type 0 where
  pub answer : Answer
  pub world : World
  pub bytes : List ℕ
  pub work : Option (List ℕ)

-- a call that isn't taken hands all on as it came, but for a frame that stands in the work buffer
abbrev pub kept : World → Answer → Option (List ℕ) → After
kept w x work = record { answer = x; world = w; bytes = []; work = work }

-- what a step on is lent besides the file: both pictures, the map and the state, the work buffer and the record buffer
pub record Lent : Type 0 where
  pub world : World
  pub work : List ℕ
  pub rec : List ℕ

abbrev pub lent : (a b map : List ℕ) (s : State) (work rec : List ℕ) → Lent
lent a b map s work rec = record { world = record { a = a; b = b; map = map; state = s }; work = work; rec = rec }

-- a work buffer after a call
abbrev pub work_after : List ℕ → Option (List ℕ) → List ℕ
work_after work none = work
work_after work (some f) = f

-- what a call that comes to o leaves in what it was lent: a record stands at the front of its buffer, and the bytes past it stay
unfoldable pub lent_after : Lent → After → Lent
lent_after l o = record { world = o.world; work = work_after l.work o.work; rec = with_front l.rec o.bytes }
