-- FORM ANIM and the frames in it (document 01, "Chunks"): FORM ANIM starts at place 0 and ends at its length + 8; frames
-- are the FORM ILBM chunks directly in it, in order, and other chunks there are passed over.
use Rattle.std.specs.Prelude.{ℕ, ◌+◌, ◌-◌, List, ◌&&◌, leb, eqb, length, take, drop, Result, Ok, Err, Some, None, Option as Maybe}
use Rattle.std.proofs.Math.Option.{Option, none, some}
use Rattle.laws.specs.Result.{Res, Res.ok, Res.fault, ◌>>=◌, need, pick}
use Rattle.laws.specs.Loop.{Step, Step.next, Step.done, iterate}
use Rattle.laws.specs.Bytes.{be32}
use Rattle.refusal.specs.Number.{number_of}
use Rattle.refusal.specs.declared.Refusal.{Refusal}
use Rattle.iff.specs.Ids.{FORM, ANIM, ILBM}
use Rattle.iff.specs.Chunk.{Chunk, chunk_at}
use Rattle.form.specs.declared.Ilbm.{Ilbm}

-- the end place of FORM ANIM: 21 for fewer than 12 bytes, 22, and 21 for its length, in opening's order
unfoldable pub anim_end : List ℕ → Res ℕ
anim_end s =
    need (leb 12 (length s)) 21 >>= λ _.
    need (eqb (be32 s 0) FORM && eqb (be32 s 8) ANIM) 22 >>= λ _.
    need (leb 4 (be32 s 4)) 21 >>= λ _.
    need (leb (be32 s 4 + 8) (length s)) 21 >>= λ _.
    ok (be32 s 4 + 8)

-- a FORM ILBM: where its chunks start, after the type; their length; and the place after the FORM and its pad
pub record FormIlbm : Type 0 where
  pub start : ℕ
  pub size : ℕ
  pub next : ℕ

-- the chunks of a FORM ILBM
abbrev pub chunks_of : List ℕ → FormIlbm → List ℕ
chunks_of s f = take f.size (drop f.start s)

-- a FORM is the next frame if it is an ILBM; one shorter than its type is 21
abbrev pub form_on : List ℕ → Chunk → Step ℕ (Res (Option FormIlbm))
form_on s c =
    pick (leb 4 c.size)
    (pick (eqb (be32 s c.start) ILBM)
    (done (ok (some (record { start = c.start + 4; size = c.size - 4; next = c.next }))))
    (next c.next))
    (done (fault 21))

-- one turn: past a chunk that is no frame, or to the answer
abbrev pub pass_on : List ℕ → Res (Option Chunk) → Step ℕ (Res (Option FormIlbm))
pass_on s (ok (some c)) = pick (eqb c.id FORM) (form_on s c) (next c.next)
pass_on s (ok none) = done (ok none)
pass_on s (fault n) = done (fault n)

abbrev pub form_step : List ℕ → ℕ → Step ℕ (Res (Option FormIlbm))
form_step s at = pass_on s (chunk_at s at)

-- the next frame from a place of FORM ANIM on, if there is one, or 21
unfoldable pub next_form : List ℕ → ℕ → Res (Option FormIlbm)
next_form s from = iterate (form_step s) (λ at. length s - at) (fault 21) from

-- what an answer says in the paper's terms
abbrev pub ilbm_of : Maybe Ilbm → Option FormIlbm
ilbm_of (Some f) = some (record { start = f.start; size = f.len; next = f.next })
ilbm_of None = none

abbrev pub form_of : Result (Maybe Ilbm) Refusal → Res (Option FormIlbm)
form_of (Ok o) = ok (ilbm_of o)
form_of (Err why) = fault (number_of why)
