-- What the parts of an opening answer and leave.
use Rattle.std.specs.Prelude.{ℕ, List, ◌≡◌, Result, Ok, Err}
use Rattle.laws.specs.Result.{Res, Res.ok, Res.fault, ◌>>=◌, answer, or_keep}
use Rattle.refusal.specs.Number.{number_of}
use Rattle.state.specs.World.{World}
use Rattle.opening.specs.declared.OpenedFile.{OpenedFile}
use Rattle.opening.specs.declared.Located.{Located}
use Rattle.refusal.specs.declared.Refusal.{Refusal}
use Rattle.opening.specs.Open.{Places, First, film_of, Opens}

-- what an answer says in the paper's terms
abbrev pub places_of : Result Located Refusal → Res Places
places_of (Ok p) = ok (record { end = p.end; form = record { start = p.start; size = p.len; next = p.next }; body = p.body })
places_of (Err why) = fault (number_of why)

-- a first picture in whatever file, with its end place and the place after its FORM
pub record OpensFirst (q : Res First) (start end : ℕ) (a b map : List ℕ) (r : OpenedFile) (w : World) : Type 0 where
  pub opens : (file : List ℕ) → Opens (q >>= λ p. ok (film_of file end start p)) a b map r w

-- what a call that fills a buffer a with a picture answers and leaves: all or nothing
pub record Fills (q : Res (List ℕ)) (a : List ℕ) (r : Res (Unit {0})) (a' : List ℕ) : Type 0 where
  pub answer : r ≡ answer q
  pub left : a' ≡ or_keep a q
