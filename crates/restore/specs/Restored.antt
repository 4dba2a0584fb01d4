-- The contract of `restore::restore`, in the paper's terms (document 01, "Opening, stepping on, stepping back", and document 02, E6).
-- What a record restores is defined where records are: `restored` of `record`.
use Rattle.std.specs.Prelude.{ℕ, List, ◌≡◌}
use Rattle.laws.specs.Result.{Res, Res.ok, ◌>>=◌, leaves}
use Rattle.record.specs.Record.{restored}

-- what putting a record back answers, and what it leaves in the shown picture and in the map
pub record Restores (bytes shown map : List ℕ) (frame next : ℕ) (r : Res ℕ) (shown' map' : List ℕ) : Type 0 where
  pub answer : r ≡ (restored bytes shown map frame next >>= λ p. ok p.place)
  pub picture : shown' ≡ leaves shown (λ p. p.picture) (restored bytes shown map frame next)
  pub colours : map' ≡ leaves map (λ p. p.map) (restored bytes shown map frame next)
