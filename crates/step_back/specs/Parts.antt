-- The contract of a part of stepping back: a record that is put back into the map and the shown picture, by the buffer that it stands in.
use Rattle.std.specs.Prelude.{ℕ, List, ◌≡◌}
use Rattle.laws.specs.Result.{Res, Res.ok, ◌>>=◌, leaves}
use Rattle.state.specs.World.{World, with_shown}
use Rattle.record.specs.Record.{Past}

-- A, B and the map after a record was put back
abbrev pub pictures_back : World → Res Past → World
pictures_back w q = leaves w (λ p. with_shown w p.picture p.map w.state) q

-- the next place that it leads back to
abbrev pub place_in : Res Past → Res ℕ
place_in q = q >>= λ p. ok p.place

-- what putting a record back answers and leaves, where it comes to q
pub record RestoresShown (w : World) (q : Res Past) (r : Res ℕ) (a b map : List ℕ) : Type 0 where
  pub answer : r ≡ place_in q
  pub pictures : ◌≡◌ {A = World} (record { a = a; b = b; map = map; state = w.state }) (pictures_back w q)
