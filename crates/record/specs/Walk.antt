-- What the private functions are lent: two buffers whose runs were counted, and a map and a CMAP.
use Rattle.std.specs.Prelude.{ℕ, ◌*◌, ◌≤◌, List, ◌≡◌, length}
use Rattle.colours.specs.Colours.{MAP}
use Rattle.runs.specs.Runs.{runs_of}

-- two buffers of one length, at most a frame's, and the number of their runs
pub record Counted (old new : List ℕ) (runs : ℕ) : Type 0 where
  pub one_length : length old ≡ length new
  pub short : length old ≤ 8 * 1024 * 128
  pub is : runs ≡ length (runs_of old new)
  pub few : runs ≤ length old

-- a map, and a CMAP that is no longer
pub record Laid (map cmap : List ℕ) : Type 0 where
  pub long : length map ≡ MAP
  pub fits : length cmap ≤ length map
