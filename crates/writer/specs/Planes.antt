-- Columns and planes that lie in two frames, as the writer walks over them.
use Rattle.std.specs.Prelude.{ℕ, ◌+◌, ◌*◌, ◌≤◌, ◌<◌, List, ◌≡◌, length}

-- a column that starts at a place lies in both frames
pub record InFrame (old new : List ℕ) (row height at : ℕ) : Type 0 where
  pub tall : height ≤ 1024
  pub in_old : (i : ℕ) → i < height → at + i * row < length old
  pub in_new : (i : ℕ) → i < height → at + i * row < length new

-- a plane that starts at a place lies in both frames
pub record Plane (old new : List ℕ) (row height at : ℕ) : Type 0 where
  pub tall : height ≤ 1024
  pub wide : row ≤ 128
  pub in_old : at + height * row ≤ length old
  pub in_new : at + height * row ≤ length new
  pub most : length new ≤ 8 * 1024 * 128

-- two frames of so many planes
pub record Frames (old new : List ℕ) (row height planes : ℕ) : Type 0 where
  pub tall : height ≤ 1024
  pub narrow : 1 ≤ row
  pub wide : row ≤ 128
  pub deep : planes ≤ 8
  pub plane : height * row ≤ 1024 * 128
  pub old_size : length old ≡ planes * (height * row)
  pub new_size : length new ≡ planes * (height * row)
  pub most : length new ≤ 8 * 1024 * 128
