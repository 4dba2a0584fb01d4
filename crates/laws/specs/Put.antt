-- Bytes that are put into a buffer.
use Rattle.std.specs.Prelude.{ℕ, ◌+◌, List, ◌≡◌, length}
use Rattle.std.proofs.lemmas.List.Edits.{sets}

-- bytes put at a place of a buffer, and the place after them
pub record Put (out : List ℕ) (at : ℕ) (bytes out' : List ℕ) (next : ℕ) : Type 0 where
  pub place : next ≡ at + length bytes
  pub left : out' ≡ sets out at bytes
  pub size : length out' ≡ length out
