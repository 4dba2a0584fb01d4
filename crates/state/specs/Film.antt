-- What a file fixes for every call after its opening (document 01, "Opening, stepping on, stepping back", and document 02, E6): the end place,
-- the sizes of its pictures, the place past frame 1's FORM and pad, picture 1, and the map at frame 1.
use Rattle.std.specs.Prelude.{ℕ, List}
use Rattle.state.specs.declared.Sizes.{Sizes}

pub record Film : Type 0 where
  pub file : List ℕ
  pub end : ℕ
  pub sizes : Sizes
  pub start : ℕ
  pub first : List ℕ
  pub map : List ℕ
