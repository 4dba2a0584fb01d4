-- Laws of the colour map: a map keeps its length, and a CMAP is taken exactly when its length is good.
use Prim.Native.Nat.{ℕ}
use mathlib.Core.Bool.{true, false}
use mathlib.Core.List.{List}
use mathlib.Core.Path.{◌≡◌}
use lib.ListN.{length}
use Rattle.laws.specs.Result.{Res.ok, Res.fault}
use Rattle.laws.proofs.StoreLaws.{length_over}
use Rattle.colours.specs.Colours.{good_length, colours, coloured}

pub coloured_length : (map cmap : List ℕ) → length (coloured map cmap) ≡ length map
coloured_length map cmap = length_over cmap map

pub colours_bad : (cmap : List ℕ) → good_length (length cmap) ≡ false → colours cmap ≡ fault 37
unfolding colours
colours_bad cmap e = rw e

pub colours_good : (cmap : List ℕ) → good_length (length cmap) ≡ true → colours cmap ≡ ok cmap
unfolding colours
colours_good cmap e = rw e
