-- `number::write_groups`: what is left to write, from here, comes to the whole number at its place.
use Prim.Native.Nat.{ℕ, ◌+◌, ◌^◌, ◌<◌}
use mathlib.Core.List.{List}
use mathlib.Core.Path.{◌≡◌}
use lib.ListN.{length}
use lib.Seq.{sets}
use Rattle.number.specs.Number.{write_number}
use Rattle.number.proofs.write_groups.Given as goal

-- the loop's invariant: writing the rest from here leaves the place and the bytes that writing the whole would
pub record Writing (out₀ : List ℕ) (at n : ℕ) (out : List ℕ) (i rest : ℕ) : Type 0 where
  pub small : rest < 2 ^ 32
  pub size : length out ≡ length out₀
  pub place : i + length (write_number rest) ≡ at + length (write_number n)
  pub bytes : sets out i (write_number rest) ≡ sets out₀ at (write_number n)

abbrev pub invariant-loop-rest : goal.invariant-loop-rest
invariant-loop-rest l = Writing l.initial.out l.at l.n l.out l.i l.rest

abbrev pub decreases-loop-rest : goal.decreases-loop-rest
decreases-loop-rest l = l.rest
