-- `number::write_groups`: what is left to write, from here, comes to the whole number at its place.
use Prim.Native.Nat.{ℕ, ◌+◌, ◌/◌, ◌%◌, ◌<◌, ◌≤◌}
use native.Mathlib.Numerals.{add-one}
use mathlib.Core.List.{List}
use mathlib.Core.Path.{◌≡◌}
use lib.ListN.{length, set, length-set}
use lib.Seq.{sets}
use Rattle.number.specs.Number.{write_number}
use Rattle.number.proofs.NumberLaws.{write_last, write_more, write_length}
use native.Mathlib.Omega.{arith}
use Rattle.number.proofs.write_groups.Invariants.{Writing}
use Rattle.number.proofs.write_groups.Goals as goal

module _ {out₀ out : List ℕ} {at n i rest : ℕ} (w : Writing out₀ at n out i rest) where
  inside : at + length (write_number n) ≤ length out₀ → i < length out
  inside h = omega (arith, write_length rest w.small)

  more : 128 ≤ rest → Writing out₀ at n (set out i (128 + rest % 128)) (i + 1) (rest / 128)
  more h =
      let e = write_more rest h w.small in
      record {
        small = omega arith;
        size = rw length-set w.size;
        place = omega (arith, rw e at w.place);
        bytes = rw add-one (rw e at w.bytes);
      }

  last : rest < 128 → (i + 1 ≡ at + length (write_number n)) × (set out i rest ≡ sets out₀ at (write_number n))
  last h = let e = write_last rest h in (rw e at w.place, rw e at w.bytes)

pub bounds-out-i : goal.bounds-out-i
bounds-out-i c = inside c.loop-rest.invariant c.requires

pub loop-rest-preserved : goal.loop-rest-preserved
loop-rest-preserved c = more c.loop-rest.invariant c.loop-rest-test.true

pub bounds-out-i-2 : goal.bounds-out-i-2
bounds-out-i-2 c = inside c.loop-rest.invariant c.requires

pub returns : goal.returns
returns c = last c.loop-rest.invariant c.loop-rest-test.false
