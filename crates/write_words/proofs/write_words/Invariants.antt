-- `write_words::write_words`: after i turns the first i numbers are written.
use Prim.Native.Nat.{◌*◌}
use lib.ListN.{take}
use Rattle.laws.specs.Put.{Put}
use Rattle.words.specs.Words.{words_bytes}
use Rattle.write_words.proofs.write_words.Given as goal

abbrev pub invariant-loop-i : goal.invariant-loop-i
invariant-loop-i l = Put l.initial.out 0 (words_bytes (take l.i l.numbers)) l.out (8 * l.i)
