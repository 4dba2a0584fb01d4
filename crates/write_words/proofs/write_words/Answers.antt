-- `write_words::write_words`: after i turns the first i numbers are written.
use native.Mathlib.Omega.{arith}
use mathlib.Core.Path.{◌∙◌}
use lib.Seq.{take_all}
use Rattle.words.proofs.WordLaws.{put_none, put_word, laid, not_laid}
use Rattle.write_words.proofs.write_words.Goals as goal

pub returns-then-out-numbers : goal.returns-then-out-numbers
returns-then-out-numbers c = not_laid _ c.if-out-numbers.true

pub loop-i-init : goal.loop-i-init
loop-i-init c = put_none

pub loop-i-preserved : goal.loop-i-preserved
loop-i-preserved c =
    put_word c.args.numbers.now c.loop-i.i c.if-out-numbers.false c.loop-i-test.true (omega (arith, c.type_inv.numbers c.loop-i.i)) c.loop-i.invariant
    (c.copy_from_slice.ensures.after ∙ c.to_le_bytes-bytes.ensures)

pub returns : goal.returns
returns c = laid _ c.if-out-numbers.false (rw (take_all c.loop-i.i c.args.numbers.now (omega arith)) at c.loop-i.invariant)
