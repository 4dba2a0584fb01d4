-- `number::written_length`: a number takes one byte for each power of 128 that it reaches, and one more.
use mathlib.Core.Path.{sym}
use Rattle.number.proofs.NumberLaws.{length_last, length_more}
use native.Mathlib.Omega.{arith}
use Rattle.number.proofs.written_length.Goals as goal

pub returns-then-n-lt128 : goal.returns-then-n-lt128
returns-then-n-lt128 c = sym (length_last _ c.if-n-lt128.true)

pub returns-then-n-lt16384 : goal.returns-then-n-lt16384
returns-then-n-lt16384 c = sym (length_more 0 _ (omega arith) c.if-n-lt128.false c.if-n-lt16384.true)

pub returns-then-n-lt2097152 : goal.returns-then-n-lt2097152
returns-then-n-lt2097152 c = sym (length_more 1 _ (omega arith) c.if-n-lt16384.false c.if-n-lt2097152.true)

pub returns-then-n-lt268435456 : goal.returns-then-n-lt268435456
returns-then-n-lt268435456 c = sym (length_more 2 _ (omega arith) c.if-n-lt2097152.false c.if-n-lt268435456.true)

pub returns : goal.returns
returns c = sym (length_more 3 _ (omega arith) c.if-n-lt268435456.false (omega arith))
