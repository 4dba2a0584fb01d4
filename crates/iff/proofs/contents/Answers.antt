-- `iff::contents`: what is found lies within the parent.
use native.Mathlib.Omega.{arith}
use Rattle.std.proofs.Common.{Ok}
use Rattle.laws.proofs.ResultLaws.{told, each_some}
use Rattle.iff.specs.Chunk.{found_of}
use Rattle.iff.proofs.ChunkLaws.{Lies, find_lies}
use Rattle.iff.proofs.contents.Goals as goal

pub overflow_add-end : goal.overflow_add-end
overflow_add-end c = let l : Lies _ _ = each_some (told (λ o. found_of (Ok o)) c.in-Ok-Some.ensures c.in-Ok-Some.field-0-is) (find_lies _ _) in omega (arith, l.ends)

pub slice_bounds-result-end : goal.slice_bounds-result-end
slice_bounds-result-end c = let l : Lies _ _ = each_some (told (λ o. found_of (Ok o)) c.in-Ok-Some.ensures c.in-Ok-Some.field-0-is) (find_lies _ _) in omega (arith, l.ends)
