-- `iff::find_all`: each turn is one of the walk, with what the searches have found so far.
use native.Mathlib.Omega.{arith}
use mathlib.Core.Path.{◌≡◌, sym}
use lib.ListN.{length}
use Rattle.std.proofs.Common.{Ok}
use Rattle.std.proofs.lemmas.Result.{err_from_is_err_and}
use Rattle.laws.proofs.ResultLaws.{told}
use Rattle.iff.specs.Chunk.{standing_of}
use Rattle.iff.proofs.ChunkLaws.{search_starts, passes_one, search_past, search_ends, search_breaks}
use Rattle.iff.proofs.find_all.Goals as goal

pub loop-chunk-init : goal.loop-chunk-init
loop-chunk-init g c = search_starts _ _ _ (omega arith)

pub returns-in_err-chunk : goal.returns-in_err-chunk
returns-in_err-chunk g c =
    let p = err_from_is_err_and c.from_residual.result c.from_residual.ensures.1 in
    rw (p.1, p.2) (search_breaks c.loop-chunk.invariant (sym c.in_err-chunk.ensures))

pub loop-i-preserved : goal.loop-i-preserved
loop-i-preserved g c = passes_one _ c.loop-i.invariant (omega (arith, c.loop-i.invariant.as_many, c.loop-chunk.invariant.as_many)) c.or_part.ensures

pub loop-chunk-preserved : goal.loop-chunk-preserved
loop-chunk-preserved g c =
    let e : c.loop-i.i ≡ length c.args.ids = omega arith in
    search_past c.loop-chunk.invariant (told (λ o. standing_of (Ok o)) c.in_ok-chunk.ensures c.in-Some.is) (rw (← e) c.loop-i.invariant)

pub returns : goal.returns
returns g c = search_ends c.loop-chunk.invariant (told (λ o. standing_of (Ok o)) c.in_ok-chunk.ensures c.in_default.is)
