-- `runs::stretch_end`: eight bytes, then blocks, then words and bytes of the one stretch.
use Rattle.runs.proofs.StretchLaws.{scan_starts, scan_jumps, scan_then, scan_is}
use Rattle.runs.proofs.stretch_end.Goals as goal

pub returns : goal.returns
returns c =
    let w = scan_jumps (scan_starts c.requires.1) c.requires.0 8 (c.stop-s.ensures.none c.if-s-ne0.false) in
    scan_is (scan_then w c.skip_blocks-near.ensures) c.word_end.ensures
