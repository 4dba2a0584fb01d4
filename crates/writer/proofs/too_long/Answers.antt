-- `writer::too_long`: room for the longest delta is room for every one; otherwise the lists are measured.
use Rattle.writer.proofs.DeltaRoom.{longest_fits}
use Rattle.writer.proofs.too_long.Goals as goal

pub returns-then-longest-room : goal.returns-then-longest-room
returns-then-longest-room c = longest_fits _ _ _ _ _ _ c.if-longest-room.true
