-- `body::take_packet`: a packet's bytes fit what is left of the row.
use native.Mathlib.Omega.{arith}
use lib.ListN.{length-replicate}
use Rattle.body.proofs.WalkLaws.{packet_fits, nothing_taken}
use Rattle.body.proofs.take_packet.Goals as goal

pub draw_fill-requires : goal.draw_fill-requires
draw_fill-requires c =
    omega (arith, packet_fits _ _ _ c.packet_at.ensures (rw c.in-Repeat.is at c.in_ok-next.was), length-replicate c.in-Repeat.count c.in-Repeat.value)

pub returns-in-Nothing : goal.returns-in-Nothing
returns-in-Nothing c = nothing_taken _ _ _ _ c.packet_at.ensures (rw c.in-Nothing.is at c.in_ok-next.was)
