-- Laws of ByteRun1: a packet lies within BODY and fits its row, and a row has B bytes.
use Prim.Native.Nat.{ℕ, ◌+◌, ◌-◌, ◌≤◌, ◌<◌}
use native.Mathlib.Omega.{arith}
use mathlib.Core.Path.{◌≡◌}
use mathlib.Core.List.{List, []}
use lib.Dec.{leb, ltb}
use lib.ListN.{length, get_or, take, drop, replicate, length-replicate}
use borrow.Author.Tests.{leb-true, ltb-true, lt-leb, le-leb}
use Rattle.laws.specs.Result.{Res.ok, Res.fault}
use Rattle.laws.proofs.ResultLaws.{Each, Each.each, each_need}
use Rattle.laws.specs.Loop.{Step.done}
use Rattle.laws.proofs.StoreLaws.{length_part}
use Rattle.body.specs.ByteRun.{Row, PacketKind, PacketKind.copies, PacketKind.nothing, PacketKind.repeats, packet_kind_of, packet_as, packet_at, with_packet, unpack_on}

-- a packet at a place lies within BODY, and its bytes within what is left of the row
pub record Within (s : List ℕ) (at room : ℕ) (p : Row) : Type 0 where
  pub rises : at < p.next
  pub ends : p.next ≤ length s
  pub fits : length p.bytes ≤ room

within_as : (s : List ℕ) (at room : ℕ) (k : PacketKind) → at < length s → Each (Within s at room) (packet_as s at room k)
within_as s at room (copies n) h =
    each_need (leb n room) 25 _ λ f. each_need (leb (at + 1 + n) (length s)) 25 _ λ e.
    let g : at + 1 + n ≤ length s = leb-true (at + 1 + n) (length s) e in
    let l : length (take n (drop (at + 1) s)) ≡ n = length_part s (at + 1) n (omega arith) in
    each {a = record { bytes = take n (drop (at + 1) s); next = at + 1 + n }} (record { rises = omega arith; ends = g; fits = rw l (leb-true n room f) })
within_as s at room nothing h = each {a = record { bytes = []; next = at + 1 }} (record { rises = omega arith; ends = omega arith; fits = omega arith })
within_as s at room (repeats n) h =
    each_need (leb n room) 25 _ λ f. each_need (leb (at + 2) (length s)) 25 _ λ e.
    each {a = record { bytes = replicate n (get_or s (at + 1) 0); next = at + 2 }}
    (record { rises = omega arith; ends = leb-true (at + 2) (length s) e; fits = rw (length-replicate n (get_or s (at + 1) 0)) (leb-true n room f) })

pub packet_within : (s : List ℕ) (at room : ℕ) → Each (Within s at room) (packet_at s at room)
unfolding packet_at
packet_within s at room = each_need (ltb at (length s)) 25 _ λ h. within_as s at room (packet_kind_of (get_or s at 0)) (ltb-true at (length s) h)

-- one turn of unpacking
pub unpack_more : (s : List ℕ) (B : ℕ) (w p : Row) → length w.bytes < B → packet_at s w.next (B - length w.bytes) ≡ ok p → unpack_on s B w ≡ with_packet w (ok p)
unpack_more s B w p h e = simp (lt-leb B (length w.bytes) h, e)

pub unpack_fault : (s : List ℕ) (B : ℕ) (w : Row) (n : ℕ) → length w.bytes < B → packet_at s w.next (B - length w.bytes) ≡ fault n → unpack_on s B w ≡ done (fault n)
unpack_fault s B w n h e = simp (lt-leb B (length w.bytes) h, e)

pub unpack_end : (s : List ℕ) (B : ℕ) (w : Row) → B ≤ length w.bytes → unpack_on s B w ≡ done (ok w)
unpack_end s B w h = simp (le-leb B (length w.bytes) h)
