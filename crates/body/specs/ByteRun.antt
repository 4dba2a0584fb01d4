-- ByteRun1 (document 01, "Chunks"): each row of B bytes is packed by itself. A byte n of 0 to 127 copies n + 1 bytes, 129
-- to 255 repeats the next byte 257 − n times, 128 does nothing. No run may pass the row's end; a row is finished when it
-- is full. Every fault of it is 25.
use Rattle.std.specs.Prelude.{ℕ, ◌+◌, ◌-◌, List, [], ◌++◌, leb, ltb, eqb, length, get_or, take, drop, replicate}
use Rattle.laws.specs.Result.{Res, Res.ok, Res.fault, ◌>>=◌, need, pick}
use Rattle.laws.specs.Loop.{Step, Step.next, Step.done, iterate}

-- bytes that were unpacked, and the place after what they were packed in
pub record Row : Type 0 where
  pub bytes : List ℕ
  pub next : ℕ

-- what a packet does, decided by ranges of its first byte
pub data PacketKind : Type 0 where
  copies : ℕ → PacketKind
  nothing : PacketKind
  repeats : ℕ → PacketKind

abbrev pub packet_kind_of : ℕ → PacketKind
packet_kind_of n = pick (leb n 127) (copies (n + 1)) (pick (eqb n 128) nothing (repeats (257 - n)))

-- the packet of a kind at a place, with room bytes left of its row
abbrev pub packet_as : List ℕ → ℕ → ℕ → PacketKind → Res Row
packet_as s at room (copies n) =
    need (leb n room) 25 >>= λ _.
    need (leb (at + 1 + n) (length s)) 25 >>= λ _.
    ok (record { bytes = take n (drop (at + 1) s); next = at + 1 + n })
packet_as s at room nothing = ok (record { bytes = []; next = at + 1 })
packet_as s at room (repeats n) =
    need (leb n room) 25 >>= λ _.
    need (leb (at + 2) (length s)) 25 >>= λ _.
    ok (record { bytes = replicate n (get_or s (at + 1) 0); next = at + 2 })

-- the packet at a place, with room bytes left of its row
unfoldable pub packet_at : List ℕ → ℕ → ℕ → Res Row
packet_at s at room = need (ltb at (length s)) 25 >>= λ _. packet_as s at room (packet_kind_of (get_or s at 0))

-- a row with one packet more, or the packet's refusal
abbrev pub with_packet : Row → Res Row → Step Row (Res Row)
with_packet w (ok p) = next (record { bytes = w.bytes ++ p.bytes; next = p.next })
with_packet w (fault n) = done (fault n)

-- packets until B bytes are there
abbrev pub unpack_on : List ℕ → ℕ → Row → Step Row (Res Row)
unpack_on s B w =
    pick (leb B (length w.bytes)) (done (ok w))
    (with_packet w (packet_at s w.next (B - length w.bytes)))

-- the row of B bytes that is packed at a place
unfoldable pub unpack_row : List ℕ → ℕ → ℕ → Res Row
unfolding iterate
unpack_row s at B = iterate (unpack_on s B) (λ (w : Row). length s - w.next) (fault 25) (record { bytes = []; next = at })
