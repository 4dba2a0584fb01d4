-- The examples P1 to P11 (document 01, "Bench examples"), in its order, as rows of one table. P10's record has a map part (document 02, E6).
-- The picture is 16 × 2, one plane, B = 2, four zero bytes to start, and the map is unset. Lists stand at 64.
use Rattle.std.specs.Prelude.{ℕ, List, [], ◌∷◌, ◌++◌, replicate}
use Rattle.laws.specs.Result.{Res, Res.ok, Res.fault, ◌>>=◌}
use Rattle.colours.specs.Colours.{MAP, unset}
use Rattle.state.specs.State.{opened}
use Rattle.state.specs.declared.Sizes.{Sizes}
use Rattle.number.specs.Number.{write_number}
use Rattle.record.specs.Record.{restored}
use Rattle.body.specs.ByteRun.{unpack_row}
use Rattle.anhd.specs.declared.Items.TheVariants.{Bytes, Shorts}
use Rattle.delta.specs.Delta.{new_frame}
use Rattle.writer.specs.Write.{delta_bytes, written}
use Rattle.opening.specs.Open.{opening}
use Rattle.step_on.specs.Step.{step_on}
use Rattle.bench_examples.specs.Film.{two_frames}

-- an example: what the definitions come to, and what the paper says, each bytes, one number, or a refusal
pub record Example : Type 0 where
  pub comes : Res (List ℕ)
  pub says : Res (List ℕ)

infix 15 ◌⇒◌
abbrev ◌⇒◌ : Res (List ℕ) → Res (List ℕ) → Example
x ⇒ y = record { comes = x; says = y }

abbrev small_picture : Sizes
small_picture = record { width = 16; height = 2; planes = 1 }

abbrev four_zeros : List ℕ
four_zeros = replicate 4 0

-- what a record of frame 2 leads back to from the zeros and the unset map, at the next place 69
abbrev led_back : List ℕ → Res (List ℕ)
led_back bytes = restored bytes four_zeros unset 2 69 >>= λ p. ok p.picture

-- 16 pointers, of which plane 0's list has p and its data q, and what follows them
abbrev pointed : ℕ → ℕ → List ℕ → List ℕ
pointed p q lists = (0 ∷ 0 ∷ 0 ∷ p ∷ []) ++ replicate 28 0 ++ (0 ∷ 0 ∷ 0 ∷ q ∷ []) ++ replicate 28 0 ++ lists

-- what a delta makes of the zeros
abbrev method5 : ℕ → List ℕ → Res (List ℕ)
method5 p lists = new_frame 4 four_zeros (pointed p 0 lists) small_picture Bytes

abbrev method7 : ℕ → ℕ → List ℕ → Res (List ℕ)
method7 p q lists = new_frame 4 four_zeros (pointed p q lists) small_picture Shorts

-- a row of B = 2 bytes, unpacked
abbrev two_bytes : List ℕ → Res (List ℕ)
two_bytes s = unpack_row s 0 2 >>= λ r. ok r.bytes

-- the record of the step from frame 1 to frame 2, after an opening
abbrev step_record : List ℕ → Res (List ℕ)
step_record file =
    opening file 4 4 MAP >>= λ F.
    ok (step_on file (record { a = F.first; b = F.first; map = F.map; state = opened F.sizes F.start F.end }) 4 10).bytes

abbrev P2 : List ℕ
P2 = 0x01 ∷ 0x82 ∷ 0xAA ∷ 0xBB ∷ 0x00 ∷ []

unfoldable pub table : List Example
table =
    -- P1
    (ok (write_number 300) ⇒ ok (0xAC ∷ 0x02 ∷ []))
    ∷ (ok (write_number 127) ⇒ ok (0x7F ∷ []))
    ∷ (led_back (0x02 ∷ 0x40 ∷ 0x80 ∷ 0x00 ∷ []) ⇒ fault 61)
    -- P2
    ∷ (method5 64 P2 ⇒ ok (0xAA ∷ 0x00 ∷ 0xBB ∷ 0x00 ∷ []))
    -- P3
    ∷ (method5 64 (0x01 ∷ 0x00 ∷ 0x02 ∷ 0xCC ∷ 0x00 ∷ []) ⇒ ok (0xCC ∷ 0x00 ∷ 0xCC ∷ 0x00 ∷ []))
    -- P4
    ∷ (method5 64 (0x02 ∷ 0x01 ∷ 0x81 ∷ 0xDD ∷ 0x00 ∷ []) ⇒ ok (0x00 ∷ 0x00 ∷ 0xDD ∷ 0x00 ∷ []))
    -- P5
    ∷ (method5 64 (0x01 ∷ 0x02 ∷ 0x00 ∷ []) ⇒ ok four_zeros)
    ∷ (method5 64 (0x01 ∷ 0x03 ∷ 0x00 ∷ []) ⇒ fault 43)
    -- P6
    ∷ (method5 64 (0x01 ∷ 0x82 ∷ 0xAA ∷ 0xBB ∷ []) ⇒ fault 42)
    -- P7
    ∷ (method5 63 P2 ⇒ fault 41)
    ∷ (method5 64 [] ⇒ fault 42)
    -- P8
    ∷ (method7 64 66 (0x01 ∷ 0x82 ∷ 0xAA ∷ 0x11 ∷ 0xBB ∷ 0x22 ∷ []) ⇒ ok (0xAA ∷ 0x11 ∷ 0xBB ∷ 0x22 ∷ []))
    -- P9
    ∷ (two_bytes (0x80 ∷ 0xFF ∷ 0x07 ∷ []) ⇒ ok (0x07 ∷ 0x07 ∷ []))
    ∷ (two_bytes (0x02 ∷ 0x01 ∷ 0x01 ∷ 0x01 ∷ []) ⇒ fault 25)
    -- P10
    ∷ (step_record (two_frames (pointed 64 0 P2)) ⇒ ok (0x02 ∷ 0x40 ∷ 0x02 ∷ 0x00 ∷ 0x01 ∷ 0x00 ∷ 0x01 ∷ 0x01 ∷ 0x00 ∷ 0x00 ∷ []))
    -- P11
    ∷ (ok (delta_bytes four_zeros (0xAA ∷ 0x00 ∷ 0xBB ∷ 0x00 ∷ []) small_picture) ⇒ ok (pointed 64 0 P2))
    ∷ ((written 69 four_zeros (0xAA ∷ 0x00 ∷ 0xBB ∷ 0x00 ∷ []) small_picture >>= λ n. ok (n ∷ [])) ⇒ ok (69 ∷ []))
    ∷ (ok (delta_bytes four_zeros four_zeros small_picture) ⇒ ok (replicate 64 0))
    ∷ []
