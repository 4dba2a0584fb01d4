-- Bytes compared eight at a time: what the private functions over words answer.
use Rattle.std.specs.Prelude.{ℕ, ◌+◌, ◌-◌, ◌/◌, ◌<◌, ◌≤◌, Bool, List, ◌≡◌, drop}
use Rattle.std.specs.Int.Bits.{bit_and, bit_or}
use Rattle.std.specs.Int.Count.{count_trailing_zeros}
use Rattle.runs.specs.Stretch.{stretch}

-- 128 in each byte of w that is 0, and 0 in the others, where each byte of low is 127 and each of high 128
unfoldable pub zero_bytes : ℕ → ℕ → ℕ → ℕ
zero_bytes low high w = high - bit_and (bit_or (bit_and w low + low) w) high

-- a number that tells how far eight bytes at a place of two buffers go on being equal (t is true), or different
pub record Stop (t : Bool) (old new : List ℕ) (at r : ℕ) : Type 0 where
  pub none : r ≡ 0 → 8 ≤ stretch t (drop at old) (drop at new)
  pub first : 0 < r → stretch t (drop at old) (drop at new) ≡ count_trailing_zeros 64 r / 8
