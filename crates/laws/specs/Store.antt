-- What a copy leaves in a buffer.
use Rattle.std.specs.Prelude.{ℕ, ◌≡◌, List, ◌++◌, length, take, drop}

-- d with s laid over its front, as far as both go
unfoldable pub over : List ℕ → List ℕ → List ℕ
over d s = take (length d) s ++ drop (length s) d

-- a buffer with bytes at its front; the bytes past them stay
abbrev pub with_front : List ℕ → List ℕ → List ℕ
with_front out bytes = bytes ++ drop (length bytes) out

-- a copy that has gone n bytes far
pub record Copied (d s : List ℕ) (n : ℕ) (x : List ℕ) : Type 0 where
  pub is : x ≡ take n s ++ drop n d
