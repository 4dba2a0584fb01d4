-- Numbers in a list of bytes: big-endian ones, and words, whose lowest byte comes first.
use Rattle.std.specs.Prelude.{ℕ, ◌+◌, ◌*◌, ◌/◌, ◌%◌, ◌<◌, List, [], ◌∷◌, get_or}

-- two bytes at a place, the higher first; bytes past the end count as 0
unfoldable pub be16 : List ℕ → ℕ → ℕ
be16 s at = get_or s at 0 * 256 + get_or s (at + 1) 0

-- four bytes at a place, the highest first
unfoldable pub be32 : List ℕ → ℕ → ℕ
be32 s at = get_or s at 0 * 16777216 + get_or s (at + 1) 0 * 65536 + get_or s (at + 2) 0 * 256 + get_or s (at + 3) 0

-- a number in four bytes, the highest first
unfoldable pub be32_bytes : ℕ → List ℕ
be32_bytes n = n / 16777216 % 256 ∷ n / 65536 % 256 ∷ n / 256 % 256 ∷ n % 256 ∷ []

-- bytes as one number, the lowest first
unfoldable pub word_of : List ℕ → ℕ
word_of [] = 0
word_of (x ∷ xs) = word_of xs * 256 + x

-- every element is a byte
abbrev pub Bytes : List ℕ → Type 0
Bytes s = (i : ℕ) → get_or s i 0 < 256
