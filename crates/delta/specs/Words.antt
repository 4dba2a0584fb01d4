-- The lists of words of methods 2 and 3 (document 02, E5; source document 000, 2.2.1). A plane is one column whose rows are its words. An op
-- begins with an offset of two bytes, read as signed: −1 ends the plane; zero or more moves on that many words and puts one word, the place
-- staying on it; −2 or less moves on by its absolute value less 2, then a two-byte count and that many words in a row. After such a run the
-- place is on the last word put, or where the move ended if the count is 0. A move or word beyond the plane is 45; within an op the order is
-- offset (42), move (45), count (42), run (45), data (42).
use Rattle.std.specs.Prelude.{ℕ, ◌+◌, ◌-◌, ◌*◌, List, [], ◌∷◌, ◌++◌, leb, ltb, eqb, length}
use Rattle.laws.specs.Result.{Res, Res.ok, Res.fault, ◌>>=◌, need, pick}
use Rattle.laws.specs.Loop.{Step, Step.next, Step.done, iterate}
use Rattle.delta.specs.Reading.{Reading, pair_at}
use Rattle.delta.specs.declared.Shape.{Shape}

-- n words that stand at a place of DLTA go to the word `line` of the plane that starts at base and to those after it; the place is then on
-- the last of them, or on `line` if there are none
unfoldable pub word_run : Shape → List ℕ → ℕ → Reading → ℕ → ℕ → ℕ → Res Reading
word_run S d base c line from n =
    need (leb (line + n) S.height) 45 >>= λ _.
    need (leb (from + n * S.item) (length d)) 42 >>= λ _.
    ok (record {
      op_at = from + n * S.item;
      item_at = c.item_at;
      line = line + (n - 1);
      ops = c.ops ++ (record { place = base + line * S.row; count = n; from = from; step = S.item } ∷ []);
    })

-- how many words an offset x moves on: x, or where it is negative, read as signed, its absolute value less 2
abbrev pub move_of : ℕ → ℕ
move_of x = pick (ltb x 32768) x (65536 - x - 2)

-- an op whose offset x isn't −1: the move; then one word, or where x is negative a count and so many words
unfoldable pub word_op : Shape → List ℕ → ℕ → Reading → ℕ → Res Reading
word_op S d base c x =
    need (ltb (c.line + move_of x) S.height) 45 >>= λ _.
    pick (ltb x 32768)
    (word_run S d base c (c.line + move_of x) (c.op_at + 2) 1)
    (pair_at d (c.op_at + 2) >>= λ n. word_run S d base c (c.line + move_of x) (c.op_at + 4) n)

-- one turn: past an op, or to the answer where the offset is −1 or something is refused
abbrev pub past_op : Res Reading → Step Reading (Res Reading)
past_op (ok c) = next c
past_op (fault n) = done (fault n)

abbrev pub offset_on : Shape → List ℕ → ℕ → Reading → Res ℕ → Step Reading (Res Reading)
offset_on S d base c (ok x) = pick (eqb x 65535) (done (ok c)) (past_op (word_op S d base c x))
offset_on S d base c (fault n) = done (fault n)

abbrev pub word_step : Shape → List ℕ → ℕ → Reading → Step Reading (Res Reading)
word_step S d base c = offset_on S d base c (pair_at d c.op_at)

-- the list of words of the plane that starts at base, to its offset of −1; each op takes four bytes or more of the list, so that the answer
-- for too few turns is never given (`words_none`, `words_end` and `words_more` of `WordLaws`)
unfoldable pub read_words : Shape → List ℕ → ℕ → Reading → Res Reading
read_words S d base c = iterate (word_step S d base) (λ x. length d - x.op_at) (fault 42) c
