-- `number::read`: a byte below 128 is a last group that is the only one.
use Prim.Native.Nat.{ℕ, suc, ◌+◌, ◌*◌, ◌<◌, ◌≤◌}
use native.Mathlib.Numerals.{add-one}
use mathlib.Core.List.{List}
use mathlib.Core.Logic.{inr}
use mathlib.Core.Path.{◌≡◌, refl, sym, ◌∙◌}
use lib.ListN.{length, get_or, drop, drop_of_length-le}
use lib.Seq.{drop-cons}
use Rattle.number.specs.Number.{read_number, ReadAt}
use Rattle.std.specs.Prelude.{Some, None}
use Rattle.number.proofs.GroupLaws.{groups_end, groups_last, last_ok}
use native.Mathlib.Omega.{arith}
use Rattle.number.proofs.read.Goals as goal

past_end : (s : List ℕ) (at : ℕ) → length s ≤ at → ReadAt s at None
unfolding read_number
past_end s at h = record { is = rw (drop_of_length-le s {i = at} h) (sym (groups_end 5 1 0)); within = tt }

one_byte : (s : List ℕ) (at : ℕ) → at < length s → get_or s at 0 < 128 → ReadAt s at (Some (record { value = get_or s at 0; next = at + 1 }))
unfolding read_number
one_byte s at h l =
    let b : 0 + 1 * get_or s at 0 ≡ get_or s at 0 = omega arith in
    let e = groups_last 4 1 0 (get_or s at 0) (drop (suc at) s) l ∙ last_ok 1 0 (get_or s at 0) (drop (suc at) s) (inr refl) (omega arith) in
    record { is = rw (add-one at, drop-cons s at 0 h) (sym (rw b at e)); within = omega arith }

pub returns-then-s-at : goal.returns-then-s-at
returns-then-s-at c = past_end _ _ c.if-s-at.true

pub returns-then-first-lt128 : goal.returns-then-first-lt128
returns-then-first-lt128 c = one_byte _ _ c.if-s-at.false c.if-first-lt128.true
