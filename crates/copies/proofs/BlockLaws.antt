-- A copy of which the last block overlaps what is copied before it.
use native.Mathlib.Omega.{arith}
use mathlib.Core.Path.{◌≡◌, sym, ap, ◌∙◌}
use mathlib.Core.List.{List, ◌++◌, append_assoc, append-nil}
use Prim.Native.Nat.{ℕ, ◌+◌, ◌-◌, ◌≤◌, min}
use lib.ListN.{length, take, drop, drop_of_length-le}
use lib.Seq.{length-take-le, drop_at, drop-drop, take-add}
use Rattle.laws.specs.Store.{Copied, over}
use Rattle.laws.proofs.StoreLaws.{copied_front, copied_all}

-- past the front of p ++ drop m x stands what stands there in x
past_front : (m n : ℕ) (p x : List ℕ) → length p ≡ m → m ≤ n → drop n (p ++ drop m x) ≡ drop n x
past_front m n p x l h =
    let i : m + (n - m) ≡ n = omega arith in
    rw i at (sym (drop-drop (n - m) m (p ++ drop m x)) ∙ ap (drop (n - m)) (drop_at p (drop m x) m l) ∙ drop-drop (n - m) m x)

-- the first m bytes of d, with s laid over them
front_copied : (d s : List ℕ) (m : ℕ) {x : List ℕ} → m ≤ length d → m ≤ length s → x ≡ over (take m d) s → Copied d s m (x ++ drop m d)
unfolding over
front_copied d s m {x} h k e =
    let l : length (take m d) ≡ m = length-take-le m d h in
    let w : x ≡ take m s = e ∙ rw (l, drop_of_length-le (take m d) {i = length s} (omega (arith, l))) (append-nil (take m s)) in
    record { is = ap (λ (t : List ℕ). t ++ drop m d) w }

-- the first m of n bytes, and then the last of them from i on, which is within those or at their end
pub last_block : (d s : List ℕ) (m i n : ℕ) {x y : List ℕ} → i ≤ m → m ≤ n → n ≡ min (length d) (length s) → x ≡ over (take m d) s → y ≡ take (n - i) (drop i s)
    → take i (x ++ drop m d) ++ (y ++ drop (n - i) (drop i (x ++ drop m d))) ≡ over d s
last_block d s m i n {x} {y} h k e ex ey =
    let f = x ++ drop m d in
    let c : Copied d s m f = front_copied d s m (omega arith) (omega arith) ex in
    let j : i + (n - i) ≡ n = omega arith in
    let l : length (take m s) ≡ m = length-take-le m s (omega arith) in
    let past : drop (n - i) (drop i f) ≡ drop n d = drop-drop (n - i) i f ∙ rw (j, c.is) (past_front m n (take m s) d l k) in
    let front : take i f ≡ take i s = copied_front c (omega arith) i h in
    let all : take i s ++ take (n - i) (drop i s) ≡ take n s = rw j at (sym (take-add i (n - i) s)) in
    copied_all (record { is = rw (front, ey, past) (sym (append_assoc (take i s) (take (n - i) (drop i s)) (drop n d)) ∙ ap (λ (t : List ℕ). t ++ drop n d) all) }) e
