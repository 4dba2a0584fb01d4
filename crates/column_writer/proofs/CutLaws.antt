-- Laws of ops that are cut into 127s or 255s and the rest: how many they are, in how many bytes, and the first of them.
use Prim.Native.Nat.{ℕ, zero, suc, ◌+◌, ◌-◌, ◌*◌, ◌/◌, ◌%◌, ◌≤◌, ◌<◌, min}
use native.Mathlib.Omega.{arith}
use mathlib.Core.List.{List, [], ◌∷◌, ◌++◌, append_assoc, append-nil}
use mathlib.Core.Path.{◌≡◌, refl, sym, ap, ◌∙◌}
use lib.ListN.{length, get_or, take, drop, replicate, length-append, length-take, length-drop, length-replicate, drop_of_length-le}
use lib.Seq.{length-take-le, take_all, take_at, drop_at}
use Rattle.laws.specs.Put.{Put}
use Rattle.laws.proofs.PutLaws.{Parts, put_is}
use Rattle.laws.proofs.StoreLaws.{sets_part}
use Rattle.runs.proofs.RunLaws.{runs_end}
use Rattle.column_writer.specs.Column.{WrittenOp, WrittenOp.skip, WrittenOp.uniq, WrittenOp.same, rest_of, uniqs, cut, ops_of, op_bytes, ops_bytes}
use Rattle.column_writer.specs.Piece.{ops_at, piece_ops, ops_in, bytes_in, NextPiece}
use Rattle.column_writer.specs.declared.piece.PieceKind.{PieceKind}
use Rattle.column_writer.specs.declared.piece.PieceKind.TheVariants.{Rest, Skip, Same, Uniq}
use Rattle.column_writer.proofs.BoundLaws.{cut_no_same}
use Rattle.column_writer.proofs.ColumnLaws.{ops_none}

pub bytes_append : (os ps : List WrittenOp) → ops_bytes (os ++ ps) ≡ ops_bytes os ++ ops_bytes ps
unfolding ops_bytes
bytes_append [] ps = refl
bytes_append (o ∷ os) ps = ap (λ (t : List ℕ). op_bytes o ++ t) (bytes_append os ps) ∙ sym (append_assoc (op_bytes o) (ops_bytes os) (ops_bytes ps))

pub length_bytes_append : (os ps : List WrittenOp) → length (ops_bytes (os ++ ps)) ≡ length (ops_bytes os) + length (ops_bytes ps)
length_bytes_append os ps = ap length (bytes_append os ps) ∙ length-append (ops_bytes os) (ops_bytes ps)

-- so many ops of one kind, each w bytes long, and a rest
many_bytes : (w n : ℕ) (o : WrittenOp) → length (op_bytes o) ≡ w → length (ops_bytes (replicate n o)) ≡ n * w
unfolding ops_bytes
many_bytes w zero o e = omega arith
many_bytes w (suc n) o e = length-append (op_bytes o) (ops_bytes (replicate n o)) ∙ omega (arith, e, many_bytes w n o e)

rest_bytes : (w n : ℕ) (o : WrittenOp) → length (op_bytes o) ≡ w → length (ops_bytes (rest_of n o)) ≡ length (rest_of n o) * w
unfolding ops_bytes rest_of
rest_bytes w zero o e = omega arith
rest_bytes w (suc n) o e = length-append (op_bytes o) [] ∙ omega (arith, e)

wide : (w n m : ℕ) (o p : WrittenOp) → length (op_bytes o) ≡ w → length (op_bytes p) ≡ w
    → length (ops_bytes (replicate n o ++ rest_of m p)) ≡ length (replicate n o ++ rest_of m p) * w
wide w n m o p e f =
    length_bytes_append (replicate n o) (rest_of m p)
    ∙ rw (many_bytes w n o e, rest_bytes w m p f, length-append (replicate n o) (rest_of m p), length-replicate n o) (omega arith)

rest_count : (n : ℕ) (o : WrittenOp) → length (rest_of n o) ≡ min n 1
unfolding rest_of
rest_count zero o = omega arith
rest_count (suc n) o = omega arith

-- how many ops, in how many bytes
pub skip_count : (n : ℕ) → length (cut (skip n)) ≡ (n + 126) / 127
unfolding cut
skip_count n = length-append (replicate (n / 127) (skip 127)) (rest_of (n % 127) (skip (n % 127))) ∙ rw (length-replicate (n / 127) (skip 127), rest_count (n % 127) (skip (n % 127))) (omega arith)

pub skip_bytes : (n : ℕ) → length (ops_bytes (cut (skip n))) ≡ length (cut (skip n)) * 1
unfolding cut
skip_bytes n = wide 1 (n / 127) (n % 127) (skip 127) (skip (n % 127)) (unfold op_bytes in refl) (unfold op_bytes in refl)

pub same_count : (n v : ℕ) → length (cut (same n v)) ≡ (n + 254) / 255
unfolding cut
same_count n v = length-append (replicate (n / 255) (same 255 v)) (rest_of (n % 255) (same (n % 255) v)) ∙ rw (length-replicate (n / 255) (same 255 v), rest_count (n % 255) (same (n % 255) v)) (omega arith)

pub same_bytes : (n v : ℕ) → length (ops_bytes (cut (same n v))) ≡ length (cut (same n v)) * 3
unfolding cut
same_bytes n v = wide 3 (n / 255) (n % 255) (same 255 v) (same (n % 255) v) (unfold op_bytes in refl) (unfold op_bytes in refl)

uniqs_count : (k : ℕ) (vs : List ℕ) → length vs ≤ k → length (uniqs k vs) ≡ (length vs + 126) / 127
unfolding uniqs
uniqs_count zero [] h = refl
uniqs_count zero (v ∷ vs) h = absurd (omega arith)
uniqs_count (suc k) [] h = refl
uniqs_count (suc k) (v ∷ vs) h =
    let l = length-drop 127 (v ∷ vs) in
    ap suc (uniqs_count k (drop 127 (v ∷ vs)) (omega arith)) ∙ rw l (omega arith)

uniqs_bytes : (k : ℕ) (vs : List ℕ) → length vs ≤ k → length (ops_bytes (uniqs k vs)) ≡ length (uniqs k vs) + length vs
unfolding uniqs ops_bytes op_bytes
uniqs_bytes zero [] h = refl
uniqs_bytes zero (v ∷ vs) h = absurd (omega arith)
uniqs_bytes (suc k) [] h = refl
uniqs_bytes (suc k) (v ∷ vs) h =
    let l = length-drop 127 (v ∷ vs) in
    let b = uniqs_bytes k (drop 127 (v ∷ vs)) (omega arith) in
    omega (arith, b, l, length-append (take 127 (v ∷ vs)) (ops_bytes (uniqs k (drop 127 (v ∷ vs)))), length-take 127 (v ∷ vs))

pub uniq_count : (vs : List ℕ) → length (cut (uniq vs)) ≡ (length vs + 126) / 127
unfolding cut
uniq_count vs = uniqs_count (length vs) vs (omega arith)

pub uniq_bytes : (vs : List ℕ) → length (ops_bytes (cut (uniq vs))) ≡ length (cut (uniq vs)) + length vs
unfolding cut
uniq_bytes vs = uniqs_bytes (length vs) vs (omega arith)

-- the same for a piece of a column
pub piece_count : (kind : PieceKind) (n : ℕ) (vs : List ℕ) → n ≤ length vs → length (piece_ops kind n vs) ≡ ops_in kind n
piece_count Rest n vs h = refl
piece_count Skip n vs h = skip_count n
piece_count Same n vs h = same_count n (get_or vs 0 0)
piece_count Uniq n vs h = uniq_count (take n vs) ∙ rw (length-take-le n vs h)

pub piece_size : (kind : PieceKind) (n : ℕ) (vs : List ℕ) → n ≤ length vs → length (ops_bytes (piece_ops kind n vs)) ≡ bytes_in kind n
piece_size Rest n vs h = unfold ops_bytes in refl
piece_size Skip n vs h = omega (arith, skip_bytes n, skip_count n)
piece_size Same n vs h = omega (arith, same_bytes n (get_or vs 0 0), same_count n (get_or vs 0 0))
piece_size Uniq n vs h = omega (arith, uniq_bytes (take n vs), uniq_count (take n vs), length-take-le n vs h)

pub piece_few : (kind : PieceKind) (n : ℕ) → (ops_in kind n ≤ n) × (bytes_in kind n ≤ 3 * n)
piece_few Rest n = (omega arith, omega arith)
piece_few Skip n = (omega arith, omega arith)
piece_few Same n = (omega arith, omega arith)
piece_few Uniq n = (omega arith, omega arith)

-- the bytes of the next piece, and of what is left
pub piece_parts : {old new : List ℕ} {row : ℕ} {kind : PieceKind} {rows : ℕ} → NextPiece old new row kind rows
    → Parts (ops_bytes (ops_at old new row)) (ops_bytes (piece_ops kind rows (drop row new))) (ops_bytes (ops_at old new (row + rows)))
piece_parts {old} {new} {row} {kind} {rows} p = record { is = ap ops_bytes p.ops ∙ bytes_append (piece_ops kind rows (drop row new)) (ops_at old new (row + rows)) }

pub none_left : (old new : List ℕ) (row : ℕ) → length new ≤ row → ops_at old new row ≡ []
none_left old new row h = ap ops_of (runs_end new old row h) ∙ ops_none

-- the first of ops that are cut, and the others
cut_more : (d n k r : ℕ) (o : WrittenOp) (p : ℕ → WrittenOp) → d ≡ suc k → r ≡ n → replicate d o ++ rest_of n (p n) ≡ o ∷ (replicate k o ++ rest_of r (p r))
cut_more d n k r o p e f = rw (e, f)

-- a rest of some rows is one op
rest_one : (n : ℕ) (o : WrittenOp) → (n ≡ 0 → ⊥) → ops_bytes (rest_of n o) ≡ op_bytes o ++ []
unfolding rest_of ops_bytes
rest_one zero o h = absurd (h refl)
rest_one (suc n) o h = refl

-- a Skip is one byte, its rows
skips_bytes : (k : ℕ) → ops_bytes (replicate k (skip 127)) ≡ replicate k 127
unfolding ops_bytes op_bytes
skips_bytes zero = refl
skips_bytes (suc k) = ap (λ (t : List ℕ). 127 ∷ t) (skips_bytes k)

skip_parts : (n : ℕ) → ops_bytes (cut (skip n)) ≡ replicate (n / 127) 127 ++ ops_bytes (rest_of (n % 127) (skip (n % 127)))
unfolding cut
skip_parts n = bytes_append (replicate (n / 127) (skip 127)) (rest_of (n % 127) (skip (n % 127))) ∙ rw (skips_bytes (n / 127))

pub skip_whole : (n : ℕ) → n % 127 ≡ 0 → ops_bytes (cut (skip n)) ≡ replicate (n / 127) 127
unfolding rest_of ops_bytes
skip_whole n e = skip_parts n ∙ rw (e, rest_of, ops_bytes, append-nil)

pub skip_rest : (n : ℕ) → (n % 127 ≡ 0 → ⊥) → ops_bytes (cut (skip n)) ≡ replicate (n / 127) 127 ++ (n % 127 ∷ [])
unfolding op_bytes
skip_rest n h = skip_parts n ∙ rw (rest_one (n % 127) (skip (n % 127)) h)

pub same_more : (n v : ℕ) → 255 ≤ n → Parts (ops_bytes (cut (same n v))) (op_bytes (same 255 v)) (ops_bytes (cut (same (n - 255) v)))
unfolding cut
same_more n v h = record { is = ap ops_bytes (cut_more (n / 255) (n % 255) ((n - 255) / 255) ((n - 255) % 255) (same 255 v) (λ k. same k v) (omega arith) (omega arith)) ∙ unfold ops_bytes in refl }

pub same_last : (n v : ℕ) → (n ≡ 0 → ⊥) → n < 255 → Parts (ops_bytes (cut (same n v))) (op_bytes (same n v)) []
unfolding cut
same_last n v h k =
    let e : n / 255 ≡ 0 = omega arith in
    let f : n % 255 ≡ n = omega arith in
    record { is = rw (e, f) (rest_one n (same n v) h) }

pub same_none : (n v : ℕ) → n ≡ 0 → ops_bytes (cut (same n v)) ≡ []
unfolding ops_bytes
same_none n v e = rw (e, cut_no_same v)

-- k is enough for the rows
uniqs_enough : (k j : ℕ) (vs : List ℕ) → length vs ≤ k → length vs ≤ j → uniqs k vs ≡ uniqs j vs
unfolding uniqs
uniqs_enough zero zero vs h l = refl
uniqs_enough zero (suc j) [] h l = refl
uniqs_enough zero (suc j) (v ∷ vs) h l = absurd (omega arith)
uniqs_enough (suc k) zero [] h l = refl
uniqs_enough (suc k) zero (v ∷ vs) h l = absurd (omega arith)
uniqs_enough (suc k) (suc j) [] h l = refl
uniqs_enough (suc k) (suc j) (v ∷ vs) h l =
    let d = length-drop 127 (v ∷ vs) in
    ap (λ (t : List WrittenOp). uniq (take 127 (v ∷ vs)) ∷ t) (uniqs_enough k j (drop 127 (v ∷ vs)) (omega arith) (omega arith))

uniq_first : (vs : List ℕ) → 0 < length vs → cut (uniq vs) ≡ uniq (take 127 vs) ∷ cut (uniq (drop 127 vs))
unfolding cut uniqs
uniq_first [] h = absurd (omega arith)
uniq_first (v ∷ vs) h =
    let d = length-drop 127 (v ∷ vs) in
    ap (λ (t : List WrittenOp). uniq (take 127 (v ∷ vs)) ∷ t) (uniqs_enough (length vs) (length (drop 127 (v ∷ vs))) (drop 127 (v ∷ vs)) (omega arith) (omega arith))

-- at most 127 rows in front of others
first_rows : (ws us : List ℕ) → length ws ≡ min 127 (length (ws ++ us)) → (take 127 (ws ++ us) ≡ ws) × (drop 127 (ws ++ us) ≡ us)
first_rows ws [] h = (rw append-nil (take_all 127 ws (omega arith)), rw append-nil (drop_of_length-le ws {i = 127} (omega arith)))
first_rows ws (u ∷ us) h =
    let l : length ws ≡ 127 = omega (arith, length-append ws (u ∷ us)) in
    (take_at ws (u ∷ us) 127 l, drop_at ws (u ∷ us) 127 l)

pub uniq_next : {vs : List ℕ} (ws us : List ℕ) → vs ≡ ws ++ us → length ws ≡ min 127 (length vs) → 0 < length vs → Parts (ops_bytes (cut (uniq vs))) (op_bytes (uniq ws)) (ops_bytes (cut (uniq us)))
uniq_next {vs} ws us e n h =
    let f = first_rows ws us (rw e at n) in
    let g : cut (uniq vs) ≡ uniq ws ∷ cut (uniq us) = uniq_first vs h ∙ rw (e, f.0, f.1) in
    record { is = ap ops_bytes g ∙ unfold ops_bytes in refl }

pub uniq_none : (vs : List ℕ) → length vs ≡ 0 → ops_bytes (cut (uniq vs)) ≡ []
unfolding cut uniqs ops_bytes
uniq_none [] e = refl
uniq_none (v ∷ vs) e = absurd (omega arith)

-- bytes put into the part of a buffer that was lent for them
pub put_part : (out : List ℕ) (at end : ℕ) (bytes : List ℕ) {y : List ℕ} → end ≡ at + length bytes → end ≤ length out → y ≡ bytes → Put out at bytes (take at out ++ (y ++ drop (end - at) (drop at out))) end
put_part out at end bytes e h f = put_is e (rw f (sets_part at end out bytes (omega arith) h (omega arith)))

-- a part that was lent and came back as long leaves the buffer its length
pub length_lent : (out : List ℕ) (at end : ℕ) (y : List ℕ) → length y ≡ length (take (end - at) (drop at out)) → length (take at out ++ (y ++ drop (end - at) (drop at out))) ≡ length out
length_lent out at end y e =
    omega (arith, e, length-append (take at out) (y ++ drop (end - at) (drop at out)), length-append y (drop (end - at) (drop at out)), length-take at out, length-drop (end - at) (drop at out), length-drop at out, length-take (end - at) (drop at out))
