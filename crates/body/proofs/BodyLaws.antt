-- Laws of BODY: every row has B bytes, the rows reach every byte of a frame once, and so the picture does not depend on
-- what the frame held before.
use Prim.Native.Nat.{ℕ, zero, suc, ◌+◌, ◌-◌, ◌*◌, ◌/◌, ◌%◌, ◌≤◌, ◌<◌}
use native.Mathlib.Nat.{div-add-mod', mod-lt, mod-eq_of_lt, div-eq_of_lt, div-lt_iff_lt-mul, mul-add-div_right, mul-add-mod_self_right, mul-le-mul_right}
use native.Mathlib.Decide.{ℕ_discrete}
use native.Mathlib.Omega.{arith}
use mathlib.Core.Bool.{Bool, true, false}
use mathlib.Core.Logic.{◌⊎◌, inl, inr}
use mathlib.Core.Path.{◌≡◌, refl, sym, ap, ◌∙◌}
use mathlib.Core.List.{List, [], ◌∷◌, ◌++◌}
use lib.Dec.{leb}
use lib.ListN.{length, get_or, take, drop, replicate, length-append, length-replicate}
use lib.Seq.{sets, length-sets, ext_get_or}
use borrow.Author.Tests.{le-leb, lt-leb, eq-eqb, ne_eqb, leb-true, leb-false}
use Rattle.laws.specs.Result.{Res, Res.ok, Res.fault, answer, pick}
use Rattle.laws.proofs.ResultLaws.{Each, Each.each, Each.no_value, each_bind, each_need, each_is, answer_refused}
use Rattle.laws.specs.Loop.{Step.done}
use Rattle.laws.proofs.LoopLaws.{Comes, Comes.comes_next, Comes.comes_done, iterate_holds}
use Rattle.laws.proofs.StoreLaws.{sets_agree, length_part}
use Rattle.state.specs.declared.Sizes.{Sizes}
use Rattle.state.specs.State.{row_bytes, frame_bytes, frame_length, Sound}
use Rattle.body.specs.ByteRun.{Row, packet_at, with_packet, unpack_on, unpack_row}
use Rattle.body.specs.Body.{row_at, rows_from, place, draw_rows, body, unpack}
use Rattle.body.proofs.ByteRunLaws.{Within, packet_within}

-- a row that is being unpacked has at most B bytes, and a finished one has B
unpack_turn : (s : List ℕ) (B : ℕ) (w : Row) → length w.bytes ≤ B → Comes (λ (t : Row). length t.bytes ≤ B) (Each (λ (r : Row). length r.bytes ≡ B)) (unpack_on s B w)
unpack_turn s B w h = go (leb B (length w.bytes)) refl (packet_at s w.next (B - length w.bytes)) (packet_within s w.next (B - length w.bytes))
  where
    go : (t : Bool) → leb B (length w.bytes) ≡ t → (r : Res Row) → Each (Within s w.next (B - length w.bytes)) r
        → Comes (λ (t : Row). length t.bytes ≤ B) (Each (λ (r : Row). length r.bytes ≡ B)) (pick t (done (ok w)) (with_packet w r))
    go true b r q = let l : length w.bytes ≡ B = omega (arith, leb-true B (length w.bytes) b) in comes_done (each l)
    go false b (ok p) (each q) =
        let l : length (w.bytes ++ p.bytes) ≤ B = simp length-append (omega (arith, q.fits, leb-false B (length w.bytes) b)) in
        comes_next l
    go false b (fault n) q = comes_done no_value

unpack_long : (s : List ℕ) (B at : ℕ) → Each (λ (r : Row). length r.bytes ≡ B) (unpack_row s at B)
unfolding unpack_row
unpack_long s B at =
    iterate_holds (unpack_on s B) (λ (w : Row). length s - w.next) (fault 25) (λ (t : Row). length t.bytes ≤ B) (Each (λ (r : Row). length r.bytes ≡ B))
    no_value (unpack_turn s B) (record { bytes = []; next = at }) (omega arith)

-- a row by the kind of BODY
pub row_packed : {packed : Bool} (s : List ℕ) (B at : ℕ) → packed ≡ true → row_at s at B packed ≡ unpack_row s at B
unfolding row_at
row_packed s B at e = rw e

pub row_plain : {packed : Bool} (s : List ℕ) (B at : ℕ) → packed ≡ false → at + B ≤ length s → row_at s at B packed ≡ ok (record { bytes = take B (drop at s); next = at + B })
unfolding row_at
row_plain s B at e h = rw (e, le-leb (at + B) (length s) h)

pub row_short : {packed : Bool} (s : List ℕ) (B at : ℕ) → packed ≡ false → length s < at + B → row_at s at B packed ≡ fault 25
unfolding row_at
row_short s B at e h = rw (e, lt-leb (at + B) (length s) h)

pub row_long : (packed : Bool) (s : List ℕ) (B at : ℕ) → Each (λ (r : Row). length r.bytes ≡ B) (row_at s at B packed)
unfolding row_at
row_long true s B at = unpack_long s B at
row_long false s B at = each_need (leb (at + B) (length s)) 25 _ λ e. each (length_part s at B (omega (arith, leb-true (at + B) (length s) e)))

-- k rows of B bytes
pub data Rows (B : ℕ) : ℕ → List (List ℕ) → Type 0 where
  no_rows : Rows B 0 []
  one_more : {k : ℕ} {r : List ℕ} {rs : List (List ℕ)} → length r ≡ B → Rows B k rs → Rows B (suc k) (r ∷ rs)

pub rows_long : (packed : Bool) (s : List ℕ) (B k at : ℕ) → Each (Rows B k) (rows_from s at B k packed)
unfolding rows_from
rows_long packed s B zero at = each no_rows
rows_long packed s B (suc k) at = each_bind (row_long packed s B at) λ r l. each_bind (rows_long packed s B k r.next) λ rs ls. each (one_more l ls)

pub length_draw : (z : Sizes) (i : ℕ) (rs : List (List ℕ)) (f : List ℕ) → length (draw_rows z i rs f) ≡ length f
unfolding draw_rows
length_draw z i [] f = refl
length_draw z i (r ∷ rs) f = length_draw z (i + 1) rs (sets f (place z i) r) ∙ length-sets f (place z i) r

-- a byte of the frame that row m of BODY holds
record Holds (z : Sizes) (j m : ℕ) : Type 0 where
  from : place z m ≤ j
  to : j < place z m + row_bytes z.width

-- two frames agree where they did before, and where a row is drawn
draw_agree : (z : Sizes) {k : ℕ} {rs : List (List ℕ)} → Rows (row_bytes z.width) k rs → (i j m : ℕ) (f g : List ℕ) → length f ≡ length g → j < length f
    → (get_or f j 0 ≡ get_or g j 0) ⊎ ((i ≤ m) × (m < i + k) × Holds z j m) → get_or (draw_rows z i rs f) j 0 ≡ get_or (draw_rows z i rs g) j 0
unfolding draw_rows
draw_agree z no_rows i j m f g l h (inl e) = e
draw_agree z no_rows i j m f g l h (inr w) = absurd (omega (arith, w.0, w.1))
draw_agree z (one_more {k = k} {r = r} {rs = rs} q rows) i j m f g l h w =
    draw_agree z rows (i + 1) j m (sets f (place z i) r) (sets g (place z i) r)
    (length-sets f (place z i) r ∙ l ∙ sym (length-sets g (place z i) r)) (rw (length-sets f (place z i) r) h) (go (ℕ_discrete m i) w)
  where
    agree : (get_or f j 0 ≡ get_or g j 0) ⊎ ((place z i ≤ j) × (j < place z i + length r)) → get_or (sets f (place z i) r) j 0 ≡ get_or (sets g (place z i) r) j 0
    agree x = sets_agree f g (place z i) r j l h x

    go : Dec (m ≡ i) → (get_or f j 0 ≡ get_or g j 0) ⊎ ((i ≤ m) × (m < i + suc k) × Holds z j m)
        → (get_or (sets f (place z i) r) j 0 ≡ get_or (sets g (place z i) r) j 0) ⊎ ((i + 1 ≤ m) × (m < i + 1 + k) × Holds z j m)
    go d (inl e) = inl (agree (inl e))
    go (yes e) (inr x) = inl (agree (inr (rw e at x.2.from, rw q (rw e at x.2.to))))
    go (no n) (inr x) = inr (omega (arith, x.0, n), omega (arith, x.1), x.2)

-- row p of line y
pub place_at : (z : Sizes) (y p : ℕ) → p < z.planes → place z (y * z.planes + p) ≡ (p * z.height + y) * row_bytes z.width
unfolding place
place_at z y p h =
    let e : (y * z.planes + p) % z.planes ≡ p = mul-add-mod_self_right y z.planes p ∙ mod-eq_of_lt h in
    let d : (y * z.planes + p) / z.planes ≡ y = mul-add-div_right (omega arith) y p ∙ ap (λ (k : ℕ). y + k) (div-eq_of_lt h) ∙ omega arith in
    rw (e, d)

-- every byte of a frame is in a row
row_of : (z : Sizes) (n j : ℕ) → Sound z n → j < n → (m : ℕ) × (m < z.height * z.planes) × Holds z j m
unfolding frame_bytes
row_of z n j b h =
    let B : ℕ = row_bytes z.width in
    let q : ℕ = j / B in
    let B-pos : 0 < B = omega (arith, b.row_least) in
    let H-pos : 0 < z.height = omega (arith, b.height_least) in
    let q_most : q < z.planes * z.height = (div-lt_iff_lt-mul B-pos).1 (omega (arith, b.length)) in
    let p_most : q / z.height < z.planes = (div-lt_iff_lt-mul H-pos).1 q_most in
    let y_most : q % z.height < z.height = mod-lt q H-pos in
    let e : place z (q % z.height * z.planes + q / z.height) ≡ q * B = place_at z (q % z.height) (q / z.height) p_most ∙ ap (λ (k : ℕ). k * B) (div-add-mod' q z.height) in (
      q % z.height * z.planes + q / z.height,
      omega (arith, mul-le-mul_right z.planes y_most),
      record { from = rw e (omega (arith, div-add-mod' j B)); to = rw e (omega (arith, div-add-mod' j B, mod-lt j B-pos)) },
    )

-- so the rows of a whole BODY make one picture of any frame
pub draw_any : (z : Sizes) (n : ℕ) → Sound z n → (rs : List (List ℕ)) → Rows (row_bytes z.width) (z.height * z.planes) rs → (f g : List ℕ) → length f ≡ n → length g ≡ n
    → draw_rows z 0 rs f ≡ draw_rows z 0 rs g
draw_any z n b rs rows f g l k =
    ext_get_or 0 (draw_rows z 0 rs f) (draw_rows z 0 rs g) (length_draw z 0 rs f ∙ l ∙ sym k ∙ sym (length_draw z 0 rs g)) λ j h.
    let i : j < length f = rw (length_draw z 0 rs f) at h in
    let w = row_of z n j b (rw l at i) in
    draw_agree z rows 0 j w.0 f g (l ∙ sym k) i (inr (omega arith, omega (arith, w.1), w.2))

-- the picture, drawn into a frame that is there
pub body_drawn : (packed : Bool) (z : Sizes) (n : ℕ) (s : List ℕ) (rs : List (List ℕ)) (f : List ℕ) → Sound z n → length f ≡ n
    → rows_from s 0 (row_bytes z.width) (z.height * z.planes) packed ≡ ok rs → body s z packed ≡ ok (draw_rows z 0 rs f)
unfolding body
body_drawn packed z n s rs f b l e =
    rw e (ap (λ (g : List ℕ). ok g)
    (draw_any z n b rs (each_is e (rows_long packed s (row_bytes z.width) (z.height * z.planes) 0)) (replicate (frame_bytes z) 0) f
    (length-replicate (frame_bytes z) 0 ∙ sym b.length) l))

-- a picture has the length of a frame
pub body_length : (packed : Bool) (z : Sizes) (s : List ℕ) → Each (λ f. length f ≡ frame_bytes z) (body s z packed)
unfolding body
body_length packed z s =
    each_bind (rows_long packed s (row_bytes z.width) (z.height * z.planes) 0) λ rs _.
    each (length_draw z 0 rs (replicate (frame_bytes z) 0) ∙ length-replicate (frame_bytes z) 0)

-- the picture in a frame buffer, refusal by refusal
pub picture_sizes : (packed : Bool) (z : Sizes) (s : List ℕ) (n : ℕ) {m : ℕ} → frame_length z ≡ fault m → unpack n s z packed ≡ fault m
unfolding unpack
picture_sizes packed z s n e = rw e

pub picture_length : (packed : Bool) (z : Sizes) (s : List ℕ) (n : ℕ) {m : ℕ} → frame_length z ≡ ok m → (n ≡ m → ⊥) → unpack n s z packed ≡ fault 12
unfolding unpack
picture_length packed z s n {m} e h = rw (e, ne_eqb n m h)

pub picture_body : (packed : Bool) (z : Sizes) (s : List ℕ) (n : ℕ) {m : ℕ} → frame_length z ≡ ok m → n ≡ m → unpack n s z packed ≡ body s z packed
unfolding unpack
picture_body packed z s n {m} e h = rw (e, eq-eqb n m h)

pub body_short : (packed : Bool) (z : Sizes) (s : List ℕ) {n : ℕ} → answer (rows_from s 0 (row_bytes z.width) (z.height * z.planes) packed) ≡ fault n → body s z packed ≡ fault n
unfolding body
body_short packed z s e = rw (answer_refused (rows_from s 0 (row_bytes z.width) (z.height * z.planes) packed) e)
