-- Laws of the steps of unpacking a BODY.
use Prim.Native.Nat.{ℕ, zero, suc, ◌+◌, ◌-◌, ◌*◌, ◌≤◌, ◌<◌}
use native.Mathlib.Nat.{mul-le-mul_right}
use native.Mathlib.Omega.{arith}
use mathlib.Core.Bool.{Bool, true, false}
use mathlib.Core.Path.{◌≡◌, refl, sym, ap, ◌∙◌}
use mathlib.Core.List.{List, [], ◌∷◌, ◌++◌, append-nil, append_assoc}
use lib.ListN.{length, length-append, take, drop, length-drop, take-append-drop, drop_of_length-le}
use lib.Seq.{sets, take_all, take_at, drop_at, drop-drop}
use Rattle.laws.specs.Result.{Res, Res.ok, Res.fault, ◌>>=◌, answer, pick}
use Rattle.laws.proofs.ResultLaws.{each_is, answer_ok, answered, never, made_of, told}
use Rattle.laws.proofs.LoopLaws.{Going, starts, turns, stops}
use Rattle.laws.specs.Store.{over}
use Rattle.laws.proofs.StoreLaws.{length_part, over_whole, sets_part}
use Rattle.state.specs.declared.Sizes.{Sizes}
use Rattle.state.specs.State.{row_bytes, Sound}
use Rattle.state.proofs.StateLaws.{row_inside}
use Rattle.body.specs.ByteRun.{Row, packet_at, unpack_on, unpack_row}
use Rattle.body.specs.Body.{row_at, rows_from, place, draw_rows, body}
use Rattle.std.specs.Prelude.{Result, Ok}
use Rattle.refusal.specs.declared.Refusal.{Refusal}
use Rattle.body.specs.declared.Packet.{Packet}
use Rattle.body.specs.declared.Packet.TheVariants.{Nothing}
use Rattle.body.specs.Walk.{row_of, packet_of, took, puts, Drawn, DrawnRows}
use Rattle.body.specs.declared.Took.{Took}
use Rattle.body.proofs.ByteRunLaws.{packet_within, unpack_more, unpack_fault, unpack_end}
use Rattle.body.proofs.BodyLaws.{place_at, body_short, row_long}

-- the count of bytes that a step answers
pub took_is : {r : Res Row} {b : Row} (count : ℕ) → r ≡ ok b → length b.bytes ≡ count → ok (record { count = count; next = b.next }) ≡ took r
took_is {r} {b} count e l = rw (e, l)

-- the row that an answer counts
pub record TookRow (r : Res Row) (count nx : ℕ) : Type 0 where
  pub row : Row
  pub is : r ≡ ok row
  pub counted : length row.bytes ≡ count
  pub ends : row.next ≡ nx

pub took_row : {r : Res Row} {t : Took} → ok t ≡ took r → TookRow r t.count t.next
took_row {r = ok b} {t} e =
    let z : ◌≡◌ {A = Took} (record { count = length b.bytes; next = b.next }) t = cc in
    record { row = b; is = refl; counted = ap (λ (k : Took). k.count) z; ends = ap (λ (k : Took). k.next) z }
took_row {r = fault n} e = never (cc)

pub took_row_fault : {r : Res Row} {n : ℕ} → fault n ≡ took r → r ≡ fault n
took_row_fault {r = ok b} e = never (cc)
took_row_fault {r = fault m} {n} e = let z : m ≡ n = cc in rw z

-- a packet's count fits its row, and its next place lies past it and within BODY
pub packet_counted : (s : List ℕ) (at room : ℕ) {count nx : ℕ} → TookRow (packet_at s at room) count nx → (at < nx) × (nx ≤ length s) × (count ≤ room)
packet_counted s at room w =
    let p = each_is w.is (packet_within s at room) in
    (rw w.ends at p.rises, rw w.ends at p.ends, rw w.counted at p.fits)

-- the bytes of a packet that was read fit its row
pub packet_fits : (s : List ℕ) (at room : ℕ) {r : Result Packet Refusal} {p : Packet} → packet_of r ≡ packet_at s at room → r ≡ Ok p → length (row_of p).bytes ≤ room
packet_fits s at room e q = (each_is (told packet_of e q) (packet_within s at room)).fits

-- the buffer after a row, where it was refused and where it was taken
pub drawn_fault : {drawing : Bool} {f g : List ℕ} {n : ℕ} {r : Res Row} (bytes : List ℕ) → g ≡ pick drawing (over f bytes) f → r ≡ fault n → Drawn f r drawing g
drawn_fault {drawing} {f} {g} bytes e q = record { row = λ b p. never (cc); check = λ d. e ∙ rw d }

pub drawn_row : {drawing : Bool} {f g : List ℕ} {r : Res Row} {b : Row} → g ≡ pick drawing (over f b.bytes) f → r ≡ ok b → Drawn f r drawing g
drawn_row {drawing} {f} {g} {r} {b} e q = record { row = λ x p. let z : b ≡ x = cc in rw (← z) e; check = λ d. e ∙ rw d }

pub drawn_kept : {drawing : Bool} {f : List ℕ} {n : ℕ} {r : Res Row} → r ≡ fault n → Drawn f r drawing f
drawn_kept {drawing} {f} q = record { row = λ b p. never (cc); check = λ d. refl }

-- bytes laid over the front of a buffer that has room for them, and more bytes behind them
over_fits : (f bytes : List ℕ) → length bytes ≤ length f → over f bytes ≡ bytes ++ drop (length bytes) f
unfolding over
over_fits f bytes h = rw (take_all (length f) bytes h) refl

over_more : (f bytes more : List ℕ) → length bytes + length more ≤ length f
    → take (length bytes) (over f bytes) ++ over (drop (length bytes) (over f bytes)) more ≡ over f (bytes ++ more)
over_more f bytes more h =
    let d : List ℕ = drop (length bytes) f in
    let k : length more ≤ length d = simp length-drop (omega arith) in
    let a : length (bytes ++ more) ≤ length f = simp length-append h in
    rw (over_fits f bytes (omega arith), over_fits f (bytes ++ more) a, take_at bytes d (length bytes) refl, drop_at bytes d (length bytes) refl, over_fits d more k, length-append bytes more)
    (ap (λ (t : List ℕ). bytes ++ (more ++ t)) (drop-drop (length more) (length bytes) f) ∙ sym (append_assoc bytes more (drop (length bytes + length more) f)))

over_none : (f : List ℕ) → over f [] ≡ f
over_none f = over_fits f [] (omega arith)

pick_same : (t : Bool) (f : List ℕ) → f ≡ pick t f f
pick_same true f = refl
pick_same false f = refl

-- a packet that does nothing
pub nothing_taken : (s : List ℕ) (at : ℕ) (f : List ℕ) (drawing : Bool) {r : Result Packet Refusal} {nx : ℕ} → packet_of r ≡ packet_at s at (length f) → r ≡ Ok (Nothing nx)
    → (ok (record { count = 0; next = nx }) ≡ took (packet_at s at (length f))) × (f ≡ puts f (packet_at s at (length f)) drawing)
nothing_taken s at f drawing e q =
    let k = told packet_of e q in
    (rw k refl, rw k (rw (over_none f) (pick_same drawing f)))

-- the rest of a buffer from a place on, as it is lent
rest_lent : (g : List ℕ) (k : ℕ) → take (length g - k) (drop k g) ≡ drop k g
rest_lent g k = take_all (length g - k) (drop k g) (simp length-drop (omega arith))

rest_back : (g y : List ℕ) (k : ℕ) → take k g ++ (y ++ drop (length g - k) (drop k g)) ≡ take k g ++ y
rest_back g y k =
    let e : drop (length g - k) (drop k g) ≡ [] = drop_of_length-le (drop k g) {i = length g - k} (simp length-drop (omega arith)) in
    rw e (ap (λ (t : List ℕ). take k g ++ t) (append-nil y))

-- a row that is being unpacked into the buffer g, which was f and has the row's length
pub record Unpacking (s : List ℕ) (from : ℕ) (drawing : Bool) (f g : List ℕ) (at filled : ℕ) : Type 0 where
  pub bytes : List ℕ
  pub counted : length bytes ≡ filled
  pub fits : filled ≤ length f
  pub drawn : g ≡ pick drawing (over f bytes) f
  pub going : Going (unpack_on s (length f)) (λ (w : Row). length s - w.next) (fault 25) (unpack_row s from (length f)) (record { bytes = bytes; next = at })

pub unpacking_starts : {s : List ℕ} {from : ℕ} {drawing : Bool} {f : List ℕ} → Unpacking s from drawing f f from 0
unfolding unpack_row
unpacking_starts {drawing = drawing} {f = f} = record { bytes = []; counted = refl; fits = omega arith; drawn = rw (over_none f) (pick_same drawing f); going = starts refl }

puts_more : (drawing : Bool) (f g y : List ℕ) (bytes more : List ℕ) → length bytes + length more ≤ length f → g ≡ pick drawing (over f bytes) f
    → y ≡ pick drawing (over (drop (length bytes) g) more) (drop (length bytes) g) → take (length bytes) g ++ y ≡ pick drawing (over f (bytes ++ more)) f
puts_more true f g y bytes more h e k = rw (k, e) (over_more f bytes more h)
puts_more false f g y bytes more h e k = rw (k, e) (take-append-drop (length bytes) f)

module _ {s : List ℕ} {from : ℕ} {drawing : Bool} {f g : List ℕ} {at filled : ℕ} (u : Unpacking s from drawing f g at filled) (m : length g ≡ length f) where
  room : length (take (length g - filled) (drop filled g)) ≡ length f - filled
  room = rw (rest_lent g filled, length-drop filled g, m) refl

  pub unpacking_counted : {count nx : ℕ} → TookRow (packet_at s at (length (take (length g - filled) (drop filled g)))) count nx
      → (at < nx) × (nx ≤ length s) × (filled + count ≤ length f)
  unpacking_counted w = let c = packet_counted s at _ w in (c.0, c.1, omega (arith, c.2, room, u.fits))

  pub unpacking_more : {count nx : ℕ} {y : List ℕ} → filled < length f → TookRow (packet_at s at (length (take (length g - filled) (drop filled g)))) count nx
      → y ≡ puts (take (length g - filled) (drop filled g)) (packet_at s at (length (take (length g - filled) (drop filled g)))) drawing
      → Unpacking s from drawing f (take filled g ++ (y ++ drop (length g - filled) (drop filled g))) nx (filled + count)
  unpacking_more {count} {nx} {y} l w e =
      let p = w.row in
      let c = unpacking_counted w in
      let n : length u.bytes + length p.bytes ≤ length f = omega (arith, u.counted, w.counted, c.2) in
      let z : y ≡ pick drawing (over (drop (length u.bytes) g) p.bytes) (drop (length u.bytes) g) = e ∙ rw (w.is, rest_lent g filled, u.counted) refl in
      record {
        bytes = u.bytes ++ p.bytes;
        counted = length-append u.bytes p.bytes ∙ omega (arith, u.counted, w.counted);
        fits = c.2;
        drawn = rest_back g y filled ∙ rw (← u.counted) (puts_more drawing f g y u.bytes p.bytes n u.drawn z);
        going = rw (← w.ends) (turns u.going (unpack_more s (length f) (record { bytes = u.bytes; next = at }) p (omega (arith, u.counted)) (rw (u.counted, ← room) w.is)) (omega (arith, c.0, c.1, w.ends)));
      }

  pub unpacking_fault : {n : ℕ} {y : List ℕ} → filled < length f → packet_at s at (length (take (length g - filled) (drop filled g))) ≡ fault n
      → y ≡ puts (take (length g - filled) (drop filled g)) (packet_at s at (length (take (length g - filled) (drop filled g)))) drawing
      → (fault n ≡ took (unpack_row s from (length f))) × Drawn f (unpack_row s from (length f)) drawing (take filled g ++ (y ++ drop (length g - filled) (drop filled g)))
  unpacking_fault {n} {y} l q e =
      let k : fault n ≡ unpack_row s from (length f) = stops u.going (unpack_fault s (length f) (record { bytes = u.bytes; next = at }) n (omega (arith, u.counted)) (rw (u.counted, ← room) q)) in
      let z : y ≡ drop filled g = e ∙ rw (q, rest_lent g filled) refl in
      (ap took k, drawn_fault u.bytes (rest_back g y filled ∙ rw z (take-append-drop filled g) ∙ u.drawn) (sym k))

  pub unpacking_end : length f ≤ filled → (ok (record { count = filled; next = at }) ≡ took (unpack_row s from (length f))) × Drawn f (unpack_row s from (length f)) drawing g
  unpacking_end l =
      let k : ok (record { bytes = u.bytes; next = at }) ≡ unpack_row s from (length f) = stops u.going (unpack_end s (length f) (record { bytes = u.bytes; next = at }) (omega (arith, u.counted))) in
      (took_is filled (sym k) u.counted, drawn_row u.drawn (sym k))

-- one row of several
rows_step : (packed : Bool) (s : List ℕ) (B k at : ℕ) {r : Row} → row_at s at B packed ≡ ok r → 0 < k
    → rows_from s at B k packed ≡ (rows_from s r.next B (k - 1) packed >>= λ rs. ok (r.bytes ∷ rs))
unfolding rows_from
rows_step packed s B zero at e h = absurd (omega arith)
rows_step packed s B (suc k) at e h = let l : suc k - 1 ≡ k = omega arith in rw (l, e)

pub rows_on : (packed : Bool) (s : List ℕ) (B k at : ℕ) {count nx : ℕ} → TookRow (row_at s at B packed) count nx → 0 < k
    → answer (rows_from s at B k packed) ≡ answer (rows_from s nx B (k - 1) packed)
rows_on packed s B k at w h =
    ap answer (rows_step packed s B k at w.is h) ∙ answer_ok (rows_from s w.row.next B (k - 1) packed) (λ rs. w.row.bytes ∷ rs)
    ∙ ap (λ (p : ℕ). answer (rows_from s p B (k - 1) packed)) w.ends

pub rows_stop : (packed : Bool) (s : List ℕ) (B k at : ℕ) {n : ℕ} → row_at s at B packed ≡ fault n → 0 < k → rows_from s at B k packed ≡ fault n
unfolding rows_from
rows_stop packed s B zero at e h = absurd (omega arith)
rows_stop packed s B (suc k) at e h = rw e

pub rows_none : (packed : Bool) (s : List ℕ) (B k at : ℕ) → k ≡ 0 → rows_from s at B k packed ≡ ok []
unfolding rows_from
rows_none packed s B k at e = rw e

-- rows that are being drawn into the frame g, which was f, from row i on
pub record Drawing (packed : Bool) (z : Sizes) (s f g : List ℕ) (at i : ℕ) : Type 0 where
  pub left : ℕ
  pub counted : left + i ≡ z.height * z.planes
  pub rows : (rs : List (List ℕ)) → rows_from s 0 (row_bytes z.width) (z.height * z.planes) packed ≡ ok rs
      → (rest : List (List ℕ)) × (rows_from s at (row_bytes z.width) left packed ≡ ok rest) × (draw_rows z i rest g ≡ draw_rows z 0 rs f)

pub drawing_starts : {packed : Bool} {z : Sizes} {s f : List ℕ} → Drawing packed z s f f 0 0
drawing_starts {z = z} = record { left = z.height * z.planes; counted = omega arith; rows = λ rs e. (rs, e, refl) }

record Split (packed : Bool) (s : List ℕ) (B k nx : ℕ) (b : List ℕ) (rows : List (List ℕ)) : Type 0 where
  rest : List (List ℕ)
  there : rows_from s nx B (k - 1) packed ≡ ok rest
  whole : rows ≡ b ∷ rest

split : (packed : Bool) (s : List ℕ) (B k at : ℕ) {r : Row} (rows : List (List ℕ)) → row_at s at B packed ≡ ok r → 0 < k → rows_from s at B k packed ≡ ok rows
    → Split packed s B k r.next r.bytes rows
split packed s B k at {r} rows e h q =
    let m = made_of (rows_from s r.next B (k - 1) packed) (sym (rows_step packed s B k at e h) ∙ q) in
    record { rest = m.0; there = m.1; whole = sym m.2 }

draw_step : (z : Sizes) (i : ℕ) (g h b : List ℕ) (rest rows : List (List ℕ)) → rows ≡ b ∷ rest → h ≡ sets g (place z i) b → draw_rows z (i + 1) rest h ≡ draw_rows z i rows g
unfolding draw_rows
draw_step z i g h b rest rows e l = rw (e, l)

module _ {packed : Bool} {z : Sizes} {s f g : List ℕ} {at i : ℕ} (d : Drawing packed z s f g at i) where
  some_left : i < z.height * z.planes → 0 < d.left
  some_left h = omega (arith, d.counted)

  pub drawing_more : {count nx : ℕ} {h : List ℕ} → i < z.height * z.planes → TookRow (row_at s at (row_bytes z.width) packed) count nx
      → ((b : Row) → row_at s at (row_bytes z.width) packed ≡ ok b → h ≡ sets g (place z i) b.bytes) → Drawing packed z s f h nx (i + 1)
  drawing_more {count} {nx} {h} l w x = record {
    left = d.left - 1;
    counted = omega (arith, d.counted, some_left l);
    rows = λ rs e.
        let p = d.rows rs e in
        let q = split packed s (row_bytes z.width) d.left at p.0 w.is (some_left l) p.1 in
        (q.rest, rw (← w.ends) q.there, draw_step z i g h w.row.bytes q.rest p.0 q.whole (x w.row w.is) ∙ p.2);
  }

  pub drawing_stop : {n : ℕ} → i < z.height * z.planes → row_at s at (row_bytes z.width) packed ≡ fault n → (h : List ℕ) → DrawnRows f s z packed h
  drawing_stop l e h = record {
    rows = λ rs q.
        let p = d.rows rs q in
        let b = rows_stop packed s (row_bytes z.width) d.left at e (some_left l) in
        let t = p.1 in
        never (cc);
  }

  pub drawing_end : i ≡ z.height * z.planes → DrawnRows f s z packed g
  unfolding draw_rows
  drawing_end e = record {
    rows = λ rs q.
        let p = d.rows rs q in
        let n : p.0 ≡ [] = cc (rows_none packed s (row_bytes z.width) d.left at (omega (arith, d.counted))) in
        rw n at p.2;
  }

-- the rows of a frame by line and plane, in BODY's order
pub spot_before : (height planes line plane : ℕ) → line < height → plane < planes → line * planes + plane < height * planes
spot_before height planes line plane h k = omega (arith, mul-le-mul_right planes h)

pub lines_small : (z : Sizes) {n row : ℕ} (k : ℕ) → Sound z n → row ≡ row_bytes z.width → k ≤ z.height → k * row ≤ 131072
lines_small z k b r h = rw r (omega (arith, mul-le-mul_right (row_bytes z.width) h, b.plane_most))

-- a row that was drawn into the part of a frame that was lent for it
pub lent_length : (g : List ℕ) (spot row : ℕ) → spot + row ≤ length g → length (take (spot + row - spot) (drop spot g)) ≡ row
lent_length g spot row fits = let i : spot + row - spot ≡ row = omega arith in rw i (length_part g spot row fits)

row_laid : (packed : Bool) (s : List ℕ) (at : ℕ) (g : List ℕ) (spot row : ℕ) {y : List ℕ} → spot + row ≤ length g
    → Drawn (take (spot + row - spot) (drop spot g)) (row_at s at (length (take (spot + row - spot) (drop spot g))) packed) true y
    → (b : Row) → row_at s at (length (take (spot + row - spot) (drop spot g))) packed ≡ ok b → take spot g ++ (y ++ drop (spot + row - spot) (drop spot g)) ≡ sets g spot b.bytes
row_laid packed s at g spot row {y} fits d b q =
    let i : spot + row - spot ≡ row = omega arith in
    let n : length b.bytes ≡ length (take (spot + row - spot) (drop spot g)) = each_is q (row_long packed s _ at) in
    let w : y ≡ b.bytes = d.row b q ∙ over_whole b.bytes (take (spot + row - spot) (drop spot g)) (sym n) in
    rw w (sets_part spot (spot + row) g b.bytes (omega arith) fits (n ∙ lent_length g spot row fits ∙ sym i))

-- a walk that draws: the row that comes next is that of a line and a plane, and goes to a place
pub record Walking (packed : Bool) (z : Sizes) (s f g : List ℕ) (at row line plane spot : ℕ) : Type 0 where
  pub place : spot ≡ (plane * z.height + line) * row
  pub drawing : Drawing packed z s f g at (line * z.planes + plane)

pub walking_line : {packed : Bool} {z : Sizes} {s f g : List ℕ} {at : ℕ} (row line : ℕ) → Drawing packed z s f g at (line * z.planes) → Walking packed z s f g at row line 0 (line * row)
walking_line {z = z} row line d =
    let i : line * z.planes + 0 ≡ line * z.planes = omega arith in
    record { place = omega arith; drawing = rw i d }

pub walking_end : {packed : Bool} {z : Sizes} {s f g : List ℕ} {at row line plane spot : ℕ} → Walking packed z s f g at row line plane spot → plane ≡ z.planes → Drawing packed z s f g at ((line + 1) * z.planes)
walking_end {packed} {z} {s} {f} {g} {at} {line = line} {plane} w e =
    let i : line * z.planes + plane ≡ (line + 1) * z.planes = omega arith in
    rw i at w.drawing

module _ {packed : Bool} {z : Sizes} {s f g : List ℕ} {at row line plane spot : ℕ} (w : Walking packed z s f g at row line plane spot) (r : row ≡ row_bytes z.width) (l : line < z.height) (p : plane < z.planes) where
  pub walking_fits : {n : ℕ} → Sound z n → spot + row ≤ n
  walking_fits {n} b = rw (w.place, r) (row_inside z n line plane b l p)

  pub walking_on : {count nx : ℕ} {y : List ℕ} → spot + row ≤ length g → TookRow (row_at s at (length (take (spot + row - spot) (drop spot g))) packed) count nx
      → Drawn (take (spot + row - spot) (drop spot g)) (row_at s at (length (take (spot + row - spot) (drop spot g))) packed) true y
      → Walking packed z s f (take spot g ++ (y ++ drop (spot + row - spot) (drop spot g))) nx row line (plane + 1) (spot + z.height * row)
  walking_on {count} {nx} {y} fits b d =
      let m : place z (line * z.planes + plane) ≡ spot = place_at z line plane p ∙ rw (← r) (sym w.place) in
      let i : line * z.planes + plane + 1 ≡ line * z.planes + (plane + 1) = omega arith in
      let n : length (take (spot + row - spot) (drop spot g)) ≡ row_bytes z.width = lent_length g spot row fits ∙ r in
      record {
        place = omega (arith, w.place);
        drawing = rw (← i) (drawing_more w.drawing (spot_before z.height z.planes line plane l p) (rw n at b) (rw m (rw n at (row_laid packed s at g spot row fits d))));
      }

  pub walking_stop : {n : ℕ} → spot + row ≤ length g → row_at s at (length (take (spot + row - spot) (drop spot g))) packed ≡ fault n → (h : List ℕ) → DrawnRows f s z packed h
  walking_stop fits e h =
      let n : length (take (spot + row - spot) (drop spot g)) ≡ row_bytes z.width = lent_length g spot row fits ∙ r in
      drawing_stop w.drawing (spot_before z.height z.planes line plane l p) (rw n at e) h

-- a row that was checked in the front of a frame leaves the frame as it was
pub checked_back : (f : List ℕ) (row : ℕ) {y : List ℕ} {r : Res Row} → Drawn (take row f) r false y → y ++ drop row f ≡ f
checked_back f row d = rw (d.check refl) (take-append-drop row f)

-- what the check of all rows tells
module _ (packed : Bool) (z : Sizes) (s : List ℕ) {row : ℕ} (b : row ≡ row_bytes z.width) where
  pub check_failed : {n : ℕ} → fault n ≡ answer (rows_from s 0 row (z.height * z.planes) packed) → body s z packed ≡ fault n
  check_failed e = body_short packed z s (rw b at (sym e))

  pub check_passed : ok tt ≡ answer (rows_from s 0 row (z.height * z.planes) packed)
      → (rs : List (List ℕ)) × (rows_from s 0 (row_bytes z.width) (z.height * z.planes) packed ≡ ok rs)
  check_passed e = answered (rows_from s 0 (row_bytes z.width) (z.height * z.planes) packed) (rw b at e)
