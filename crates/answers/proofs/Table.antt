-- Every refusal of a definition has a number of the table; of those here only the writer's may be 51, since what lies ahead of a step has
-- no record yet.
use Prim.Native.Nat.{ℕ, zero, suc, ◌+◌, ◌-◌, ◌*◌}
use mathlib.Core.Bool.{Bool, true, false, ◌&&◌, not}
use mathlib.Core.List.{List, []}
use mathlib.Core.Option.{Option, none, some}
use mathlib.Core.Path.{refl}
use lib.Dec.{leb, ltb, eqb}
use lib.ListN.{length, get_or, take}
use Rattle.laws.specs.Bytes.{be32}
use Rattle.laws.specs.Result.{Res, Res.ok, Res.fault}
use Rattle.laws.proofs.ResultLaws.{pick_both}
use Rattle.laws.proofs.LoopLaws.{Comes, Comes.comes_next, Comes.comes_done, comes_pick, iterate_holds}
use Rattle.refusal.specs.Number.{is_number}
use Rattle.state.specs.declared.Sizes.{Sizes}
use Rattle.state.specs.declared.State.{State}
use Rattle.state.specs.State.{within, row_bytes, frame_length, state_length, lent_length, step_length}
use Rattle.state.specs.World.{World, shown_in, hidden_in}
use Rattle.colours.specs.Colours.{MAP, good_length, colours}
use Rattle.iff.specs.Ids.{FORM, ANIM, ILBM, BMHD, BODY, CMAP, ANHD, DLTA}
use Rattle.iff.specs.Chunk.{Chunk, Walk, padded, chunk_at, walk_on, walk_step, chunks, find, has, bytes_of, contents}
use Rattle.form.specs.Form.{anim_end, FormIlbm, chunks_of, pass_on, form_step, next_form}
use Rattle.bmhd.specs.Header.{sizes_at, refused_as, bitmap_header}
use Rattle.bmhd.specs.declared.Header.{Header}
use Rattle.anhd.specs.Anhd.{method_ok, interleave_ok, bits_ok, columns_ok, items_of, frame_header}
use Rattle.body.specs.ByteRun.{Row, PacketKind, PacketKind.copies, PacketKind.nothing, PacketKind.repeats, packet_kind_of, packet_as, packet_at, with_packet, unpack_on, unpack_row}
use Rattle.body.specs.Body.{row_at, rows_from, body}
use Rattle.delta.specs.Reading.{shape_of}
use Rattle.frame.specs.Frame.{Frame, frame_in, frame_or, frame_at}
use Rattle.opening.specs.Open.{body_in, places_in, first_places, first_header, frame_size, first_delta, first_body, first_picture, first_of, opening}
use Rattle.record.specs.Record.{past_of, restored}
use Rattle.step_on.specs.Step.{ready, change, build, look, look_ahead}
use Rattle.step_back.specs.Back.{retreat}
use Rattle.shown.specs.Row.{row_place}
use Rattle.writer.specs.Write.{delta_bytes, written}
use Rattle.answers.proofs.InTable.{Numbered, Numbered.table_value, Numbered.table_refusal, InTable, listed, table_bind, table_need, table_test, table_refuse}
use Rattle.answers.proofs.DeltaTable.{delta_table}

-- chunks
chunk_table : (s : List ℕ) (at : ℕ) → InTable (chunk_at s at)
unfolding chunk_at
chunk_table s at = pick_both InTable (leb (length s) at) table_value (table_need (leb (at + 8) (length s)) 21 _ refl (table_need (leb (at + 8 + padded (be32 s (at + 4))) (length s)) 21 _ refl table_value))

chunks_table : (s : List ℕ) → InTable (chunks s)
unfolding chunks
chunks_table s = iterate_holds (walk_step s) (λ w. length s - w.at) (fault 21) (λ _. Unit {0}) InTable (table_refusal {n = 21} refl) (λ w _. step w (chunk_at s w.at) (chunk_table s w.at)) _ tt
  where
    step : (w : Walk) (q : Res (Option Chunk)) → InTable q → Comes (λ (v : Walk). Unit {0}) InTable (walk_on w q)
    step w (ok (some c)) k = comes_next tt
    step w (ok none) k = comes_done table_value
    step w (fault n) (table_refusal k) = comes_done (table_refusal k)

find_table : (id : ℕ) (s : List ℕ) → InTable (find s id)
unfolding find
find_table id s = table_bind (chunks_table s) λ cs. table_value

has_table : (id : ℕ) (s : List ℕ) → InTable (has s id)
has_table id s = table_bind (find_table id s) λ o. table_value

form_table : (s : List ℕ) (from : ℕ) → InTable (next_form s from)
unfolding next_form
form_table s from = iterate_holds (form_step s) (λ at. length s - at) (fault 21) (λ _. Unit {0}) InTable (table_refusal {n = 21} refl) (λ at _. step (chunk_at s at) (chunk_table s at)) from tt
  where
    step : (q : Res (Option Chunk)) → InTable q → Comes (λ (_ : ℕ). Unit {0}) InTable (pass_on s q)
    step (ok (some c)) k =
        comes_pick (eqb c.id FORM)
        (λ _. comes_pick (leb 4 c.size) (λ _. comes_pick (eqb (be32 s c.start) ILBM) (λ _. comes_done table_value) (λ _. comes_next tt)) (λ _. comes_done (table_refusal {n = 21} refl)))
        (λ _. comes_next tt)
    step (ok none) k = comes_done table_value
    step (fault n) (table_refusal k) = comes_done (table_refusal k)

-- the first picture's places and its frame's length
given_table : (s : List ℕ) → InTable (body_in s)
unfolding body_in
given_table s =
    table_bind (has_table BMHD s) λ h. table_need h 23 _ refl
    (table_bind (has_table BODY s) λ b. pick_both InTable b table_value (table_bind (has_table DLTA s) λ d. table_need d 23 _ refl table_value))

places_table : (file : List ℕ) → InTable (first_places file)
unfolding first_places anim_end places_in
places_table file =
    table_need (leb (length file) 2_147_483_647) 13 _ refl
    (table_bind (table_need (leb 12 (length file)) 21 _ refl (table_need (eqb (be32 file 0) FORM && eqb (be32 file 8) ANIM) 22 _ refl
    (table_need (leb 4 (be32 file 4)) 21 _ refl (table_need (leb (be32 file 4 + 8) (length file)) 21 _ refl table_value)))) λ end.
    table_bind (form_table (take end file) 12) λ o. table_bind (table_refuse 23 o refl) λ x. table_bind (given_table (chunks_of (take end file) x)) λ b. table_value)

length_table : (z : Sizes) → InTable (frame_length z)
unfolding frame_length
length_table z = table_need (within 1 1024 z.width) 11 _ refl (table_need (within 1 1024 z.height) 11 _ refl (table_need (within 1 8 z.planes) 11 _ refl table_value))

header_table : (s : List ℕ) → InTable (bitmap_header s)
unfolding bitmap_header
header_table s =
    table_need (eqb (length s) 20) 24 _ refl
    (table_bind (refused_table (frame_length (sizes_at s))) λ n. table_need (not (eqb (get_or s 9 0) 1)) 24 _ refl (table_need (leb (get_or s 10 0) 1) 24 _ refl table_value))
  where
    refused_table : {A : Type 0} (r : Res A) → InTable (refused_as 24 r)
    refused_table (ok a) = table_value
    refused_table (fault n) = table_refusal {n = 24} refl

first_header_table : (s : List ℕ) (t : Bool) → InTable (first_header s t)
unfolding first_header
first_header_table s t = table_bind (pick_both InTable t table_value (has_table ANHD s)) λ h. table_need h 31 _ refl (header_table (contents s BMHD))

pub size_table : (file : List ℕ) → InTable (frame_size file)
unfolding frame_size
size_table file = table_bind (places_table file) λ p. table_bind (first_header_table (chunks_of file p.form) p.body) λ z. table_value

-- a frame's header
anhd_table : (first : Bool) (B : ℕ) (d : List ℕ) → InTable (frame_header first B d)
unfolding frame_header
anhd_table first B d =
    table_need (leb 40 (length d)) 32 _ refl (table_need (method_ok (get_or d 0 0)) 33 _ refl (table_need (interleave_ok first (get_or d 18 0)) 34 _ refl
    (table_need (bits_ok (get_or d 0 0) (be32 d 20)) 35 _ refl (table_need (columns_ok (items_of (get_or d 0 0) (be32 d 20)) B) 36 _ refl table_value))))

-- a frame's colours
colours_table : (cmap : List ℕ) → InTable (colours cmap)
unfolding colours
colours_table cmap = table_need (good_length (length cmap)) 37 _ refl table_value

-- a later frame
frame_table : (s : List ℕ) (B at : ℕ) → InTable (frame_at s at B)
unfolding frame_at frame_in
frame_table s B at = table_bind (form_table s at) go
  where
    go : (o : Option FormIlbm) → InTable (frame_or s B o)
    go none = table_value
    go (some x) =
        table_bind
        (table_bind (table_bind (find_table ANHD (chunks_of s x)) λ o. table_refuse 31 o refl) λ h.
        table_bind (table_bind (find_table DLTA (chunks_of s x)) λ o. table_refuse 31 o refl) λ d.
        table_bind (anhd_table false B (bytes_of (chunks_of s x) h)) λ y. table_bind (colours_table (contents (chunks_of s x) CMAP)) λ c. table_value)
        λ f. table_value

-- the first picture's BODY
packet_table : (s : List ℕ) (at room : ℕ) → InTable (packet_at s at room)
unfolding packet_at
packet_table s at room = table_need (ltb at (length s)) 25 _ refl (go (packet_kind_of (get_or s at 0)))
  where
    go : (k : PacketKind) → InTable (packet_as s at room k)
    go (copies n) = table_need (leb n room) 25 _ refl (table_need (leb (at + 1 + n) (length s)) 25 _ refl table_value)
    go nothing = table_value
    go (repeats n) = table_need (leb n room) 25 _ refl (table_need (leb (at + 2) (length s)) 25 _ refl table_value)

unpack_table : (s : List ℕ) (B at : ℕ) → InTable (unpack_row s at B)
unfolding unpack_row
unpack_table s B at = iterate_holds (unpack_on s B) (λ (w : Row). length s - w.next) (fault 25) (λ _. Unit {0}) InTable (table_refusal {n = 25} refl) (λ w _. step w) (record { bytes = []; next = at }) tt
  where
    with_table : (w : Row) (r : Res Row) → InTable r → Comes (λ (_ : Row). Unit {0}) InTable (with_packet w r)
    with_table w (ok p) h = comes_next tt
    with_table w (fault n) (table_refusal h) = comes_done (table_refusal h)

    step : (w : Row) → Comes (λ (_ : Row). Unit {0}) InTable (unpack_on s B w)
    step w = comes_pick (leb B (length w.bytes)) (λ _. comes_done table_value) (λ _. with_table w (packet_at s w.next (B - length w.bytes)) (packet_table s w.next (B - length w.bytes)))

row_table : (packed : Bool) (s : List ℕ) (B at : ℕ) → InTable (row_at s at B packed)
unfolding row_at
row_table true s B at = unpack_table s B at
row_table false s B at = table_need (leb (at + B) (length s)) 25 _ refl table_value

rows_table : (packed : Bool) (s : List ℕ) (B k at : ℕ) → InTable (rows_from s at B k packed)
unfolding rows_from
rows_table packed s B zero at = table_value
rows_table packed s B (suc k) at = table_bind (row_table packed s B at) λ r. table_bind (rows_table packed s B k r.next) λ rs. table_value

-- opening
picture_table : (s : List ℕ) (t : Bool) (z : Header) → InTable (first_picture s t z)
unfolding first_picture first_body first_delta body
picture_table s true z = table_bind (colours_table (contents s CMAP)) λ c. table_bind (rows_table z.packed (contents s BODY) (row_bytes z.sizes.width) (z.sizes.height * z.sizes.planes) 0) λ rs. table_value
picture_table s false z =
    table_bind (anhd_table true (row_bytes z.sizes.width) (contents s ANHD)) λ h. table_bind (colours_table (contents s CMAP)) λ c. table_bind (delta_table (shape_of z.sizes h.items) (contents s DLTA)) λ ops. table_value

pub opening_table : (file : List ℕ) (a b map : ℕ) → InTable (opening file a b map)
unfolding opening first_of
opening_table file a b map =
    table_bind (places_table file) λ p.
    table_bind
    (table_bind (first_header_table (chunks_of file p.form) p.body) λ z. table_need (eqb a z.length) 12 _ refl (table_need (eqb b z.length) 12 _ refl
    (table_need (eqb map MAP) 12 _ refl (table_bind (picture_table (chunks_of file p.form) p.body z) λ f. table_value))))
    λ f. table_value

-- the state
state_table : (s : State) → InTable (state_length s)
unfolding state_length
state_table s = table_need (within 1 1_000_000 s.frame) 11 _ refl (table_need (within 12 s.end s.next) 11 _ refl (table_need (leb s.end 2_147_483_647) 11 _ refl (length_table s.sizes)))

-- the same with A and B
lent_table : (s : State) (a b : ℕ) → InTable (lent_length s a b)
unfolding lent_length
lent_table s a b = table_bind (state_table s) λ n. table_need (eqb a n) 12 _ refl (table_need (eqb b n) 12 _ refl table_value)

-- the same with the map
step_table : (s : State) (a b map : ℕ) → InTable (step_length s a b map)
unfolding step_length
step_table s a b map = table_bind (lent_table s a b) λ n. table_need (eqb map MAP) 12 _ refl table_value

-- stepping on, but for the record's length
pub on_table : (file : List ℕ) (w : World) (work : ℕ) → InTable (look_ahead file w work)
unfolding look_ahead ready look change
on_table file w work =
    table_bind
    (table_need (leb w.state.end (length file)) 11 _ refl (table_bind (step_table w.state (length w.a) (length w.b) (length w.map)) λ n.
    table_need (eqb work n) 12 _ refl (table_test (ltb w.state.frame 1_000_000) 53 refl)))
    λ _. table_bind (frame_table (take w.state.end file) (row_bytes w.state.sizes.width) w.state.next) built
  where
    built : (o : Option Frame) → InTable (build w.state.sizes (shown_in w) (hidden_in w) o)
    built none = table_value
    built (some x) = table_bind (table_bind (delta_table (shape_of w.state.sizes x.header.items) x.dlta) λ ops. table_value) λ f. table_value

-- stepping back
pub back_table : (w : World) (bytes : List ℕ) → InTable (retreat w bytes)
unfolding retreat restored
back_table w bytes =
    table_bind (step_table w.state (length w.a) (length w.b) (length w.map)) λ n.
    table_bind (table_refuse 61 (past_of bytes (shown_in w) w.map) refl) λ p.
    table_need (leb 2 p.frame) 62 _ refl (table_need (eqb p.frame w.state.frame) 62 _ refl (table_need (leb 12 p.place) 62 _ refl (table_need (ltb p.place w.state.next) 62 _ refl table_value)))

-- a row
pub place_table : (s : State) (a b plane row : ℕ) → InTable (row_place s a b plane row)
unfolding row_place
place_table s a b plane row =
    table_bind (lent_table s a b) λ n. table_need (ltb plane s.sizes.planes) 14 _ refl (table_need (ltb row s.sizes.height) 14 _ refl table_value)

-- the writer, whose last refusal is 51
pub written_table : (z : Sizes) (old new : List ℕ) (room : ℕ) → Numbered is_number (written room old new z)
unfolding written
written_table z old new room =
    table_bind (listed (length_table z)) λ n. table_need (eqb (length old) n) 12 _ refl (table_need (eqb (length new) n) 12 _ refl (table_need (leb (length (delta_bytes old new z)) room) 51 _ refl table_value))
