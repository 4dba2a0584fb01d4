-- Each frame takes at least 100 bytes of the file, and its line has at most 68: how long the text is after each frame.
use Prim.Native.Nat.{ℕ, suc, ◌+◌, ◌-◌, ◌*◌, ◌<◌, ◌≤◌}
use native.Mathlib.Omega.{arith}
use mathlib.Core.List.{List, [], ◌++◌}
use mathlib.Core.Option.{Option, none, some}
use mathlib.Core.Path.{◌≡◌, refl}
use lib.Dec.{leb, eqb}
use lib.ListN.{length, take, length-take, length-append}
use borrow.Author.Tests.{leb-true}
use Rattle.laws.specs.Bytes.{Bytes}
use Rattle.laws.proofs.BytesLaws.{bytes_take}
use Rattle.laws.specs.Result.{Res, Res.ok, Res.fault}
use Rattle.laws.proofs.ResultLaws.{Each, Each.each, Each.no_value, All, All.all_some, All.all_none, each_self, each_bind, each_is, all_value, pick_both, pick_case, each_some}
use Rattle.laws.specs.Loop.{Step}
use Rattle.laws.proofs.LoopLaws.{Comes, Comes.comes_next, Comes.comes_done, iterate_holds}
use Rattle.refusal.specs.Number.{is_number}
use Rattle.colours.specs.Colours.{MAP, coloured}
use Rattle.state.specs.declared.Report.{Report}
use Rattle.state.specs.declared.Sizes.{Sizes}
use Rattle.state.specs.State.{row_bytes, Sound}
use Rattle.state.proofs.StateLaws.{sizes_sound}
use Rattle.form.specs.Form.{chunks_of}
use Rattle.delta.specs.Reading.{shape_of}
use Rattle.delta.specs.Delta.{draw}
use Rattle.delta.proofs.DeltaLaws.{draw_length}
use Rattle.frame.specs.Frame.{Frame, frame_at}
use Rattle.frame.proofs.FrameLaws.{frame_rises}
use Rattle.state.specs.Film.{Film}
use Rattle.opening.specs.Open.{opening}
use Rattle.opening.proofs.OpenLaws.{places_lie, first_long}
use Rattle.state.specs.World.{World, is_odd, shown_in, hidden_in, with_hidden}
use Rattle.state.specs.After.{After, lent_after}
use Rattle.step_on.specs.Step.{basis, change, Built, build, look, look_ahead, report_of}
use Rattle.step_on.proofs.CaseLaws.{step_to, on_case}
use Rattle.step_on.proofs.ReadyLaws.{Passed, ready_passed}
use Rattle.lines.specs.Lines.{frame_line, end_line, refused_line, picture_line}
use Rattle.listing.specs.Listing.{Listing, line_on, list_step, list_frames, Buffers, list_opened, ROOM, list_front, plan_sized, list_planned, Planned}
use Rattle.changes.proofs.CountLaws.{differing_short}
use Rattle.record.proofs.RecordRoom.{record_room_lem}
use Rattle.answers.proofs.InTable.{Numbered, Numbered.table_refusal, listed, table_number}
use Rattle.answers.proofs.Table.{opening_table, on_table}
use Rattle.listing_laws.proofs.ShortLaws.{Holds, frame_holds, pointers_least, delta_long, Tells, frame_line_short, end_line_short, refused_line_short, picture_line_short}

-- a picture that the listing program's buffers hold
abbrev Small : List ℕ → Type 0
Small p = length p ≤ 16_384

-- what a step to a frame that was built comes to
record Steps (file : ℕ) (w : World) (x : Built) : Type 0 where
  few : w.state.frame < 1_000_000
  rises : w.state.next + 100 ≤ x.next
  ends : x.next ≤ file
  picture : Small x.picture
  tells : Tells (report_of w x)

module _ (file : List ℕ) (w : World) (bytes : Bytes file) {size : ℕ} (passed : Passed (length file) w.state (length w.a) (length w.b) (length w.map) size)
    (shown_small : Small (shown_in w)) (hidden_small : Small (hidden_in w)) where
  abbrev anim : List ℕ
  anim = take w.state.end file

  abbrev B : ℕ
  B = row_bytes w.state.sizes.width

  change_holds : (x : Frame) → frame_at anim w.state.next B ≡ ok (some x) → Holds w.state.next x → Each (Steps (length file) w) (change w.state.sizes x (shown_in w) (hidden_in w))
  unfolding change
  change_holds x e h =
      let z : Sizes = w.state.sizes in
      let k = frame_rises anim B w.state.next x e in
      let few = passed.on_a.few in
      each_bind (delta_long z x.header.items x.dlta) λ ops l.
      let f : List ℕ = draw (shape_of z x.header.items) x.dlta ops (basis x.header (shown_in w) (hidden_in w)) in
      each (record {
        few = few;
        rises = omega (arith, h.takes, pointers_least z x.header.items);
        ends = omega (arith, k.ends, length-take w.state.end file);
        picture = rw (draw_length (shape_of z x.header.items) x.dlta ops (basis x.header (shown_in w) (hidden_in w))) (pick_both Small (eqb x.header.interleave 1) shown_small hidden_small);
        tells = record {
          method = omega (arith, h.method);
          time = omega (arith, h.time);
          changed = omega (arith, differing_short (hidden_in w) f);
          record_length = omega (arith, record_room_lem (suc w.state.frame) w.state.next (hidden_in w) f w.map (coloured w.map x.cmap) few (omega arith) passed.map_long);
        };
      })

  build_holds : (o : Option Frame) → frame_at anim w.state.next B ≡ ok o → All (Holds w.state.next) o → Each (All (Steps (length file) w)) (build w.state.sizes (shown_in w) (hidden_in w) o)
  build_holds none e h = each all_none
  build_holds (some x) e h = each_bind (change_holds x e (all_value h)) λ y k. each (all_some k)

  look_holds : Each (All (Steps (length file) w)) (look anim w.state (shown_in w) (hidden_in w))
  unfolding look
  look_holds =
      each_bind (each_both (each_self (frame_at anim w.state.next B)) (frame_holds anim B w.state.next (bytes_take w.state.end file bytes))) λ o h.
      build_holds o h.0 h.1
    where
      each_both : {A : Type 0} {P Q : A → Type 0} {r : Res A} → Each P r → Each Q r → Each (λ (a : A). P a × Q a) r
      each_both (each p) (each q) = each (p, q)
      each_both no_value q = no_value

-- while frames are listed: 68 bytes of text for each 100 of the file, and a line before the first frame
record Roomy (c : Listing) : Type 0 where
  left : Small c.lent.world.a
  right : Small c.lent.world.b
  frame : c.lent.world.state.frame ≤ 1_000_000
  place : c.lent.world.state.next ≤ 65_536
  text : 100 * length c.text ≤ 68 * c.lent.world.state.next + 100 * 68

abbrev pub Short : Listing → Type 0
Short c = length c.text ≤ 65_536

-- one line more at the end
last_short : (c : Listing) → Roomy c → (line : List ℕ) → length line ≤ 68 → length (c.text ++ line) ≤ 65_536
last_short c h line k = omega (arith, length-append c.text line, h.text, h.place)

-- a step that comes to o, and its line
abbrev told : Listing → After → Step Listing Listing
told c o = line_on o.answer (record { lent = lent_after c.lent o; text = c.text })

module _ (file : List ℕ) (bytes : Bytes file) (short : length file ≤ 65_536) (size : ℕ) where
  -- what a step that is taken is told as
  stepped : (c : Listing) → Roomy c → (x : Built) → Steps (length file) c.lent.world x → Comes Roomy Short (told c (step_to c.lent.world x))
  unfolding lent_after with_hidden
  stepped c h x k =
      let r : Report = report_of c.lent.world x in
      let n : suc c.lent.world.state.frame < 10_000_000 = omega (arith, k.few) in
      let f : suc c.lent.world.state.frame ≤ 1_000_000 = omega (arith, k.few) in
      let p : x.next ≤ 65_536 = omega (arith, k.ends) in
      let t : 100 * length (c.text ++ frame_line (suc c.lent.world.state.frame) r) ≤ 68 * x.next + 100 * 68 =
      omega (arith, length-append c.text (frame_line (suc c.lent.world.state.frame) r), frame_line_short (suc c.lent.world.state.frame) r n k.tells, h.text, k.rises) in
      comes_next (record {
        left = pick_both Small (is_odd c.lent.world.state.frame) h.left k.picture;
        right = pick_both Small (is_odd c.lent.world.state.frame) k.picture h.right;
        frame = f;
        place = p;
        text = t;
      })

  step_roomy : (c : Listing) → Roomy c → Comes Roomy Short (list_step file size ROOM c)
  unfolding lent_after
  step_roomy c h =
      let w : World = c.lent.world in
      let s : Small (shown_in w) = unfold shown_in in pick_both Small (is_odd w.state.frame) h.left h.right in
      let i : Small (hidden_in w) = unfold hidden_in in pick_both Small (is_odd w.state.frame) h.right h.left in
      let k : Each (All (Steps (length file) w)) (look_ahead file w size) =
      unfold look_ahead in each_bind (ready_passed (length file) w.state (length w.a) (length w.b) (length w.map) size) λ _ p. look_holds file w bytes p s i in
      on_case (λ (o : After). Comes Roomy Short (told c o)) w ROOM file size
      (λ n e. comes_done (last_short c h (refused_line n) (refused_line_short n (table_number (listed (on_table file w size)) e))))
      (λ e. comes_done (last_short c h (end_line w.state.frame) (end_line_short w.state.frame (omega (arith, h.frame)))))
      (λ x e. stepped c h x (each_some e k)) (λ x e q. comes_done (last_short c h (refused_line 51) (refused_line_short 51 refl)))

  frames_short : (c : Listing) → Roomy c → Short (list_frames file size ROOM c)
  unfolding list_frames
  frames_short c h = iterate_holds (list_step file size ROOM) (λ d. length file - d.lent.world.state.next) c Roomy Short (omega (arith, h.text, h.place)) step_roomy c h

-- what opening gives
record Begins (file : List ℕ) (n : ℕ) (F : Film) : Type 0 where
  sound : Sound F.sizes n
  first : length F.first ≡ n
  start : F.start ≤ length file

opening_begins : (file : List ℕ) (n : ℕ) → Each (Begins file n) (opening file n n MAP)
unfolding opening
opening_begins file n =
    each_bind (places_lie file) λ p l. each_bind (first_long (chunks_of file p.form) p.body n n MAP) λ f g.
    let s : p.form.next ≤ length file = omega (arith, l.stops, l.ends) in
    each (record { sound = each_is g.sizes (sizes_sound f.sizes); first = g.picture; start = s })

-- the text of any file of bytes
module _ (file : List ℕ) (bytes : Bytes file) where
  opened_short : length file ≤ 65_536 → (n : ℕ) → n ≤ 16_384 → (q : Res Film) → Numbered is_number q → Each (Begins file n) q → (l : Buffers) → Short (list_opened file n ROOM l q)
  unfolding list_opened
  opened_short h n k (ok F) l (each g) m =
      let w : Small F.first = omega (arith, g.first) in
      let p : F.start ≤ 65_536 = omega (arith, g.start) in
      let t : 100 * length (picture_line F.sizes) ≤ 68 * F.start + 100 * 68 = omega (arith, picture_line_short F.sizes n g.sound) in
      frames_short file bytes h n _ (record { left = w; right = w; frame = omega arith; place = p; text = t })
  opened_short h n k (fault m) (table_refusal l) g b = omega (arith, refused_line_short m l)

  pub sized_short : length file ≤ 65_536 → (q : Res ℕ) → Numbered is_number q → Short (list_planned file (record { a = []; b = []; map = []; work = []; rec = [] }) (plan_sized q))
  unfolding list_front
  sized_short h (ok n) l =
      pick_case (λ (p : Planned). Short (list_planned file (record { a = []; b = []; map = []; work = []; rec = [] }) p)) (leb n 16_384)
      (λ e. opened_short h n (leb-true n 16_384 e) (opening file n n MAP) (listed (opening_table file n n MAP)) (opening_begins file n) _) (λ e. omega arith)
  sized_short h (fault m) (table_refusal l) = omega (arith, refused_line_short m l)
