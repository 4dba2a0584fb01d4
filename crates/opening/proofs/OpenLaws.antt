-- Laws of opening: the order of its refusals, and what is left in the buffers.
use Prim.Native.Nat.{ℕ, ◌+◌, ◌-◌, ◌<◌, ◌≤◌}
use native.Mathlib.Nat.{add-sub_cancel_left}
use native.Mathlib.Omega.{arith}
use mathlib.Core.Bool.{Bool, true, false}
use mathlib.Core.List.{List}
use mathlib.Core.Option.{Option, none, some}
use mathlib.Core.Path.{◌≡◌, refl, sym, ◌∙◌}
use lib.Dec.{leb, eqb}
use lib.ListN.{length, take, drop, replicate, length-replicate}
use lib.Seq.{length-take-le}
use borrow.Author.Tests.{eq-eqb, ne_eqb, le-leb, lt-leb, leb-true, eqb-true}
use Rattle.laws.specs.Result.{Res, Res.ok, Res.fault, ◌>>=◌, need, or_refuse, pick, answer, or_keep}
use Rattle.laws.proofs.ResultLaws.{Each, Each.each, Each.no_value, All, answer_refused, answered, each_any, each_self, each_map, each_need, each_bind, each_is, each_some, all_value, never}
use Rattle.refusal.specs.Number.{number_of}
use Rattle.refusal.specs.declared.Refusal.{Refusal}
use Rattle.colours.specs.Colours.{MAP, unset, colours}
use Rattle.colours.proofs.ColourLaws.{coloured_length}
use Rattle.state.specs.declared.State.{State}
use Rattle.state.specs.State.{row_bytes, frame_bytes, frame_length, opened, zeros}
use Rattle.state.specs.World.{World}
use Rattle.state.proofs.StateLaws.{sizes_sound}
use Rattle.state.specs.Film.{Film}
use Rattle.iff.specs.Ids.{BMHD, BODY, CMAP, ANHD, DLTA}
use Rattle.iff.specs.Chunk.{has, contents}
use Rattle.form.specs.Form.{FormIlbm, chunks_of, anim_end, next_form, form_of}
use Rattle.form.proofs.FormLaws.{Closes, Follows, anim_closes, form_follows}
use Rattle.bmhd.specs.declared.Header.{Header}
use Rattle.bmhd.specs.Header.{bitmap_header}
use Rattle.bmhd.proofs.HeaderLaws.{header_sizes}
use Rattle.body.specs.Body.{unpack}
use Rattle.anhd.specs.declared.FrameHeader.{FrameHeader}
use Rattle.anhd.specs.Anhd.{frame_header}
use Rattle.anhd.proofs.AnhdLaws.{header_read}
use Rattle.body.proofs.BodyLaws.{body_length, picture_body}
use Rattle.delta.specs.Reading.{shape_of}
use Rattle.delta.specs.Delta.{read_delta, new_frame, Applies}
use Rattle.delta.proofs.DeltaLaws.{draw_length}
use Rattle.delta.proofs.ApplyLaws.{frame_delta, new_refused, new_drawn}
use Rattle.state.specs.declared.Sizes.{Sizes}
use Rattle.std.specs.Prelude.{Ok, Err, Some, None, ok_or}
use Rattle.std.specs.Prelude as Lib
use Rattle.form.specs.declared.Ilbm.{Ilbm}
use Rattle.opening.specs.declared.OpenedFile.{OpenedFile}
use Rattle.opening.specs.Open.{Places, body_in, places_in, first_places, first_header, frame_size, first_delta, first_body, first_picture, first_map, First, first_of, opening, Opens}
use Rattle.opening.specs.Parts.{OpensFirst, Fills}

-- the walk through FORM ANIM
module _ (s : List ℕ) where
  pub anim_broken : {n : ℕ} → next_form s 12 ≡ fault n → places_in s ≡ fault n
  unfolding places_in
  anim_broken e = rw e

  pub anim_empty : next_form s 12 ≡ ok none → places_in s ≡ fault 23
  unfolding places_in
  anim_empty e = rw e

  module _ (start size nx : ℕ) (e : next_form s 12 ≡ ok (some (record { start = start; size = size; next = nx }))) where
    pub form_broken : {n : ℕ} → body_in (take (start + size - start) (drop start s)) ≡ fault n → places_in s ≡ fault n
    unfolding places_in
    form_broken h = rw e (rw (rw (add-sub_cancel_left start size) at h))

    pub form_given : {t : Bool} → body_in (take (start + size - start) (drop start s)) ≡ ok t
        → places_in s ≡ ok (record { end = length s; form = record { start = start; size = size; next = nx }; body = t })
    unfolding places_in
    form_given h = rw e (rw (rw (add-sub_cancel_left start size) at h))

-- a FORM that was found lies within FORM ANIM
pub form_inside : (s : List ℕ) (from : ℕ) (o : Lib.Option Ilbm) {form : Ilbm} (why : Refusal) → form_of (Ok o) ≡ next_form s from → Ok form ≡ ok_or o why → form.start + form.len ≤ length s
form_inside s from (Some x) {form} why e k =
    let h : x ≡ form = cc in
    let f : Follows s from (record { start = x.start; size = x.len; next = x.next }) = each_some (sym e) (form_follows s from) in
    let i : x.start + x.len ≤ length s = omega (arith, f.holds, f.ends) in
    rw h at i
form_inside s from None why e k = never (cc)

-- the walk through the file
module _ (file : List ℕ) where
  pub too_long : 2_147_483_647 < length file → first_places file ≡ fault 13
  unfolding first_places
  too_long h = simp (lt-leb (length file) 2_147_483_647 h)

  module _ (h : length file ≤ 2_147_483_647) where
    pub no_anim : {n : ℕ} → anim_end file ≡ fault n → first_places file ≡ fault n
    unfolding first_places
    no_anim e = simp (le-leb (length file) 2_147_483_647 h, e)

    pub anim_is : (end : ℕ) → anim_end file ≡ ok end → places_in (take end file) ≡ first_places file
    unfolding first_places
    anim_is end e = simp (le-leb (length file) 2_147_483_647 h, e)

-- where the first picture lies in the file
pub record Lies (file : List ℕ) (p : Places) : Type 0 where
  pub short : length file ≤ 2_147_483_647
  pub ends : p.end ≤ length file
  pub starts : 12 ≤ p.form.next
  pub stops : p.form.next ≤ p.end
  pub chunks : p.form.start + p.form.size ≤ p.form.next

pub places_lie : (file : List ℕ) → Each (Lies file) (first_places file)
unfolding first_places places_in
places_lie file =
    each_need (leb (length file) 2_147_483_647) 13 _ λ l.
    each_bind (anim_closes file) λ end c.
    let n : length (take end file) ≡ end = length-take-le end file c.most in
    each_bind (form_follows (take end file) 12) (form end c (leb-true (length file) 2_147_483_647 l) n)
  where
    form : (end : ℕ) (c : Closes file end) (l : length file ≤ 2_147_483_647) (n : length (take end file) ≡ end) (o : Option FormIlbm) → All (Follows (take end file) 12) o
        → Each (Lies file) (or_refuse 23 o >>= λ x. body_in (chunks_of (take end file) x) >>= λ t. ok (record { end = length (take end file); form = x; body = t }))
    form end c l n none b = no_value
    form end c l n (some x) b =
        let k = all_value b in
        each_any (body_in (chunks_of (take end file) x)) λ t.
        each (record { short = l; ends = omega (arith, c.most); starts = omega (arith, k.rises); stops = k.ends; chunks = k.holds })

-- the chunks of the first picture are a part of the file
pub chunks_inside : (file : List ℕ) {p : Places} → first_places file ≡ ok p → p.form.start + p.form.size ≤ length file
chunks_inside file e = let k : Lies file _ = each_is e (places_lie file) in omega (arith, k.chunks, k.stops, k.ends)

-- the length of the frame
module _ (file : List ℕ) where
  pub size_nowhere : {n : ℕ} → first_places file ≡ fault n → frame_size file ≡ fault n
  unfolding frame_size
  size_nowhere e = rw e

  pub size_header : {p : Places} {s : List ℕ} {q : Res Header} → first_places file ≡ ok p → s ≡ chunks_of file p.form → first_header s p.body ≡ q → frame_size file ≡ (q >>= λ z. ok z.length)
  unfolding frame_size
  size_header e i k = rw e (rw (rw i at k))

-- a refused opening
opens_refused : {q : Res Film} {why : Refusal} {r : OpenedFile} {a b map : List ℕ} → q ≡ fault (number_of why) → r ≡ record { answer = Err why; state = zeros }
    → Opens q a b map r (record { a = a; b = b; map = map; state = r.state })
opens_refused e h = rw (e, h) (record { answer = refl; left = refl })

pub first_refused : {end start : ℕ} {q : Res First} {why : Refusal} {r : OpenedFile} {a b map a' : List ℕ} → q ≡ fault (number_of why) → r ≡ record { answer = Err why; state = zeros } → a' ≡ a
    → OpensFirst q start end a b map r (record { a = a'; b = b; map = map; state = r.state })
first_refused e h l = rw l (record { opens = λ file. opens_refused (rw e) h })

-- an opening that is taken
pub first_opened : {end start : ℕ} {q : Res First} {p : First} {s : State} {a b map a' b' map' : List ℕ} → q ≡ ok p → s ≡ opened p.sizes start end
    → a' ≡ p.picture → b' ≡ p.picture → map' ≡ p.map → OpensFirst q start end a b map (record { answer = Ok tt; state = s }) (record { a = a'; b = b'; map = map'; state = s })
first_opened e h l m n = rw (e, h, l, m, n) (record { opens = λ file. record { answer = refl; left = refl } })

-- a file that is opened
module _ (file a b map : List ℕ) where
  pub opens_nowhere : {why : Refusal} {r : OpenedFile} → first_places file ≡ fault (number_of why) → r ≡ record { answer = Err why; state = zeros }
      → Opens (opening file (length a) (length b) (length map)) a b map r (record { a = a; b = b; map = map; state = r.state })
  unfolding opening
  opens_nowhere e h = opens_refused (rw e) h

  pub opens_at : {p : Places} (s : List ℕ) {r : OpenedFile} {w : World} → first_places file ≡ ok p → s ≡ chunks_of file p.form
      → OpensFirst (first_of s p.body (length a) (length b) (length map)) p.form.next p.end a b map r w → Opens (opening file (length a) (length b) (length map)) a b map r w
  unfolding opening
  opens_at s e i o = rw e (rw i at (o.opens file))

-- a first picture's header is what its BMHD says, and so is of a frame within the limits
pub header_same : (s : List ℕ) (t : Bool) → Each (λ (z : Header). bitmap_header (contents s BMHD) ≡ ok z) (first_header s t)
unfolding first_header
header_same s t = each_any (pick t (ok true) (has s ANHD)) λ h. each_any (need h 31) λ _. each_self (bitmap_header (contents s BMHD))

first_sizes : (s : List ℕ) (t : Bool) → Each (λ (z : Header). frame_length z.sizes ≡ ok z.length) (first_header s t)
first_sizes s t = each_map (λ z e. each_is e (header_sizes (contents s BMHD))) (header_same s t)

pub first_fits : (s : List ℕ) (t : Bool) {z : Header} {a : ℕ} → first_header s t ≡ ok z → a ≡ z.length → frame_length z.sizes ≡ ok a
first_fits s t e l = rw l (each_is e (first_sizes s t))

-- the chunks of a first frame
module _ (s : List ℕ) (t : Bool) (a b map : ℕ) where
  pub first_unread : {n : ℕ} → first_header s t ≡ fault n → first_of s t a b map ≡ fault n
  unfolding first_of
  first_unread e = rw e

  module _ {z : Header} (e : first_header s t ≡ ok z) where
    pub first_left : (a ≡ z.length → ⊥) → first_of s t a b map ≡ fault 12
    unfolding first_of
    first_left l = simp (e, ne_eqb a z.length l)

    module _ (l : a ≡ z.length) where
      pub first_right : (b ≡ z.length → ⊥) → first_of s t a b map ≡ fault 12
      unfolding first_of
      first_right m = simp (e, eq-eqb a z.length l, ne_eqb b z.length m)

      module _ (m : b ≡ z.length) where
        pub first_unmapped : (map ≡ MAP → ⊥) → first_of s t a b map ≡ fault 12
        unfolding first_of
        first_unmapped n = simp (e, eq-eqb a z.length l, eq-eqb b z.length m, ne_eqb map MAP n)

        module _ (o : map ≡ MAP) where
          pub first_is : first_of s t a b map ≡ (first_picture s t z >>= λ p. ok (record { sizes = z.sizes; picture = p; map = first_map s }))
          unfolding first_of
          first_is = simp (e, eq-eqb a z.length l, eq-eqb b z.length m, eq-eqb map MAP o)

          pub first_bad : {n : ℕ} → answer (first_picture s t z) ≡ fault n → first_of s t a b map ≡ fault n
          first_bad k = rw (first_is, answer_refused (first_picture s t z) k)

          pub first_taken : (x y : List ℕ) → answer (first_picture s t z) ≡ ok tt → x ≡ or_keep y (first_picture s t z)
              → first_of s t a b map ≡ ok (record { sizes = z.sizes; picture = x; map = first_map s })
          first_taken x y k h = let w = answered (first_picture s t z) (sym k) in rw (first_is, h, w.1)

-- what filling A comes to
pub fills_kept : {q : Res (List ℕ)} {a a' : List ℕ} {n : ℕ} → Fills q a (fault n) a' → a' ≡ a
fills_kept {q} d = rw (answer_refused q (sym d.answer)) at d.left

fills_refused : {q : Res (List ℕ)} {a a' : List ℕ} {n : ℕ} → q ≡ fault n → a' ≡ a → Fills q a (fault n) a'
fills_refused e l = rw (e, l) (record { answer = refl; left = refl })

fills_done : {q : Res (List ℕ)} {a a' : List ℕ} → q ≡ ok a' → Fills q a (ok tt) a'
fills_done e = rw e (record { answer = refl; left = refl })

-- a BODY that is unpacked
module _ (packed : Bool) (z : Sizes) (c d a : List ℕ) where
  pub body_uncoloured : {n : ℕ} → fault n ≡ answer (colours c) → Fills (first_body c d z packed) a (fault n) a
  unfolding first_body
  body_uncoloured g = fills_refused (rw (answer_refused (colours c) (sym g))) refl

  module _ (e : frame_length z ≡ ok (length a)) (g : ok tt ≡ answer (colours c)) where
    body_is : first_body c d z packed ≡ unpack (length a) d z packed
    unfolding first_body
    body_is = rw (answered (colours c) g).1 (sym (picture_body packed z d (length a) e refl))

    pub body_unpacked : {r : Res (Unit {0})} {p : List ℕ} → r ≡ answer (unpack (length a) d z packed) → p ≡ or_keep a (unpack (length a) d z packed) → Fills (first_body c d z packed) a r p
    body_unpacked q l = rw body_is (record { answer = q; left = l })

-- a delta that is drawn into zeros
module _ (h c d : List ℕ) (z : Sizes) (a : List ℕ) where
  pub delta_unread : {n : ℕ} → frame_header true (row_bytes z.width) h ≡ fault n → Fills (first_delta h c d z) a (fault n) a
  unfolding first_delta
  delta_unread q = fills_refused (rw q) refl

  module _ {x : FrameHeader} (q : frame_header true (row_bytes z.width) h ≡ ok x) where
    pub delta_uncoloured : {n : ℕ} → fault n ≡ answer (colours c) → Fills (first_delta h c d z) a (fault n) a
    unfolding first_delta
    delta_uncoloured g = fills_refused (rw (q, answer_refused (colours c) (sym g))) refl

    module _ (e : frame_length z ≡ ok (length a)) (g : ok tt ≡ answer (colours c)) where
      delta_is : first_delta h c d z ≡ new_frame (length a) (replicate (length a) 0) d z x.items
      unfolding first_delta new_frame
      delta_is =
          let n : length a ≡ frame_bytes z = (each_is e (sizes_sound z)).length in
          let k = frame_delta z x.items d (length (replicate {A = ℕ} (length a) 0)) (length a) e (length-replicate {A = ℕ} (length a) 0) refl (each_is q (header_read true (row_bytes z.width) h)).columns in
          rw q (rw (answered (colours c) g).1 (rw (k, n) refl))

      pub delta_bad : {n : ℕ} {p : List ℕ} → Applies a (replicate (length a) 0) d z x.items (fault n) p → Fills (first_delta h c d z) a (fault n) p
      delta_bad w = let k = new_refused w in fills_refused (delta_is ∙ k) (rw k at w.leaves)

      pub delta_done : {n : ℕ} {p : List ℕ} → Applies a (replicate (length a) 0) d z x.items (ok n) p → Fills (first_delta h c d z) a (ok tt) p
      delta_done w = fills_done (delta_is ∙ new_drawn w)

-- a first picture of n bytes, the length of a frame of its sizes, with a map as long as all are
pub record FrameLong (n : ℕ) (f : First) : Type 0 where
  pub sizes : frame_length f.sizes ≡ ok n
  pub picture : length f.picture ≡ n
  pub map : length f.map ≡ MAP

picture_length : (s : List ℕ) (t : Bool) (z : Header) → Each (λ (p : List ℕ). length p ≡ frame_bytes z.sizes) (first_picture s t z)
unfolding first_picture first_body first_delta
picture_length s true z = each_any (colours (contents s CMAP)) λ _. body_length z.packed z.sizes (contents s BODY)
picture_length s false z =
    each_any (frame_header true (row_bytes z.sizes.width) (contents s ANHD)) λ h. each_any (colours (contents s CMAP)) λ _.
    each_any (read_delta (shape_of z.sizes h.items) (contents s DLTA)) λ ops.
    each (draw_length (shape_of z.sizes h.items) (contents s DLTA) ops (replicate (frame_bytes z.sizes) 0) ∙ length-replicate {A = ℕ} (frame_bytes z.sizes) 0)

map_length : (s : List ℕ) → length (first_map s) ≡ MAP
unfolding first_map
map_length s = coloured_length unset (contents s CMAP) ∙ length-replicate {A = ℕ} MAP 0

pub first_long : (s : List ℕ) (t : Bool) (a b map : ℕ) → Each (FrameLong a) (first_of s t a b map)
unfolding first_of
first_long s t a b map =
    each_bind (first_sizes s t) λ z e.
    each_need (eqb a z.length) 12 _ λ l. each_need (eqb b z.length) 12 _ λ _. each_need (eqb map MAP) 12 _ λ _.
    each_bind (picture_length s t z) λ p n.
    let i : a ≡ z.length = eqb-true a z.length l in
    each (record { sizes = rw i e; picture = n ∙ sym (each_is e (sizes_sound z.sizes)).length ∙ sym i; map = map_length s })
