-- What an opening that wasn't refused fixes: the model reads the same of the file; sizes within the limits, a picture of a frame's length,
-- a map of its length, and places within the file.
use Prim.Native.Nat.{ℕ, ◌≤◌}
use native.Mathlib.Omega.{arith}
use mathlib.Core.Bool.{Bool, true, false}
use mathlib.Core.List.{List}
use mathlib.Core.Option.{Option, none, some}
use mathlib.Core.Path.{◌≡◌, refl, ◌∙◌}
use lib.Dec.{leb, eqb}
use lib.ListN.{length, take}
use lib.Seq.{length-take-le}
use Rattle.laws.specs.Result.{Res, Res.ok, ◌>>=◌, need, or_refuse, pick}
use Rattle.laws.proofs.ResultLaws.{Each, Each.each, Each.no_value, each_self, each_any, each_map, each_bind, each_need, each_is}
use Rattle.laws.proofs.StoreLaws.{part_of_part}
use Rattle.iff.specs.Ids.{BMHD, BODY, CMAP, ANHD, DLTA}
use Rattle.iff.specs.Chunk.{has, contents}
use Rattle.form.specs.Form.{FormIlbm, chunks_of, anim_end, next_form}
use Rattle.form.proofs.FormLaws.{anim_closes}
use Rattle.bmhd.specs.declared.Header.{Header}
use Rattle.bmhd.specs.Header.{bitmap_header}
use Rattle.body.specs.Body.{body}
use Rattle.anhd.specs.Anhd.{frame_header}
use Rattle.delta.specs.Reading.{shape_of}
use Rattle.delta.specs.Delta.{read_delta}
use Rattle.colours.specs.Colours.{MAP, colours}
use Rattle.state.specs.State.{row_bytes, frame_bytes, frame_length, Sound}
use Rattle.state.proofs.StateLaws.{sizes_sound}
use Rattle.opening.specs.Open.{Places, body_in, places_in, first_places, first_delta, first_body, first_picture, first_map, First, first_of, film_of, opening}
use Rattle.opening.proofs.OpenLaws.{places_lie, header_same, first_long}
use Rattle.state.specs.Film.{Film}
use Rattle.model.specs.Model.{on_zeros, picture_one, map_one, film}

-- what opening gives
pub record Opened (F : Film) : Type 0 where
  pub sizes : frame_length F.sizes ≡ ok (frame_bytes F.sizes)
  pub sound : Sound F.sizes (frame_bytes F.sizes)
  pub whole : length F.first ≡ frame_bytes F.sizes
  pub map_long : length F.map ≡ MAP
  pub from : 12 ≤ F.start
  pub inside : F.start ≤ F.end
  pub short : F.end ≤ 2_147_483_647
  pub in_file : F.end ≤ length F.file

abbrev pub size : Film → ℕ
size F = frame_bytes F.sizes

-- what opening fixes, and the model reads
pub record OpenedAs (file : List ℕ) (F : Film) : Type 0 where
  pub same : F.file ≡ file
  pub read : film file ≡ ok F
  pub opened : Opened F

-- whether there is a BODY
body_has : (s : List ℕ) → Each (λ (t : Bool). has s BODY ≡ ok t) (body_in s)
unfolding body_in
body_has s = each_any (has s BMHD) λ h. each_any (need h 23) λ _. each_bind (each_self (has s BODY)) go
  where
    go : (t : Bool) → has s BODY ≡ ok t → Each (λ (t : Bool). has s BODY ≡ ok t) (pick t (ok true) (has s DLTA >>= λ d. need d 23 >>= λ _. ok false))
    go true e = each e
    go false e = each_any (has s DLTA) λ d. each_any (need d 23) λ _. each e

-- where the first picture was found
record Found (file : List ℕ) (p : Places) : Type 0 where
  ends : anim_end file ≡ ok p.end
  form : next_form (take p.end file) 12 ≡ ok (some p.form)
  body : has (chunks_of (take p.end file) p.form) BODY ≡ ok p.body

places_found : (file : List ℕ) → Each (Found file) (first_places file)
unfolding first_places places_in
places_found file = each_need (leb (length file) 2_147_483_647) 13 _ λ _. each_bind (each_self (anim_end file)) λ end e. each_bind (each_self (next_form (take end file) 12)) (form end e (length-take-le end file (each_is e (anim_closes file)).most))
  where
    form : (end : ℕ) → anim_end file ≡ ok end → length (take end file) ≡ end → (o : Option FormIlbm) → next_form (take end file) 12 ≡ ok o
        → Each (Found file) (or_refuse 23 o >>= λ x. body_in (chunks_of (take end file) x) >>= λ t. ok (record { end = length (take end file); form = x; body = t }))
    form end e n none h = no_value
    form end e n (some x) h =
        each_bind (body_has (chunks_of (take end file) x)) λ t k.
        let c : Found file (record { end = length (take end file); form = x; body = t }) = rw n (record { ends = e; form = h; body = k }) in
        each c

-- the model's first picture is opening's
picture_same : (s : List ℕ) (z : Header) (t : Bool) → has s BODY ≡ ok t → Each (λ (p : List ℕ). picture_one s z ≡ ok p) (first_picture s t z)
unfolding picture_one on_zeros first_picture first_body first_delta
picture_same s z true e = each_any (colours (contents s CMAP)) λ _. each_map (λ p h. rw e h) (each_self (body (contents s BODY) z.sizes z.packed))
picture_same s z false e =
    each_bind (each_self (frame_header true (row_bytes z.sizes.width) (contents s ANHD))) λ x h.
    each_any (colours (contents s CMAP)) λ _.
    each_bind (each_self (read_delta (shape_of z.sizes x.items) (contents s DLTA))) λ ops r.
    each (rw e (rw h (rw r refl)))

-- what the model reads of a first frame's chunks
abbrev film_in : List ℕ → List ℕ → ℕ → ℕ → Res Film
film_in file s end start =
    bitmap_header (contents s BMHD) >>= λ z.
    picture_one s z >>= λ p.
    ok (record { file = file; end = end; sizes = z.sizes; start = start; first = p; map = map_one s })

film_in_lem : (file s : List ℕ) (t : Bool) (end start a b map : ℕ) → has s BODY ≡ ok t → Each (λ (f : First). film_in file s end start ≡ ok (film_of file end start f)) (first_of s t a b map)
unfolding first_of first_map
film_in_lem file s t end start a b map k =
    each_bind (header_same s t) λ z e.
    each_need (eqb a z.length) 12 _ λ _. each_need (eqb b z.length) 12 _ λ _. each_need (eqb map MAP) 12 _ λ _.
    each_bind (picture_same s z t k) λ p h.
    each (rw e (rw h refl))

-- the model reads the film that was opened
film_read : (file : List ℕ) (a b map : ℕ) {p : Places} {f : First} → first_places file ≡ ok p → first_of (chunks_of file p.form) p.body a b map ≡ ok f
    → film file ≡ ok (film_of file p.end p.form.next f)
unfolding film
film_read file a b map {p} {f} e d =
    let l = each_is e (places_lie file) in
    let k = each_is e (places_found file) in
    let i : chunks_of (take p.end file) p.form ≡ chunks_of file p.form = part_of_part p.form.start p.form.size p.end file (omega (arith, l.chunks, l.stops)) in
    rw k.ends (rw k.form (rw i (each_is d (film_in_lem file (chunks_of file p.form) p.body p.end p.form.next a b map (rw i at k.body)))))

pub opening_opened : (file : List ℕ) (a b map : ℕ) → Each (OpenedAs file) (opening file a b map)
unfolding opening
opening_opened file a b map =
    each_bind (each_self (first_places file)) λ p e.
    each_bind (each_self (first_of (chunks_of file p.form) p.body a b map)) λ f d.
    let l = each_is e (places_lie file) in
    let g = each_is d (first_long (chunks_of file p.form) p.body a b map) in
    let k : Sound f.sizes a = each_is g.sizes (sizes_sound f.sizes) in
    let n : a ≡ frame_bytes f.sizes = k.length in
    let m : p.end ≤ 2_147_483_647 = omega (arith, l.ends, l.short) in
    each (record { same = refl; read = film_read file a b map e d; opened = record { sizes = rw n at g.sizes; sound = rw n at k; whole = g.picture ∙ n; map_long = g.map; from = l.starts; inside = l.stops; short = m; in_file = l.ends } })
