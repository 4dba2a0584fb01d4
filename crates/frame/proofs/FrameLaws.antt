-- Laws of later frames: their places rise, their columns are whole, their items are their method's, and their chunks are parts of FORM ANIM.
use Prim.Native.Nat.{ℕ, ◌+◌, ◌<◌, ◌≤◌}
use native.Mathlib.Omega.{arith}
use mathlib.Core.Bool.{Bool, true, false}
use mathlib.Core.List.{List}
use mathlib.Core.Option.{Option, none, some}
use mathlib.Core.Path.{◌≡◌, refl, sym, ap, ◌∙◌}
use lib.ListN.{take, drop, length-take, length}
use lib.Seq.{drop-drop}
use Rattle.laws.specs.Result.{Res, Res.ok, Res.fault, ◌>>=◌, need, or_refuse}
use Rattle.laws.proofs.ResultLaws.{Each, Each.each, Each.no_value, All, All.all_some, All.all_none, all_value, each_any, each_bind, each_some}
use Rattle.laws.specs.Bytes.{be32, Bytes}
use Rattle.laws.proofs.BytesLaws.{bytes_take, bytes_drop}
use Rattle.laws.proofs.StoreLaws.{part_of_part, length_part}
use Rattle.iff.specs.Ids.{CMAP, ANHD, DLTA}
use Rattle.std.proofs.Common.{Some, None, Option as Maybe}
use Rattle.std.specs.Prelude.{unwrap_or}
use Rattle.iff.specs.declared.Part.{Part as FoundPart}
use Rattle.iff.specs.Chunk.{Part, find, bytes_of, found_in, contents, place_of}
use Rattle.iff.proofs.ChunkLaws.{Lies, find_lies}
use Rattle.form.specs.Form.{FormIlbm, chunks_of}
use Rattle.form.proofs.FormLaws.{Follows, form_follows}
use Rattle.anhd.specs.Anhd.{items_of, columns_ok, frame_header}
use Rattle.anhd.proofs.AnhdLaws.{Read, header_read}
use Rattle.anhd.specs.declared.FrameHeader.{FrameHeader}
use Rattle.colours.specs.Colours.{good_length, colours}
use Rattle.frame.specs.Frame.{Frame, frame_in, frame_or, frame_at, or_empty}

-- the contents of a chunk of a FORM are a part of FORM ANIM
part_in : (s : List ℕ) (x : FormIlbm) (d : Part) → Lies (chunks_of s x) d → take d.size (drop (x.start + d.start) s) ≡ bytes_of (chunks_of s x) d
part_in s x d l =
    rw (← drop-drop d.start x.start s)
    (sym (part_of_part d.start d.size x.size (drop x.start s) (omega (arith, l.ends, length-take x.size (drop x.start s)))))

-- a frame that follows a place
pub record Rises (s : List ℕ) (at : ℕ) (x : Frame) : Type 0 where
  pub rises : at < x.next
  pub ends : x.next ≤ length s

-- a frame and its FORM: the next place is the FORM's, the header is read from an ANHD, and the DLTA is a part of the FORM's chunks
record Framed (s : List ℕ) (B at : ℕ) (f : Frame) : Type 0 where
  form : FormIlbm
  follows : Follows s at form
  next : f.next ≡ form.next
  header : (anhd : List ℕ) × Read B anhd f.header
  dlta : (d : Part) × (f.dlta ≡ bytes_of (chunks_of s form) d)

in_framed : (s : List ℕ) (B at : ℕ) (x : FormIlbm) → Follows s at x → Each (Framed s B at) (frame_in s B x)
unfolding frame_in
in_framed s B at x k =
    let chunks = chunks_of s x in
    each_any (find chunks ANHD >>= or_refuse 31) λ h. each_any (find chunks DLTA >>= or_refuse 31) λ d.
    each_bind (header_read false B (bytes_of chunks h)) λ y e. each_any (colours (contents chunks CMAP)) λ c.
    each (record { form = x; follows = k; next = refl; header = (bytes_of chunks h, e); dlta = (d, refl) })

framed : (s : List ℕ) (B at : ℕ) (x : Frame) → frame_at s at B ≡ ok (some x) → Framed s B at x
unfolding frame_at
framed s B at x e = each_some e (each_bind (form_follows s at) go)
  where
    go : (o : Option FormIlbm) → All (Follows s at) o → Each (All (Framed s B at)) (frame_or s B o)
    go none h = each all_none
    go (some y) h = each_bind (in_framed s B at y (all_value h)) λ f k. each (all_some k)

pub frame_rises : (s : List ℕ) (B at : ℕ) (x : Frame) → frame_at s at B ≡ ok (some x) → Rises s at x
frame_rises s B at x e = let k = framed s B at x e in record { rises = rw k.next k.follows.rises; ends = rw k.next k.follows.ends }

-- in a file of bytes its DLTA is of bytes
pub frame_bytes_lem : (s : List ℕ) (B at : ℕ) (x : Frame) → Bytes s → frame_at s at B ≡ ok (some x) → Bytes x.dlta
frame_bytes_lem s B at x h e =
    let k = framed s B at x e in
    let f = k.form in
    let d = k.dlta.0 in
    rw k.dlta.1 (bytes_take d.size (drop d.start (chunks_of s f)) (bytes_drop d.start (chunks_of s f) (bytes_take f.size (drop f.start s) (bytes_drop f.start s h))))

-- it has whole columns, and its items are those of its method
pub frame_columns : (s : List ℕ) (B at : ℕ) (x : Frame) → frame_at s at B ≡ ok (some x) → columns_ok x.header.items B ≡ true
frame_columns s B at x e = (framed s B at x e).header.1.columns

pub frame_items : (s : List ℕ) (B at : ℕ) (x : Frame) → frame_at s at B ≡ ok (some x) → (bits : ℕ) × (x.header.items ≡ items_of x.header.method bits)
frame_items s B at x e = let r = (framed s B at x e).header in (be32 r.0 20, r.1.items)

-- the contents of a chunk are those of the part where they stand
empty_is : (s : List ℕ) (r : Res (Option Part)) → found_in s r ≡ bytes_of s (or_empty r)
empty_is s (ok (some p)) = refl
empty_is s (ok none) = refl
empty_is s (fault n) = refl

pub empty_lies : (id : ℕ) (s : List ℕ) {c : Part} → or_empty (find s id) ≡ c → Lies s c
empty_lies id s e = rw e at (go (find_lies id s))
  where
    go : {r : Res (Option Part)} → Each (All (Lies s)) r → Lies s (or_empty r)
    go (each (all_some l)) = l
    go (each all_none) = record { ends = omega arith }
    go no_value = record { ends = omega arith }

pub empty_of : (o : Maybe FoundPart) {r : Res (Option Part)} {p : FoundPart} → ok (place_of o) ≡ r → p ≡ unwrap_or o (record { start = 0; len = 0 }) → or_empty r ≡ record { start = p.start; size = p.len }
empty_of (Some q) e u = rw (← e, u) refl
empty_of None e u = rw (← e, u) refl

abbrev made : ℕ → FrameHeader → List ℕ → List ℕ → Frame
made next y dlta cmap = record { next = next; header = y; dlta = dlta; cmap = cmap }

-- the frame whose ANHD and DLTA were found, where r is its header or why there is none, and t says whether its CMAP's length is good
module _ (s : List ℕ) (B : ℕ) (x : FormIlbm) {h d c : Part} {r : Res FrameHeader} {t : Bool} (e : find (chunks_of s x) ANHD ≡ ok (some h)) (f : find (chunks_of s x) DLTA ≡ ok (some d))
    (g : or_empty (find (chunks_of s x) CMAP) ≡ c) (k : r ≡ frame_header false B (bytes_of (chunks_of s x) h)) (b : t ≡ good_length c.size) where
  pub in_with : (r >>= λ y. need t 37 >>= λ _. ok (made x.next y (bytes_of (chunks_of s x) d) (bytes_of (chunks_of s x) c))) ≡ frame_in s B x
  unfolding frame_in contents colours
  in_with =
      let chunks = chunks_of s x in
      let l = empty_lies CMAP chunks g in
      let m : found_in chunks (find chunks CMAP) ≡ bytes_of chunks c = empty_is chunks (find chunks CMAP) ∙ ap (bytes_of chunks) g in
      rw (e, f, m, ← k, length_part chunks c.start c.size l.ends, ← b)
      (go r t (bytes_of chunks c))
    where
      go : (r : Res FrameHeader) (t : Bool) (cmap : List ℕ) → (r >>= λ y. need t 37 >>= λ _. ok (made x.next y (bytes_of (chunks_of s x) d) cmap))
          ≡ (r >>= λ y. (need t 37 >>= λ _. ok cmap) >>= λ z. ok (made x.next y (bytes_of (chunks_of s x) d) z))
      go (ok y) true cmap = refl
      go (ok y) false cmap = refl
      go (fault n) t cmap = refl

  -- the same, said of the parts of FORM ANIM where the contents of DLTA and CMAP stand
  pub in_anim : (r >>= λ y. need t 37 >>= λ _. ok (made x.next y (take d.size (drop (x.start + d.start) s)) (take c.size (drop (x.start + c.start) s)))) ≡ frame_in s B x
  in_anim = rw (part_in s x d (each_some f (find_lies DLTA (chunks_of s x))), part_in s x c (empty_lies CMAP (chunks_of s x) g)) in_with
