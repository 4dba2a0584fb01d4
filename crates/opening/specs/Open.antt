-- Opening (document 01, "Opening, stepping on, stepping back" and "Refusal numbers", and document 02, E1 and E6): 13, 21 for under 12 bytes,
-- 22, 21 for the outer length, 21 or 23 as chunks are walked, a frame walked whole before 23; 31 with neither a BODY nor an ANHD; 24 and 12;
-- then 37 and 25 for a BODY, or 32, 33, 35, 36, 37 and the delta's refusals. Without a BODY the first picture is what its delta makes of an
-- all-zero one. The map is cleared, and gets the colours of the first picture's CMAP.
use Rattle.std.specs.Prelude.{ℕ, Bool, true, false, List, ◌≡◌, leb, eqb, length, take, replicate, Result, Ok, Err}
use Rattle.laws.specs.Result.{Res, Res.ok, Res.fault, ◌>>=◌, need, or_refuse, pick, answer}
use Rattle.refusal.specs.Number.{result_of}
use Rattle.state.specs.State.{row_bytes, frame_bytes, opened, zeros}
use Rattle.state.specs.World.{World}
use Rattle.state.specs.Film.{Film}
use Rattle.state.specs.declared.Sizes.{Sizes}
use Rattle.iff.specs.Ids.{BMHD, BODY, CMAP, ANHD, DLTA}
use Rattle.iff.specs.Chunk.{has, contents}
use Rattle.form.specs.Form.{FormIlbm, chunks_of, anim_end, next_form}
use Rattle.bmhd.specs.Header.{bitmap_header}
use Rattle.bmhd.specs.declared.Header.{Header}
use Rattle.body.specs.Body.{body}
use Rattle.anhd.specs.Anhd.{frame_header}
use Rattle.delta.specs.Reading.{shape_of}
use Rattle.delta.specs.Delta.{read_delta, draw}
use Rattle.colours.specs.Colours.{MAP, unset, colours, coloured}
use Rattle.opening.specs.declared.OpenedFile.{OpenedFile}
use Rattle.refusal.specs.declared.Refusal.{Refusal}
use Rattle.state.specs.declared.State.{State}

-- where the first picture stands: the end place of FORM ANIM, the first FORM ILBM in it, and whether that has a BODY
pub record Places : Type 0 where
  pub end : ℕ
  pub form : FormIlbm
  pub body : Bool

-- whether the first frame's chunks have a BODY: 23 without a BMHD, and with neither a BODY nor a DLTA
unfoldable pub body_in : List ℕ → Res Bool
body_in s =
    has s BMHD >>= λ h.
    need h 23 >>= λ _.
    has s BODY >>= λ b.
    pick b (ok true)
    (has s DLTA >>= λ d.
    need d 23 >>= λ _.
    ok false)

-- 21 or 23 as the chunks of FORM ANIM are walked
unfoldable pub places_in : List ℕ → Res Places
places_in s =
    next_form s 12 >>= λ o.
    or_refuse 23 o >>= λ x.
    body_in (chunks_of s x) >>= λ b.
    ok (record { end = length s; form = x; body = b })

-- before them 13, 21 for under 12 bytes, 22, 21 for the outer length
unfoldable pub first_places : List ℕ → Res Places
first_places file =
    need (leb (length file) 2_147_483_647) 13 >>= λ _.
    anim_end file >>= λ end.
    places_in (take end file)

-- what the first picture's BMHD says, where t tells whether there is a BODY: 31 with neither a BODY nor an ANHD, then 24
unfoldable pub first_header : List ℕ → Bool → Res Header
first_header s t =
    pick t (ok true) (has s ANHD) >>= λ h.
    need h 31 >>= λ _.
    bitmap_header (contents s BMHD)

-- the length of the first picture's frame, or what refuses it up to and including 24
unfoldable pub frame_size : List ℕ → Res ℕ
frame_size file = first_places file >>= λ p. first_header (chunks_of file p.form) p.body >>= λ z. ok z.length

-- what an ANHD and a DLTA make of an all-zero picture, with a CMAP beside them: 32, 33, 35, 36, then 37, then the delta's refusals
unfoldable pub first_delta : List ℕ → List ℕ → List ℕ → Sizes → Res (List ℕ)
first_delta h c d z =
    frame_header true (row_bytes z.width) h >>= λ x.
    colours c >>= λ _.
    read_delta (shape_of z x.items) d >>= λ ops.
    ok (draw (shape_of z x.items) d ops (replicate (frame_bytes z) 0))

-- the picture in a BODY, with a CMAP beside it: 37, then 25
unfoldable pub first_body : List ℕ → List ℕ → Sizes → Bool → Res (List ℕ)
first_body c d z packed = colours c >>= λ _. body d z packed

-- the bytes of the first picture, by whether there is a BODY: that, or else what the delta makes
unfoldable pub first_picture : List ℕ → Bool → Header → Res (List ℕ)
first_picture s true z = first_body (contents s CMAP) (contents s BODY) z.sizes z.packed
first_picture s false z = first_delta (contents s ANHD) (contents s CMAP) (contents s DLTA) z.sizes

-- the map at frame 1, by its chunks
unfoldable pub first_map : List ℕ → List ℕ
first_map s = coloured unset (contents s CMAP)

-- the first picture: its sizes, its bytes and its map
pub record First : Type 0 where
  pub sizes : Sizes
  pub picture : List ℕ
  pub map : List ℕ

-- the first picture in a frame's chunks, where t tells whether there is a BODY, with buffers A and B and a map of so many bytes
unfoldable pub first_of : List ℕ → Bool → ℕ → ℕ → ℕ → Res First
first_of s t a b map =
    first_header s t >>= λ z.
    need (eqb a z.length) 12 >>= λ _.
    need (eqb b z.length) 12 >>= λ _.
    need (eqb map MAP) 12 >>= λ _.
    first_picture s t z >>= λ p.
    ok (record { sizes = z.sizes; picture = p; map = first_map s })

-- what is fixed with it: the file, its end place and the place after frame 1
abbrev pub film_of : List ℕ → ℕ → ℕ → First → Film
film_of file end start p = record { file = file; end = end; sizes = p.sizes; start = start; first = p.picture; map = p.map }

-- opening a file, with buffers A and B and a map of so many bytes
unfoldable pub opening : List ℕ → ℕ → ℕ → ℕ → Res Film
opening file a b map =
    first_places file >>= λ p.
    first_of (chunks_of file p.form) p.body a b map >>= λ f.
    ok (film_of file p.end p.form.next f)

-- A, B, the map and the state after it: both buffers hold frame 1 and the map its colours, or all three stay and the state is six zeros
abbrev pub world_opened : (a b map : List ℕ) → Res Film → World
world_opened a b map (ok F) = record { a = F.first; b = F.first; map = F.map; state = opened F.sizes F.start F.end }
world_opened a b map (fault n) = record { a = a; b = b; map = map; state = zeros }

-- the answer and the state after an opening that comes to a state: six zeros where it is refused
abbrev pub opened_file : Result State Refusal → OpenedFile
opened_file (Ok s) = record { answer = Ok tt; state = s }
opened_file (Err why) = record { answer = Err why; state = zeros }

-- what an opening answers and leaves, where it comes to q
pub record Opens (q : Res Film) (a b map : List ℕ) (r : OpenedFile) (w : World) : Type 0 where
  pub answer : result_of r.answer ≡ answer q
  pub left : w ≡ world_opened a b map q

-- the contract of opening
abbrev pub MeetsOpen : (file a b map : List ℕ) (r : OpenedFile) (w : World) → Type 0
MeetsOpen file a b map r w = Opens (opening file (length a) (length b) (length map)) a b map r w
