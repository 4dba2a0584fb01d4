-- How long the lines of a listing are, and how much of the file each frame takes.
use Prim.Native.Nat.{ℕ, zero, suc, ◌+◌, ◌/◌, ◌%◌, ◌^◌, ◌<◌, ◌≤◌}
use native.Mathlib.Nat.{div-lt_iff_lt-mul, pow-suc}
use native.Mathlib.Omega.{arith}
use native.Mathlib.Decide.{dec_lt}
use mathlib.Core.List.{List, [], ◌∷◌}
use mathlib.Core.Option.{Option, none, some}
use mathlib.Core.Path.{◌≡◌, ap, ◌∙◌}
use mathlib.Core.Bool.{true, false}
use lib.Dec.{leb, lit<}
use lib.ListN.{length, drop, length-append, length-take}
use borrow.Author.Tests.{leb-true}
use Rattle.laws.proofs.BytesLaws.{bytes_take, be32_bound, bytes_drop}
use Rattle.laws.specs.Bytes.{Bytes}
use Rattle.laws.specs.Result.{Res, Res.ok, Res.fault}
use Rattle.laws.proofs.ResultLaws.{Each, Each.each, Each.no_value, All, All.all_some, All.all_none, each_any, each_bind, each_need, each_map, all_value}
use Rattle.refusal.specs.Number.{is_number}
use Rattle.refusal.proofs.NumberLaws.{two_digits}
use Rattle.colours.specs.Colours.{colours}
use Rattle.state.specs.declared.Sizes.{Sizes}
use Rattle.state.specs.State.{Sound}
use Rattle.iff.specs.Ids.{CMAP, ANHD, DLTA}
use Rattle.iff.specs.Chunk.{bytes_of, contents}
use Rattle.iff.proofs.ChunkLaws.{found, parts_room}
use Rattle.form.specs.Form.{FormIlbm, chunks_of}
use Rattle.form.proofs.FormLaws.{Follows, form_follows}
use Rattle.anhd.specs.Anhd.{frame_header}
use Rattle.anhd.proofs.AnhdLaws.{header_read}
use Rattle.anhd.specs.declared.FrameHeader.{FrameHeader}
use Rattle.anhd.specs.declared.Items.{Items}
use Rattle.anhd.specs.declared.Items.TheVariants.{Bytes as ItemBytes, Shorts, Longs, ShortWords, LongWords}
use Rattle.delta.specs.Reading.{shape_of}
use Rattle.delta.specs.Delta.{read_picture, read_delta}
use Rattle.frame.specs.Frame.{Frame, frame_in, frame_or, frame_at}
use Rattle.state.specs.declared.Report.{Report}
use Rattle.lines.specs.Lines.{decimal, frame_line, refused_line, end_line, picture_line}
use Rattle.lines.proofs.TextLaws.{decimal_digit, decimal_more}

-- a number below 10 to the k has at most k digits
tenth : (k n : ℕ) → n < 10 ^ suc (suc k) → n / 10 < 10 ^ suc k
tenth k n h = (div-lt_iff_lt-mul (lit< tt)).1 (rw (← (pow-suc 10 (suc k))) h)

pub decimal_length : (k n : ℕ) → n < 10 ^ suc k → length (decimal n) ≤ suc k
decimal_length zero n h = let l : n < 10 = h in omega (arith, ap length (decimal_digit n l))
decimal_length (suc k) n h = go (dec_lt n 10) (decimal_length k (n / 10) (tenth k n h))
  where
    go : Dec (n < 10) → length (decimal (n / 10)) ≤ suc k → length (decimal n) ≤ suc (suc k)
    go (yes l) i = omega (arith, ap length (decimal_digit n l))
    go (no l) i = let m : 10 ≤ n = omega arith in omega (arith, ap length (decimal_more n m) ∙ length-append (decimal (n / 10)) ((48 + n % 10) ∷ []))

-- a delta has eight pointers at least, and that of a frame that is taken has all of its own
pub pointers_least : (z : Sizes) (i : Items) → 32 ≤ (shape_of z i).pointers
pointers_least z ItemBytes = omega arith
pointers_least z Shorts = omega arith
pointers_least z Longs = omega arith
pointers_least z ShortWords = omega arith
pointers_least z LongWords = omega arith

pub delta_long : (z : Sizes) (i : Items) (d : List ℕ) → Each (λ _. (shape_of z i).pointers ≤ length d) (read_delta (shape_of z i) d)
unfolding read_delta read_picture
delta_long z i d =
    each_bind (each_need (leb (shape_of z i).pointers (length d)) 41 _ λ h. all_long _ (leb-true (shape_of z i).pointers (length d) h)) λ c k. each k
  where
    all_long : {A : Type 0} (r : Res A) → (shape_of z i).pointers ≤ length d → Each (λ _. (shape_of z i).pointers ≤ length d) r
    all_long (ok a) h = each h
    all_long (fault n) h = no_value

-- what a later frame says, and how much of FORM ANIM it takes
pub record Holds (at : ℕ) (x : Frame) : Type 0 where
  pub method : x.header.method < 256
  pub time : x.header.time < 4_294_967_296
  pub takes : at + 68 + length x.dlta ≤ x.next

header_holds : (B : ℕ) (s : List ℕ) → Bytes s → Each (λ (h : FrameHeader). (h.method < 256) × (h.time < 4_294_967_296) × (40 ≤ length s)) (frame_header false B s)
header_holds B s h = each_map (λ y r. (rw r.method (h 0), rw r.time (be32_bound s 14 h), r.long)) (header_read false B s)

pub frame_holds : (s : List ℕ) (B at : ℕ) → Bytes s → Each (All (Holds at)) (frame_at s at B)
unfolding frame_at frame_in
frame_holds s B at h = each_bind (form_follows s at) form
  where
    there : (x : FormIlbm) → Follows s at x → Each (Holds at) (frame_in s B x)
    there x f =
        let c = chunks_of s x in
        each_bind (found 31 ANHD c) λ p e. each_bind (found 31 DLTA c) λ q g.
        each_bind (header_holds B (bytes_of c p) (bytes_take p.size _ (bytes_drop p.start c (bytes_take x.size _ (bytes_drop x.start s h))))) λ y k.
        each_any (colours (contents c CMAP)) λ m.
        let t : at + 68 + length (bytes_of c q) ≤ x.next = omega (arith, k.2, parts_room ANHD DLTA (λ k. omega arith) c p q e g, length-take p.size (drop p.start c), length-take q.size (drop q.start c), length-take x.size (drop x.start s), f.starts, f.holds) in
        each (record { method = k.0; time = k.1; takes = t })

    form : (o : Option FormIlbm) → All (Follows s at) o → Each (All (Holds at)) (frame_or s B o)
    form none l = each all_none
    form (some x) l = each_bind (there x (all_value l)) λ y k. each (all_some k)

-- what is reported of a step is small enough to be told in so many digits
pub record Tells (r : Report) : Type 0 where
  pub method : r.method < 1000
  pub time : r.time < 10_000_000_000
  pub changed : r.changed < 100_000
  pub record_length : r.record_length < 100_000

-- a frame's line has at most 68 bytes
pub frame_line_short : (n : ℕ) (r : Report) → n < 10_000_000 → Tells r → length (frame_line n r) ≤ 68
unfolding frame_line
frame_line_short n r h k =
    simp length-append (omega (arith, decimal_length 6 n h, decimal_length 2 r.method k.method, decimal_length 9 r.time k.time, decimal_length 4 r.changed k.changed, decimal_length 4 r.record_length k.record_length))

-- the other lines
pub end_line_short : (n : ℕ) → n < 10_000_000 → length (end_line n) ≤ 68
unfolding end_line
end_line_short n h = simp length-append (omega (arith, decimal_length 6 n h))

pub refused_line_short : (n : ℕ) → is_number n ≡ true → length (refused_line n) ≤ 68
unfolding refused_line
refused_line_short n e = simp length-append (omega (arith, decimal_length 1 n (two_digits n e)))

pub picture_line_short : (z : Sizes) (n : ℕ) → Sound z n → length (picture_line z) ≤ 68
unfolding picture_line
picture_line_short z n k =
    let w : z.width < 10_000 = omega (arith, k.width_most) in
    let h : z.height < 10_000 = omega (arith, k.height_most) in
    let p : z.planes < 10 = omega (arith, k.planes_most) in
    simp length-append (omega (arith, decimal_length 3 z.width w, decimal_length 3 z.height h, decimal_length 0 z.planes p))
