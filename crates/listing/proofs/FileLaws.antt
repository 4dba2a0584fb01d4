-- Laws of the listing of a whole file: the order of its tests, what is left in the buffers, and that the text is the file's alone.
use Prim.Native.Nat.{ℕ, zero, suc, ◌-◌, ◌<◌, ◌≤◌, min}
use native.Mathlib.Omega.{arith}
use mathlib.Core.Bool.{Bool, true, false, ◌&&◌}
use mathlib.Core.List.{List, [], ◌++◌}
use mathlib.Core.Path.{◌≡◌, refl, sym, ap, ◌∙◌}
use lib.Dec.{leb}
use lib.ListN.{length, drop}
use lib.Seq.{length-take-le, take-nil}
use borrow.Author.Tests.{le-leb, lt-leb, leb-true}
use Rattle.laws.specs.Result.{Res, Res.ok, Res.fault, pick}
use Rattle.laws.proofs.ResultLaws.{two_true, never, answer_refused, answered}
use Rattle.laws.specs.Loop.{Step.next, Step.done, run, iterate}
use Rattle.laws.specs.Store.{over}
use Rattle.laws.proofs.StoreLaws.{length_over}
use Rattle.refusal.specs.Number.{result_of}
use Rattle.colours.specs.Colours.{MAP}
use Rattle.opening.specs.declared.OpenedFile.{OpenedFile}
use Rattle.state.specs.Film.{Film}
use Rattle.opening.specs.Open.{MeetsOpen, world_opened, opening, frame_size}
use Rattle.state.specs.World.{World}
use Rattle.state.specs.After.{Answer, Answer.refused, Answer.ended, Answer.took_on, Answer.took_back, lent, lent_after}
use Rattle.step_on.specs.Step.{step_on}
use Rattle.lines.specs.Lines.{refused_line, too_large, Adds}
use Rattle.lines.proofs.TextLaws.{adds_at, adds_front}
use Rattle.listing.specs.Listing.{Listing, add_line, line_on, list_step, list_frames, Buffers, unlisted, begun, list_opened, list_film, ROOM, front_of, list_front, Planned, Planned.single, Planned.pictures, plan_sized, plan_for, list_planned, list_file, listing, long_enough, list_lent, lent_text, Lists, MeetsList, Holds}

-- what the work and the record buffer hold makes no difference to pictures, state and text
record Alike (c d : Listing) : Type 0 where
  world : c.lent.world ≡ d.lent.world
  text : c.text ≡ d.text

abbrev with : World → List ℕ → List ℕ → List ℕ → Listing
with w t k r = record { lent = record { world = w; work = k; rec = r }; text = t }

module _ (file : List ℕ) (size room : ℕ) where
  run_alike : (n : ℕ) (x y : Listing) (w : World) (t k r k' r' : List ℕ) → Alike x y → Alike (run (list_step file size room) x n (with w t k r)) (run (list_step file size room) y n (with w t k' r'))
  unfolding lent_after
  run_alike zero x y w t k r k' r' h = h
  run_alike (suc n) x y w t k r k' r' h = go (step_on file w size room).answer (λ v u i j i' j'. run_alike n x y v u i j i' j' h)
    where
      after : List ℕ → List ℕ → Listing
      after i j = record { lent = lent_after (record { world = w; work = i; rec = j }) (step_on file w size room); text = t }

      go : (z : Answer) → ((v : World) (u i j i' j' : List ℕ) → Alike (run (list_step file size room) x n (with v u i j)) (run (list_step file size room) y n (with v u i' j')))
          → Alike (elim (line_on z (after k r)) [ next c ↦ run (list_step file size room) x n c | done c ↦ c ])
          (elim (line_on z (after k' r')) [ next c ↦ run (list_step file size room) y n c | done c ↦ c ])
      go (took_on rep) ih = ih _ _ _ _ _ _
      go ended ih = record { world = refl; text = refl }
      go (refused m) ih = record { world = refl; text = refl }
      go took_back ih = record { world = refl; text = refl }

  frames_alike : (w : World) (t k r k' r' : List ℕ) → Alike (list_frames file size room (with w t k r)) (list_frames file size room (with w t k' r'))
  unfolding list_frames iterate
  frames_alike w t k r k' r' = run_alike (suc (length file - w.state.next)) (with w t k r) (with w t k' r') w t k r k' r' (record { world = refl; text = refl })

-- the text of a file is the same whatever buffers are lent
module _ (file : List ℕ) (l m : Buffers) where
  opened_text : (n : ℕ) (q : Res Film) → (list_opened file n ROOM (front_of n l) q).text ≡ (list_opened file n ROOM (front_of n m) q).text
  unfolding list_opened
  opened_text n (ok F) = (frames_alike file n ROOM _ _ _ _ _ _).text
  opened_text n (fault k) = refl

  file_text : (list_file file l).text ≡ (list_file file m).text
  unfolding list_file list_front
  file_text = go (plan_for file)
    where
      go : (p : Planned) → (list_planned file l p).text ≡ (list_planned file m p).text
      go (single line) = refl
      go (pictures n) = opened_text n (opening file n n MAP)

pub text_same : (file : List ℕ) (l : Buffers) → (list_file file l).text ≡ listing file
unfolding listing
text_same file l = file_text file l (record { a = []; b = []; map = []; work = []; rec = [] })

-- one line is the whole text
pub lists_line : {c : Listing} {line out : List ℕ} {n : ℕ} {out' : List ℕ} (l : Buffers) → c ≡ add_line (unlisted l) line → Adds out (min 0 (length out)) line out' n → Lists c out n l out'
lists_line l e v = let t = adds_front (adds_at (omega arith) v) in rw e (record { text = t.0; count = t.1; left = refl })

-- an opening that is refused, and one that isn't
module _ (file : List ℕ) (l : Buffers) {r : OpenedFile} {a b map : List ℕ} (m : MeetsOpen file l.a l.b l.map r (record { a = a; b = b; map = map; state = r.state })) where
  pub film_refused : {i : ℕ} {out : List ℕ} {n : ℕ} {out' : List ℕ} → result_of r.answer ≡ fault i → Adds out (min 0 (length out)) (refused_line i) out' n
      → Lists (list_film file l) out n (record { a = a; b = b; map = map; work = l.work; rec = l.rec }) out'
  unfolding list_film list_opened
  film_refused {i} e v =
      let q = answer_refused (opening file (length l.a) (length l.b) (length l.map)) (sym m.answer ∙ e) in
      let k = m.left ∙ ap (world_opened l.a l.b l.map) q in
      rw (q, ap (λ (w : World). w.a) k, ap (λ (w : World). w.b) k, ap (λ (w : World). w.map) k) (lists_line l refl v)

  pub film_opened : {out : List ℕ} {n : ℕ} {l' : Buffers} {out' : List ℕ} → result_of r.answer ≡ ok tt
      → Lists (list_frames file (length l.work) (length l.rec) (begun (lent a b map r.state l.work l.rec))) out n l' out' → Lists (list_film file l) out n l' out'
  unfolding list_film list_opened
  film_opened e v =
      let q = answered (opening file (length l.a) (length l.b) (length l.map)) (sym e ∙ m.answer) in
      let k = m.left ∙ ap (world_opened l.a l.b l.map) q.1 in
      rw q.1 (rw (ap (λ (w : World). w.a) k, ap (λ (w : World). w.b) k, ap (λ (w : World). w.map) k, ap (λ (w : World). w.state) k) at v)

-- the tests of a file, in order
module _ (file : List ℕ) where
  pub file_large : 65_536 < length file → single too_large ≡ plan_for file
  unfolding plan_for
  file_large h = rw (lt-leb (length file) 65_536 h) refl

  module _ (h : length file ≤ 65_536) where
    pub size_refused : {n : ℕ} → frame_size file ≡ fault n → single (refused_line n) ≡ plan_for file
    unfolding plan_for
    size_refused e = rw (le-leb (length file) 65_536 h, e) refl

    module _ {n : ℕ} (e : frame_size file ≡ ok n) where
      pub frame_large : 16_384 < n → single too_large ≡ plan_for file
      unfolding plan_for
      frame_large k = rw (le-leb (length file) 65_536 h, e) (rw (lt-leb n 16_384 k) refl)

      pub frame_fits : n ≤ 16_384 → pictures n ≡ plan_for file
      unfolding plan_for
      frame_fits k = rw (le-leb (length file) 65_536 h, e) (rw (le-leb n 16_384 k) refl)

-- a file that is listed by one line, and one that is listed frame by frame
pub lists_single : (file : List ℕ) (l : Buffers) {line out : List ℕ} {n : ℕ} {out' : List ℕ} → plan_for file ≡ single line → Adds out (min 0 (length out)) line out' n → Lists (list_file file l) out n l out'
unfolding list_file
lists_single file l e v = lists_line l (ap (list_planned file l) e) v

pub lists_pictures : (file : List ℕ) (l : Buffers) {n : ℕ} → plan_for file ≡ pictures n → {out : List ℕ} {r : ℕ} {l' : Buffers} {out' : List ℕ} → Lists (list_front file n l) out r l' out' → Lists (list_file file l) out r l' out'
unfolding list_file
lists_pictures file l e v = rw e v

-- such frames are short enough
pub pictures_fit : (file : List ℕ) {n : ℕ} → plan_for file ≡ pictures n → n ≤ 16_384
unfolding plan_for
pictures_fit file {n} = go (leb (length file) 65_536) (frame_size file)
  where
    fits : (m : ℕ) (t : Bool) → leb m 16_384 ≡ t → pick t (pictures m) (single too_large) ≡ pictures n → n ≤ 16_384
    fits m true e d = let f : m ≡ n = cc in rw f at (leb-true m 16_384 e)
    fits m false e d = never (cc)

    go : (t : Bool) (q : Res ℕ) → pick t (plan_sized q) (single too_large) ≡ pictures n → n ≤ 16_384
    go true (ok m) d = fits m (leb m 16_384) refl d
    go true (fault m) d = never (cc)
    go false q d = never (cc)

pub holds_less : {n m a b map work rec : ℕ} → n ≤ m → Holds m a b map work rec → Holds n a b map work rec
holds_less k h = record { left = omega (arith, h.left); right = omega (arith, h.right); colours = h.colours; drawn = omega (arith, h.drawn); written = h.written }

-- what is listed with the front parts of the buffers; the bytes after them stay
pub lists_front : (file : List ℕ) (l : Buffers) {n : ℕ} → Holds n (length l.a) (length l.b) (length l.map) (length l.work) (length l.rec) → {out : List ℕ} {r : ℕ} {l' : Buffers} {out' : List ℕ}
    → Lists (list_film file (front_of n l)) out r l' out'
    → Lists (list_front file n l) out r (record { a = l'.a ++ drop n l.a; b = l'.b ++ drop n l.b; map = l'.map ++ drop MAP l.map; work = l'.work ++ drop n l.work; rec = l'.rec ++ drop ROOM l.rec }) out'
unfolding list_front list_film
lists_front file l {n} h {out} {r} {l'} {out'} v =
    let v' : Lists (list_opened file n ROOM (front_of n l) (opening file n n MAP)) out r l' out' =
    rw (length-take-le n l.a h.left, length-take-le n l.b h.right, length-take-le MAP l.map h.colours, length-take-le n l.work h.drawn, length-take-le ROOM l.rec h.written) at v in
    let k = v'.left in
    record {
      text = v'.text;
      count = v'.count;
      left = λ i. record { a = (k i).a ++ drop n l.a; b = (k i).b ++ drop n l.b; map = (k i).map ++ drop MAP l.map; work = (k i).work ++ drop n l.work; rec = (k i).rec ++ drop ROOM l.rec };
    }

-- buffers that are too short, and buffers that are long enough
module _ (file : List ℕ) (l : Buffers) (out : List ℕ) where
  module _ {t : Bool} (e : long_enough l ≡ t) where
    lent_is : list_lent file l ≡ pick t (list_file file l) (unlisted l)
    unfolding list_lent
    lent_is = rw e refl

    text_is : lent_text file l ≡ pick t (listing file) []
    unfolding lent_text
    text_is = rw e refl

  over_nothing : out ≡ over out []
  unfolding over
  over_nothing = ap (λ (t : List ℕ). t ++ out) (sym (take-nil (length out)))

  pub too_short : long_enough l ≡ false → MeetsList file l out 0 l out
  too_short e =
      let k = lent_is e in
      let t = text_is e in
      record { text = rw t over_nothing; count = rw t (omega arith); most = omega arith; left = rw k refl }

  module _ (e : long_enough l ≡ true) where
    pub long_enough_lem : Holds 16_384 (length l.a) (length l.b) (length l.map) (length l.work) (length l.rec)
    long_enough_lem =
        let ab = leb 16_384 (length l.a) && leb 16_384 (length l.b) in
        let p = two_true (ab && leb MAP (length l.map) && leb 16_384 (length l.work)) (leb ROOM (length l.rec)) e in
        let q = two_true (ab && leb MAP (length l.map)) (leb 16_384 (length l.work)) p.0 in
        let m = two_true ab (leb MAP (length l.map)) q.0 in
        let r = two_true (leb 16_384 (length l.a)) (leb 16_384 (length l.b)) m.0 in
        record { left = leb-true _ _ r.0; right = leb-true _ _ r.1; colours = leb-true _ _ m.1; drawn = leb-true _ _ q.1; written = leb-true _ _ p.1 }

    pub meets_list : {r : ℕ} {l' : Buffers} {out' : List ℕ} → Lists (list_file file l) out r l' out' → MeetsList file l out r l' out'
    meets_list {r} {out' = out'} v =
        let k = lent_is e in
        let t = text_is e ∙ sym (text_same file l) in
        let n : r ≤ length out' = omega (arith, v.count, ap length v.text ∙ length_over (list_file file l).text out) in
        record { text = rw t v.text; count = rw t v.count; most = n; left = rw k v.left }
