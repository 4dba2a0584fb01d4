-- Laws of restoring: what a record is at each test, what is answered, and what the picture and the map are then.
use Prim.Native.Nat.{ℕ, ◌<◌, ◌≤◌}
use native.Mathlib.Omega.{arith}
use mathlib.Core.Bool.{Bool, true, false}
use mathlib.Core.List.{List}
use mathlib.Core.Option.{none, some}
use mathlib.Core.Path.{◌≡◌, refl, ap, ◌∙◌}
use lib.Dec.{leb, ltb, eqb}
use lib.ListN.{length, drop, length-drop, drop_of_length-le}
use borrow.Author.Tests.{ne_eqb}
use Rattle.laws.specs.Result.{Res.ok, Res.fault, ◌>>=◌, need, pick}
use Rattle.laws.proofs.ResultLaws.{none_some, some_same, given_some}
use Rattle.number.specs.Number.{read_number}
use Rattle.number.proofs.NumberLaws.{Found}
use Rattle.runs.specs.Runs.{all_differ, patch}
use Rattle.record.specs.RunList.{Before, read_list, runs_back, before_of}
use Rattle.record.specs.Record.{Past, past_of, restored}
use Rattle.restore.specs.Restored.{Restores}
use Rattle.restore.specs.Walk.{Walked, Stopped, Took, Lists, past_from, belongs, LeadsTo}
use Rattle.std.specs.Prelude.{Option as Answer, Some, None}

-- the two numbers at the front of a record
pub no_frame : (bytes : List ℕ) → read_number bytes ≡ none → (shown map : List ℕ) → past_of bytes shown map ≡ none
unfolding past_of
no_frame bytes e shown map = simp e

module _ {bytes : List ℕ} {frame next : ℕ} (f : Found bytes 0 frame next) where
  pub no_place : read_number (drop next bytes) ≡ none → (shown map : List ℕ) → past_of bytes shown map ≡ none
  unfolding past_of
  no_place e shown map = simp (f.is, e)

  pub header_found : {place list : ℕ} → Found bytes next place list → (shown map : List ℕ) → past_of bytes shown map ≡ past_from frame place (drop list bytes) shown map
  unfolding past_of past_from
  header_found p shown map = simp (f.is, p.is)

-- a run list that was checked against a buffer
module _ (s : List ℕ) {f f' : List ℕ} where
  list_bad : Stopped f (read_list (length f) s) false f' → before_of s f ≡ none
  unfolding before_of
  list_bad w = w.bad refl

  list_good : {rest : List ℕ} (w : Walked f (read_list (length f) s) false rest f') → before_of s f ≡ some (record { buffer = patch w.runs f; rest = rest })
  unfolding before_of runs_back
  list_good w = rw (w.read, w.good refl)

-- one that leads back, put back into the buffer: its runs are those that were checked
put_back : (bytes : List ℕ) (list : ℕ) {f f₁ : List ℕ} {b : Before} → before_of (drop list bytes) f ≡ some b → f₁ ≡ f → (f' : List ℕ) (r : Answer ℕ)
    → Took f₁ bytes (read_list (length f₁) (drop list bytes)) true f' r → f' ≡ b.buffer
unfolding before_of runs_back
put_back bytes list {f = f} e k f' (Some end) t =
    let w : Walked f (read_list (length f) (drop list bytes)) true (drop end bytes) f' = rw k at t in
    w.left ∙ ap (λ (b : Before). b.buffer) (some_same (given_some (all_differ w.runs f) _ (rw w.read at e)).1)
put_back bytes list {f = f} e k f' None t =
    let w : Stopped f (read_list (length f) (drop list bytes)) true f' = rw k at t in
    none_some (rw (w.unread refl) at e)

-- two run lists that were checked, one after the other
module _ (bytes shown map : List ℕ) (list : ℕ) {shown' : List ℕ} where
  pub bad_first : Stopped shown (read_list (length shown) (drop list bytes)) false shown' → (frame place : ℕ) → past_from frame place (drop list bytes) shown map ≡ none
  unfolding past_from
  bad_first w frame place = rw (list_bad (drop list bytes) w)

  module _ (map_list : ℕ) {map' : List ℕ} (w : Walked shown (read_list (length shown) (drop list bytes)) false (drop map_list bytes) shown') where
    pub bad_second : Stopped map (read_list (length map) (drop map_list bytes)) false map' → (frame place : ℕ) → past_from frame place (drop list bytes) shown map ≡ none
    unfolding past_from
    bad_second m frame place = rw (list_good (drop list bytes) w, list_bad (drop map_list bytes) m)

    module _ {end : ℕ} (m : Walked map (read_list (length map) (drop map_list bytes)) false (drop end bytes) map') where
      pub left_over : end < length bytes → (frame place : ℕ) → past_from frame place (drop list bytes) shown map ≡ none
      unfolding past_from
      left_over l frame place =
          rw (list_good (drop list bytes) w, list_good (drop map_list bytes) m, ne_eqb (length (drop end bytes)) 0 (λ z. absurd (omega (arith, length-drop end bytes))))

      pub good_lists : length bytes ≤ end → Lists bytes list map_list shown map
      good_lists l = record {
        picture = patch w.runs shown;
        colours = patch m.runs map;
        picture_back = list_good (drop list bytes) w;
        colours_back = list_good (drop map_list bytes) m ∙ rw (drop_of_length-le bytes l);
      }

module _ (bytes shown map : List ℕ) (frame next : ℕ) where
  -- 61
  pub bad_record : past_of bytes shown map ≡ none → restored bytes shown map frame next ≡ fault 61
  unfolding restored
  bad_record e = simp e

  -- 62
  belongs_is : (p : Past) (a b c d : Bool)
      → (need a 62 >>= λ _. need b 62 >>= λ _. need c 62 >>= λ _. need d 62 >>= λ _. ok p) ≡ pick (pick a (pick b (pick c d false) false) false) (ok p) (fault 62)
  belongs_is p true true true true = refl
  belongs_is p true true true false = refl
  belongs_is p true true false d = refl
  belongs_is p true false c d = refl
  belongs_is p false b c d = refl

  module _ (reached place list : ℕ) (h : past_of bytes shown map ≡ past_from reached place (drop list bytes) shown map) {map_list : ℕ} (l : Lists bytes list map_list shown map) where
    whole : past_of bytes shown map ≡ some (record { frame = reached; place = place; picture = l.picture; map = l.colours })
    unfolding past_from
    whole = h ∙ rw (l.picture_back, l.colours_back)

    pub not_its_own : belongs reached place frame next ≡ false → restored bytes shown map frame next ≡ fault 62
    unfolding restored
    not_its_own b = simp whole (belongs_is _ (leb 2 reached) (eqb reached frame) (leb 12 place) (ltb place next) ∙ rw b)

    pub leads_to : belongs reached place frame next ≡ true → LeadsTo bytes shown map frame next place list map_list
    unfolding restored
    leads_to b = record {
      reached = reached;
      lists = l;
      is = simp whole (belongs_is _ (leb 2 reached) (eqb reached frame) (leb 12 place) (ltb place next) ∙ rw b);
    }

  -- what restoring answers, and the picture and the map that it leaves
  module _ {shown₁ map₁ : List ℕ} (k : shown₁ ≡ shown) (m : map₁ ≡ map) where
    pub is_back : {place list map_list : ℕ} → LeadsTo bytes shown map frame next place list map_list → (shown' map' : List ℕ) (r q : Answer ℕ)
        → Took shown₁ bytes (read_list (length shown₁) (drop list bytes)) true shown' r → Took map₁ bytes (read_list (length map₁) (drop map_list bytes)) true map' q
        → Restores bytes shown map frame next (ok place) shown' map'
    is_back {list = list} {map_list = map_list} l shown' map' r q t u = record {
      answer = rw l.is;
      picture = put_back bytes list l.lists.picture_back k shown' r t ∙ rw l.is;
      colours = put_back bytes map_list l.lists.colours_back m map' q u ∙ rw l.is;
    }
