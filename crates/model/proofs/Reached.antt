-- A frame m + 1 that can be reached: its pictures have a frame's length and its map has its own, and its place lies within the file.
use Prim.Native.Nat.{ℕ, zero, suc, ◌<◌, ◌≤◌}
use native.Mathlib.Omega.{arith}
use mathlib.Core.Bool.{Bool, true, false, not}
use mathlib.Core.List.{List, [], ◌∷◌}
use mathlib.Core.Option.{some}
use mathlib.Core.Path.{◌≡◌, refl, ap, ◌∙◌}
use lib.ListN.{length, take, length-take}
use borrow.Author.Tests.{le-leb}
use Rattle.laws.specs.Result.{Res.ok, pick, or_keep}
use Rattle.laws.proofs.ResultLaws.{pick_both}
use Rattle.state.specs.State.{row_bytes, state_length}
use Rattle.frame.specs.Frame.{Frame}
use Rattle.frame.proofs.FrameLaws.{Rises, frame_rises}
use Rattle.colours.specs.Colours.{MAP, coloured}
use Rattle.colours.proofs.ColourLaws.{coloured_length}
use Rattle.state.specs.World.{is_odd, shown_in, hidden_in}
use Rattle.state.specs.After.{Answer, After}
use Rattle.state.specs.Film.{Film}
use Rattle.model.specs.Model.{here, past, built_at, drawn, place_at, picture, coloured_by, map_at, record_at, stands}
use Rattle.model.proofs.Laws.{built_length}
use Rattle.model.proofs.Opened.{Opened, size}

-- frame m + 1 can be reached
pub data Reached (F : Film) : ℕ → Type 0 where
  first : Reached F zero
  next : {m : ℕ} (x : Frame) (g : List ℕ) → Reached F m → here F (place_at F m) ≡ ok (some x) → built_at F m x ≡ ok g → suc m < 1_000_000 → Reached F (suc m)

-- what a frame that is there makes of the place, of the map and of the picture
pub place_next : (F : Film) (m : ℕ) (x : Frame) → here F (place_at F m) ≡ ok (some x) → place_at F (suc m) ≡ x.next
unfolding place_at past
place_next F m x e = rw e

pub map_next : (F : Film) (m : ℕ) (x : Frame) → here F (place_at F m) ≡ ok (some x) → map_at F (suc m) ≡ coloured (map_at F m) x.cmap
unfolding map_at coloured_by
map_next F m x e = rw e

pub picture_next : (F : Film) (m : ℕ) (x : Frame) (g : List ℕ) → here F (place_at F m) ≡ ok (some x) → built_at F m x ≡ ok g → picture F (suc (suc m)) ≡ g
unfolding picture drawn
picture_next F m x g e c = rw e (ap (or_keep (picture F m)) c)

-- what holds at a frame that can be reached
pub record Good (F : Film) (m : ℕ) : Type 0 where
  pub hidden : length (picture F m) ≡ size F
  pub shown : length (picture F (suc m)) ≡ size F
  pub map_long : length (map_at F m) ≡ MAP
  pub low : 12 ≤ place_at F m
  pub high : place_at F m ≤ F.end
  pub few : suc m ≤ 1_000_000

pub good : (F : Film) → Opened F → {m : ℕ} → Reached F m → Good F m
good F o first = unfold picture place_at map_at in record { hidden = o.whole; shown = o.whole; map_long = o.map_long; low = o.from; high = o.inside; few = omega arith }
good F o (next {m = m} x g p e c h) = go (good F o p) (frame_rises (take F.end F.file) (row_bytes F.sizes.width) (place_at F m) x e)
  where
    go : Good F m → Rises (take F.end F.file) (place_at F m) x → Good F (suc m)
    go k r = record {
      hidden = k.shown;
      shown = rw (picture_next F m x g e c) (built_length F x (picture F (suc m)) (picture F m) g k.shown k.hidden c);
      map_long = rw (map_next F m x e) (coloured_length (map_at F m) x.cmap ∙ k.map_long);
      low = rw (place_next F m x e) (omega (arith, k.low, r.rises));
      high = rw (place_next F m x e) (omega (arith, r.ends, length-take F.end F.file));
      few = h;
    }

-- which buffer is which
module _ {A : Type 0} where
  pub pick_same : (t : Bool) (x y : A) → pick t (pick t x y) (pick t y x) ≡ x
  pick_same true x y = refl
  pick_same false x y = refl

  pub pick_left : (t : Bool) (x y z : A) → pick t (pick t x y) z ≡ pick (not t) z x
  pick_left true x y z = refl
  pick_left false x y z = refl

  pub pick_right : (t : Bool) (x y z : A) → pick t z (pick t y x) ≡ pick (not t) x z
  pick_right true x y z = refl
  pick_right false x y z = refl

  pub pick_back_left : (t : Bool) (x y z : A) → pick (not t) x (pick (not t) y z) ≡ pick t z x
  pick_back_left true x y z = refl
  pick_back_left false x y z = refl

  pub pick_back_right : (t : Bool) (x y z : A) → pick (not t) (pick (not t) z y) x ≡ pick t x z
  pick_back_right true x y z = refl
  pick_back_right false x y z = refl

-- the state at a frame that can be reached is within the limits
pub state_good : (F : Film) → Opened F → (m : ℕ) → Good F m → state_length (stands F m).state ≡ ok (size F)
unfolding state_length stands
state_good F o m k =
    simp (le-leb 1 (suc m) (omega arith), le-leb (suc m) 1_000_000 k.few, le-leb 12 (place_at F m) k.low, le-leb (place_at F m) F.end k.high, le-leb F.end 2_147_483_647 o.short) o.sizes

-- the pictures that a call is handed
pub hidden_is : (F : Film) (m : ℕ) → hidden_in (stands F m) ≡ picture F m
unfolding hidden_in stands
hidden_is F m = pick_same (is_odd (suc m)) (picture F m) (picture F (suc m))

pub shown_is : (F : Film) (m : ℕ) → shown_in (stands F m) ≡ picture F (suc m)
unfolding shown_in stands
shown_is F m = pick_same (is_odd (suc m)) (picture F (suc m)) (picture F m)

pub left_long : (F : Film) (m : ℕ) → Good F m → length (stands F m).a ≡ size F
unfolding stands
left_long F m k = pick_both (λ (p : List ℕ). length p ≡ size F) (is_odd (suc m)) k.shown k.hidden

pub right_long : (F : Film) (m : ℕ) → Good F m → length (stands F m).b ≡ size F
unfolding stands
right_long F m k = pick_both (λ (p : List ℕ). length p ≡ size F) (is_odd (suc m)) k.hidden k.shown

pub map_long_lem : (F : Film) (m : ℕ) → Good F m → length (stands F m).map ≡ MAP
unfolding stands
map_long_lem F m k = k.map_long

-- the records not yet taken back at frame m + 1, the latest first
unfoldable pub records : Film → ℕ → List (List ℕ)
records F zero = []
records F (suc m) = record_at F m ∷ records F m

-- what a call at frame m + 1 comes to, if it is answered x and leads to frame m' + 1
pub record Comes (F : Film) (m m' : ℕ) (x : Answer) (rec : List ℕ) (o : After) : Type 0 where
  pub answer : o.answer ≡ x
  pub world : o.world ≡ stands F m'
  pub bytes : o.bytes ≡ rec
  pub there : Reached F m'
