-- What the parts of a step on answer and leave.
use Rattle.std.specs.Prelude.{ℕ, ◌<◌, ◌≤◌, suc, ◌*◌, ◌≡◌, List, length}
use Rattle.laws.specs.Result.{Res, Res.ok, leaves}
use Rattle.laws.specs.Store.{with_front}
use Rattle.state.specs.declared.State.{State}
use Rattle.state.specs.State.{frame_length}
use Rattle.state.specs.World.{World, hidden_in, with_hidden}
use Rattle.colours.specs.Colours.{coloured}
use Rattle.record.specs.Record.{Measure, written}
use Rattle.step_on.specs.Step.{record_of}

-- a state, and a picture and a work buffer of so many bytes, that a step on can go on with
pub record Fits (s : State) (picture work : ℕ) : Type 0 where
  pub sizes : frame_length s.sizes ≡ ok picture
  pub same : work ≡ picture
  pub short : picture ≤ 8 * 1024 * 128
  pub few : s.frame < 1_000_000
  pub place : s.next ≤ 2_147_483_647

-- A, B and the map after a record of a step to a frame: where it is written its picture f is in the hidden buffer, and its colours in the map
abbrev pub pictures_after : World → List ℕ → List ℕ → Res Measure → World
pictures_after w f cmap q = leaves w (λ m. with_hidden w f (coloured w.map cmap) w.state) q

-- what recording it answers and leaves
pub record CommitsHidden (w : World) (f cmap rec : List ℕ) (q : Res Measure) (a b map rec' : List ℕ) : Type 0 where
  pub answer : q ≡ written (length rec) (suc w.state.frame) w.state.next (hidden_in w) f w.map cmap
  pub bytes : rec' ≡ leaves rec (λ m. with_front rec (record_of w f cmap)) q
  pub pictures : ◌≡◌ {A = World} (record { a = a; b = b; map = map; state = w.state }) (pictures_after w f cmap q)
