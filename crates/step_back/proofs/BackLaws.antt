-- Laws of stepping back: what is left in the buffers, and what a step that is taken comes to.
use Prim.Native.Nat.{ℕ, ◌-◌, ◌≤◌}
use mathlib.Core.Bool.{Bool, true, false}
use mathlib.Core.List.{List}
use mathlib.Core.Path.{◌≡◌, refl}
use lib.ListN.{length}
use Rattle.laws.specs.Result.{Res, Res.ok, Res.fault, ◌>>=◌, leaves, pick}
use Rattle.laws.proofs.ResultLaws.{Each, Each.each, never}
use Rattle.refusal.specs.Number.{number_of}
use Rattle.refusal.specs.declared.Refusal.{Refusal}
use Rattle.state.specs.declared.State.{State}
use Rattle.state.specs.State.{step_length, moved}
use Rattle.state.proofs.StateLaws.{SoundStep, step_sound}
use Rattle.state.specs.World.{World, is_odd, shown_in, with_shown}
use Rattle.state.specs.After.{Answer.took_back, After}
use Rattle.record.specs.Record.{Past, restored}
use Rattle.restore.specs.Restored.{Restores}
use Rattle.std.specs.Prelude.{Ok, Err}
use Rattle.step_back.specs.Back.{retreat, settle_back, step_back, LeavesBack, MeetsBack}
use Rattle.step_back.specs.Parts.{pictures_back, place_in, RestoresShown}

-- what a record restores of a world
abbrev pub restored_in : World → List ℕ → Res Past
restored_in w bytes = restored bytes (shown_in w) w.map w.state.frame w.state.next

-- a record that was put back into one of the two buffers, by which of them is shown
module _ (w : World) (bytes : List ℕ) {r : Res ℕ} {p m : List ℕ} where
  shown_back : (t : Bool) → is_odd w.state.frame ≡ t → Restores bytes (pick t w.a w.b) w.map w.state.frame w.state.next r p m
      → RestoresShown w (restored_in w bytes) r (pick t p w.a) (pick t w.b p) m
  unfolding shown_in
  shown_back t h e = rw h (record { answer = e.answer; pictures = go t (restored bytes (pick t w.a w.b) w.map w.state.frame w.state.next) h e.picture e.colours })
    where
      go : (t : Bool) (q : Res Past) → is_odd w.state.frame ≡ t → p ≡ leaves (pick t w.a w.b) (λ x. x.picture) q → m ≡ leaves w.map (λ x. x.map) q
          → ◌≡◌ {A = World} (record { a = pick t p w.a; b = pick t w.b p; map = m; state = w.state }) (pictures_back w q)
      go t (ok x) h k l = unfold with_shown in rw (h, k, l)
      go true (fault n) h k l = rw (k, l)
      go false (fault n) h k l = rw (k, l)

  pub shown_odd : is_odd w.state.frame ≡ true → Restores bytes w.a w.map w.state.frame w.state.next r p m → RestoresShown w (restored_in w bytes) r p w.b m
  shown_odd = shown_back true

  pub shown_even : is_odd w.state.frame ≡ false → Restores bytes w.b w.map w.state.frame w.state.next r p m → RestoresShown w (restored_in w bytes) r w.a p m
  shown_even = shown_back false

-- a record is put back only where the lengths and the state let a step back begin
module _ (w : World) (bytes : List ℕ) where
  pub back_refused : {n : ℕ} → step_length w.state (length w.a) (length w.b) (length w.map) ≡ fault n → RestoresShown w (retreat w bytes) (fault n) w.a w.b w.map
  unfolding retreat
  back_refused e = rw e (record { answer = refl; pictures = refl })

  pub back_begins : {n : ℕ} {r : Res ℕ} {a b map : List ℕ} → step_length w.state (length w.a) (length w.b) (length w.map) ≡ ok n
      → RestoresShown w (restored_in w bytes) r a b map → RestoresShown w (retreat w bytes) r a b map
  unfolding retreat
  back_begins e k = rw e k

  -- where there is a place to go back to, the frame isn't before the first
  pub back_frame : {place : ℕ} {a b map : List ℕ} → RestoresShown w (retreat w bytes) (ok place) a b map → 1 ≤ w.state.frame
  unfolding retreat
  back_frame {place} k = go (step_length w.state (length w.a) (length w.b) (length w.map)) (step_sound w.state (length w.a) (length w.b) (length w.map)) k.answer
    where
      go : (s : Res ℕ) → Each (SoundStep w.state (length w.a) (length w.b) (length w.map)) s → ok place ≡ place_in (s >>= λ _. restored_in w bytes) → 1 ≤ w.state.frame
      go (ok n) (each h) e = h.lent.state.frame_least
      go (fault n) h e = never (cc)

  module _ {a b map : List ℕ} where
    pub back_kept : {why : Refusal} → RestoresShown w (retreat w bytes) (fault (number_of why)) a b map
        → MeetsBack w bytes (record { answer = Err why; state = w.state }) (record { a = a; b = b; map = map; state = w.state })
    unfolding step_back settle_back
    back_kept {why} k = go (retreat w bytes) k.answer k.pictures
      where
        go : (q : Res Past) → fault (number_of why) ≡ place_in q → ◌≡◌ {A = World} (record { a = a; b = b; map = map; state = w.state }) (pictures_back w q)
            → LeavesBack (settle_back w q) (record { answer = Err why; state = w.state }) (record { a = a; b = b; map = map; state = w.state })
        go (ok x) i l = never (cc)
        go (fault m) i l = let j : number_of why ≡ m = cc in record { answer = rw j; left = l }

    pub back_taken : {place : ℕ} {s : State} → RestoresShown w (retreat w bytes) (ok place) a b map → s ≡ moved w.state (w.state.frame - 1) place
        → MeetsBack w bytes (record { answer = Ok tt; state = s }) (record { a = a; b = b; map = map; state = s })
    unfolding step_back settle_back with_shown
    back_taken {place} {s} k es = go (retreat w bytes) k.answer k.pictures
      where
        go : (q : Res Past) → ok place ≡ place_in q → ◌≡◌ {A = World} (record { a = a; b = b; map = map; state = w.state }) (pictures_back w q)
            → LeavesBack (settle_back w q) (record { answer = Ok tt; state = s }) (record { a = a; b = b; map = map; state = s })
        go (ok x) i l =
            let j : x.place ≡ place = cc in
            let m : s ≡ moved w.state (w.state.frame - 1) x.place = rw j es in
            record { answer = refl; left = λ t. record { a = (l t).a; b = (l t).b; map = (l t).map; state = m t } }
        go (fault m) i l = never (cc)

-- a step back that is taken: the state is within the limits, and what the record restores is put back
pub record TookBack (w : World) (bytes : List ℕ) (o : After) : Type 0 where
  pub past : Past
  pub frame_least : 1 ≤ w.state.frame
  pub restores : restored_in w bytes ≡ ok past
  pub world : o.world ≡ with_shown w past.picture past.map (moved w.state (w.state.frame - 1) past.place)

pub took_back_lem : (w : World) (bytes : List ℕ) → (step_back w bytes).answer ≡ took_back → TookBack w bytes (step_back w bytes)
unfolding step_back retreat settle_back
took_back_lem w bytes = go (step_length w.state (length w.a) (length w.b) (length w.map)) (restored_in w bytes) (step_sound w.state (length w.a) (length w.b) (length w.map)) refl
  where
    go : (s : Res ℕ) (q : Res Past) → Each (SoundStep w.state (length w.a) (length w.b) (length w.map)) s → restored_in w bytes ≡ q
        → (settle_back w (s >>= λ _. q)).answer ≡ took_back → TookBack w bytes (settle_back w (s >>= λ _. q))
    go (ok n) (ok p) (each k) e h = record { past = p; frame_least = k.lent.state.frame_least; restores = e; world = refl }
    go (ok n) (fault m) k e h = never (cc)
    go (fault n) q k e h = never (cc)
