-- Laws of stepping on: what looking ahead leaves in the work buffer, and what the step to a frame leaves.
use Prim.Native.Nat.{ℕ, suc}
use mathlib.Core.Bool.{true, false}
use mathlib.Core.List.{List}
use mathlib.Core.Option.{none, some}
use mathlib.Core.Path.{◌≡◌, refl, sym, ap, ◌∙◌}
use lib.Dec.{leb, eqb}
use lib.ListN.{length, take, drop}
use borrow.Author.Tests.{eq-eqb, le-leb}
use Rattle.laws.specs.Result.{Res, Res.ok, Res.fault, ◌>>=◌, need, leaves}
use Rattle.laws.proofs.ResultLaws.{Each, Each.each, each_any, each_is, each_bind, each_map, each_self, pick_both, never}
use Rattle.refusal.specs.Number.{number_of}
use Rattle.refusal.specs.declared.Refusal.{Refusal}
use Rattle.state.specs.declared.Sizes.{Sizes}
use Rattle.state.specs.declared.State.{State}
use Rattle.state.specs.State.{row_bytes, moved}
use Rattle.state.specs.World.{World, is_odd, shown_in, hidden_in, with_hidden}
use Rattle.state.specs.After.{Lent, lent, After, lent_after}
use Rattle.anhd.specs.Anhd.{columns_ok}
use Rattle.delta.specs.Reading.{shape_of}
use Rattle.delta.specs.Delta.{read_delta, read_frame, Applies}
use Rattle.delta.proofs.ApplyLaws.{frame_delta, read_refused, drawn_ops, new_refused}
use Rattle.frame.specs.Frame.{Frame, frame_at}
use Rattle.frame.proofs.FrameLaws.{frame_columns}
use Rattle.colours.specs.Colours.{MAP, coloured}
use Rattle.record.specs.Record.{Measure, measure, written, Commits}
use Rattle.step_on.specs.declared.Ahead.{Ahead}
use Rattle.std.specs.Prelude.{Result, Ok, Err, Some, None}
use Rattle.std.specs.Prelude as Lib
use Rattle.step_on.specs.declared.SteppedOn.{SteppedOn}
use Rattle.step_on.specs.Step.{ready, basis, change, Built, build, look, look_ahead, record_of, commit, settle, step_on, Looks, LeavesOn, MeetsOn}
use Rattle.step_on.specs.Parts.{Fits, pictures_after, CommitsHidden}
use Rattle.step_on.proofs.ReadyLaws.{Passed, ready_passed}
use Rattle.step_on.proofs.CaseLaws.{commit_case}

-- what is built has the frame's next place
pub change_next : (z : Sizes) (x : Frame) (shown hidden : List ℕ) → Each (λ (y : Built). y.next ≡ x.next) (change z x shown hidden)
unfolding change
change_next z x shown hidden = each_any (read_delta (shape_of z x.header.items) x.dlta) λ ops. each refl

-- building frame x
module _ (s : State) (x : Frame) (shown hidden work : List ℕ) (j : Fits s (length shown) (length work)) (k : Fits s (length hidden) (length work)) (c : columns_ok x.header.items (row_bytes s.sizes.width) ≡ true) where
  basis_length : length (basis x.header shown hidden) ≡ length hidden
  basis_length = pick_both (λ (f : List ℕ). length f ≡ length hidden) (eqb x.header.interleave 1) (sym j.same ∙ k.same) refl

  -- the delta is read for these buffers
  read_is : read_delta (shape_of s.sizes x.header.items) x.dlta ≡ read_frame (length work) (length (basis x.header shown hidden)) x.dlta s.sizes x.header.items
  read_is = sym (frame_delta s.sizes x.header.items x.dlta (length (basis x.header shown hidden)) (length work) k.sizes basis_length k.same c)

  module _ {anim work' : List ℕ} where
    build_refused : {why : Refusal} → Applies work (basis x.header shown hidden) x.dlta s.sizes x.header.items (fault (number_of why)) work'
        → Looks anim (build s.sizes shown hidden (some x)) work (Err why) work'
    unfolding change
    build_refused p = rw (read_is, read_refused p) (record { answer = refl; drawn = p.leaves ∙ rw (new_refused p) })

    build_drawn : {n : ℕ} (y : Ahead) → y.next ≡ x.next → y.header ≡ x.header → y.ops ≡ n → take y.cmap.len (drop y.cmap.start anim) ≡ x.cmap → Applies work (basis x.header shown hidden) x.dlta s.sizes x.header.items (ok n) work'
        → Looks anim (build s.sizes shown hidden (some x)) work (Ok (Some y)) work'
    unfolding change
    build_drawn y en eh eo ec p =
        let k = drawn_ops p in
        rw (read_is, k.1) (record { answer = λ j. ok (some (record { picture = k.3 j; next = en j; header = eh j; ops = (eo ∙ k.2) j; cmap = ec j })); drawn = k.3 })

-- the next frame of FORM ANIM
module _ (anim : List ℕ) (s : State) (shown hidden work : List ℕ) where
  pub look_refused : {why : Refusal} → frame_at anim s.next (row_bytes s.sizes.width) ≡ fault (number_of why) → Looks anim (look anim s shown hidden) work (Err why) work
  unfolding look
  look_refused e = rw e (record { answer = refl; drawn = refl })

  pub look_ended : frame_at anim s.next (row_bytes s.sizes.width) ≡ ok none → Looks anim (look anim s shown hidden) work (Ok None) work
  unfolding look
  look_ended e = rw e (record { answer = refl; drawn = refl })

  module _ (j : Fits s (length shown) (length work)) (k : Fits s (length hidden) (length work)) {x : Frame} {work' : List ℕ} (e : frame_at anim s.next (row_bytes s.sizes.width) ≡ ok (some x)) where
    pub look_unbuilt : {why : Refusal} → Applies work (basis x.header shown hidden) x.dlta s.sizes x.header.items (fault (number_of why)) work' → Looks anim (look anim s shown hidden) work (Err why) work'
    unfolding look
    look_unbuilt p = rw e (build_refused s x shown hidden work j k (frame_columns anim (row_bytes s.sizes.width) s.next x e) p)

    pub look_built : {n : ℕ} (y : Ahead) → y.next ≡ x.next → y.header ≡ x.header → y.ops ≡ n → take y.cmap.len (drop y.cmap.start anim) ≡ x.cmap → Applies work (basis x.header shown hidden) x.dlta s.sizes x.header.items (ok n) work'
        → Looks anim (look anim s shown hidden) work (Ok (Some y)) work'
    unfolding look
    look_built y en eh eo ec p = rw e (build_drawn s x shown hidden work j k (frame_columns anim (row_bytes s.sizes.width) s.next x e) y en eh eo ec p)

-- what lies ahead
module _ (file : List ℕ) (w : World) (work : List ℕ) where
  abbrev tested : Res (Unit {0})
  tested = ready (length file) w.state (length w.a) (length w.b) (length w.map) (length work)

  abbrev anim : List ℕ
  anim = take w.state.end file

  pub ahead_refused : {why : Refusal} → tested ≡ fault (number_of why) → Looks anim (look_ahead file w (length work)) work (Err why) work
  unfolding look_ahead
  ahead_refused e = rw e (record { answer = refl; drawn = refl })

  module _ {r : Result (Lib.Option Ahead) Refusal} {work' : List ℕ} (e : tested ≡ ok tt) where
    pub ahead_odd : is_odd w.state.frame ≡ true → Looks anim (look anim w.state w.a w.b) work r work' → Looks anim (look_ahead file w (length work)) work r work'
    unfolding look_ahead shown_in hidden_in
    ahead_odd h q = rw (e, h) q

    pub ahead_even : is_odd w.state.frame ≡ false → Looks anim (look anim w.state w.b w.a) work r work' → Looks anim (look_ahead file w (length work)) work r work'
    unfolding look_ahead shown_in hidden_in
    ahead_even h q = rw (e, h) q

-- a frame lies ahead only if the tests passed
pub ahead_passed : (file : List ℕ) (w : World) (work : ℕ) → Each (λ _. Passed (length file) w.state (length w.a) (length w.b) (length w.map) work) (look_ahead file w work)
unfolding look_ahead
ahead_passed file w work =
    each_bind (ready_passed (length file) w.state (length w.a) (length w.b) (length w.map) work) λ t p.
    each_map (λ o q. p) (each_self (look (take w.state.end file) w.state (shown_in w) (hidden_in w)))

pub ahead_fits : (file : List ℕ) (w : World) (work : List ℕ) {x : Ahead} {anim work' : List ℕ}
    → Looks anim (look_ahead file w (length work)) work (Ok (Some x)) work' → length work ≡ length work'
    → Fits w.state (length w.a) (length work') × Fits w.state (length w.b) (length work') × (length w.map ≡ MAP)
ahead_fits file w work k l = let p = each_is (sym k.answer) (ahead_passed file w (length work)) in (rw l at p.on_a, rw l at p.on_b, p.map_long)

-- where A and B fit, so does the hidden picture
pub hidden_fits : (w : World) {work : ℕ} → Fits w.state (length w.a) work → Fits w.state (length w.b) work → Fits w.state (length (hidden_in w)) work
unfolding hidden_in
hidden_fits w {work} j k = pick_both (λ (f : List ℕ). Fits w.state (length f) work) (is_odd w.state.frame) k j

module _ (w : World) (f cmap rec : List ℕ) {q : Res Measure} {rec' p m : List ℕ} {n : ℕ} (en : n ≡ suc w.state.frame) where
  pub hidden_odd : is_odd w.state.frame ≡ true → Commits rec n w.state.next w.b f w.map cmap q rec' p m → CommitsHidden w f cmap rec q w.a p m rec'
  unfolding hidden_in
  hidden_odd h c = record { answer = rw h (rw en at c.answer); bytes = rw h (rw en at c.bytes); pictures = go q c.picture c.colours }
    where
      go : (q : Res Measure) → p ≡ leaves w.b (λ _. f) q → m ≡ leaves w.map (λ _. coloured w.map cmap) q → ◌≡◌ {A = World} (record { a = w.a; b = p; map = m; state = w.state }) (pictures_after w f cmap q)
      go (ok _) e d = unfold with_hidden in rw (h, e, d)
      go (fault _) e d = rw (e, d)

  pub hidden_even : is_odd w.state.frame ≡ false → Commits rec n w.state.next w.a f w.map cmap q rec' p m → CommitsHidden w f cmap rec q p w.b m rec'
  unfolding hidden_in
  hidden_even h c = record { answer = rw h (rw en at c.answer); bytes = rw h (rw en at c.bytes); pictures = go q c.picture c.colours }
    where
      go : (q : Res Measure) → p ≡ leaves w.a (λ _. f) q → m ≡ leaves w.map (λ _. coloured w.map cmap) q → ◌≡◌ {A = World} (record { a = p; b = w.b; map = m; state = w.state }) (pictures_after w f cmap q)
      go (ok _) e d = unfold with_hidden in rw (h, e, d)
      go (fault _) e d = rw (e, d)

-- what is lent with f in the work buffer
abbrev pub lent_with : World → List ℕ → List ℕ → Lent
lent_with w rec f = record { world = w; work = f; rec = rec }

-- the step to a frame that was built
module _ (w : World) (x : Built) (rec : List ℕ) (j : Fits w.state (length w.a) (length x.picture)) (k : Fits w.state (length w.b) (length x.picture)) (m : length w.map ≡ MAP) where
  bytes : List ℕ
  bytes = record_of w x.picture x.cmap

  measured : Measure
  measured = measure (suc w.state.frame) w.state.next (hidden_in w) x.picture w.map (coloured w.map x.cmap)

  writes : ℕ → Res Measure
  writes room = written room (suc w.state.frame) w.state.next (hidden_in w) x.picture w.map x.cmap

  writes_is : (room : ℕ) → writes room ≡ (need (leb (length bytes) room) 51 >>= λ _. ok measured)
  unfolding written writes bytes measured
  writes_is room =
      let h = hidden_fits w j k in
      simp (eq-eqb (length (hidden_in w)) (length x.picture) (sym h.same), le-leb (length (hidden_in w)) 1_048_576 h.short, eq-eqb (length w.map) MAP m)

  module _ {a b map rec' : List ℕ} where
    pub commit_unfit : {why : Refusal} → CommitsHidden w x.picture x.cmap rec (fault (number_of why)) a b map rec'
        → LeavesOn (commit w (length rec) x) (lent_with w rec x.picture) (record { answer = Err why; state = w.state }) (lent a b map w.state x.picture rec')
    unfolding writes bytes commit lent_after
    commit_unfit {why} c =
        let e : writes (length rec) ≡ fault (number_of why) = sym c.answer in
        commit_case (λ (o : After). LeavesOn o (lent_with w rec x.picture) (record { answer = Err why; state = w.state }) (lent a b map w.state x.picture rec')) w (length rec) x
        (λ q. let v : writes (length rec) ≡ ok measured = writes_is (length rec) ∙ rw q in never (cc))
        (λ q.
        let v : writes (length rec) ≡ fault 51 = writes_is (length rec) ∙ rw q in
        let n : number_of why ≡ 51 = cc in
        record { answer = rw n; left = λ i. record { world = c.pictures i; work = x.picture; rec = c.bytes i } })

    pub commit_fit : {size count : ℕ} {s : State} → CommitsHidden w x.picture x.cmap rec (ok (record { length = size; changed = count })) a b map rec' → s ≡ moved w.state (suc w.state.frame) x.next
        → LeavesOn (commit w (length rec) x) (lent_with w rec x.picture)
        (record { answer = Ok (Some (record { method = x.header.method; time = x.header.time; changed = count; record_length = size; ops = x.ops })); state = s }) (lent a b map s x.picture rec')
    unfolding writes bytes measured commit lent_after measure with_hidden
    commit_fit {size} {count} {s} c es =
        let e : writes (length rec) ≡ ok (record { length = size; changed = count }) = sym c.answer in
        commit_case (λ (o : After). LeavesOn o (lent_with w rec x.picture)
        (record { answer = Ok (Some (record { method = x.header.method; time = x.header.time; changed = count; record_length = size; ops = x.ops })); state = s }) (lent a b map s x.picture rec')) w (length rec) x
        (λ q.
        let v : writes (length rec) ≡ ok measured = writes_is (length rec) ∙ rw q in
        let n : record { length = size; changed = count } ≡ measured = cc in
        let l = ap (λ (g : Measure). g.length) n in
        let d = ap (λ (g : Measure). g.changed) n in
        record { answer = rw (l, d); left = λ i. record { world = record { a = (c.pictures i).a; b = (c.pictures i).b; map = (c.pictures i).map; state = es i }; work = x.picture; rec = c.bytes i } })
        (λ q. let v : writes (length rec) ≡ fault 51 = writes_is (length rec) ∙ rw q in never (cc))

-- stepping on from a file
module _ (file : List ℕ) (w : World) (work rec : List ℕ) {anim work' : List ℕ} where
  pub on_refused : {why : Refusal} → Looks anim (look_ahead file w (length work)) work (Err why) work' → MeetsOn file (lent_with w rec work) (record { answer = Err why; state = w.state }) (lent_with w rec work')
  unfolding step_on settle lent_after
  on_refused {why} k =
      let e : look_ahead file w (length work) ≡ fault (number_of why) = sym k.answer in
      let d : work' ≡ work = rw e at k.drawn in
      rw e (record { answer = refl; left = ap (lent_with w rec) d })

  pub on_ended : Looks anim (look_ahead file w (length work)) work (Ok None) work' → MeetsOn file (lent_with w rec work) (record { answer = Ok None; state = w.state }) (lent_with w rec work')
  unfolding step_on settle lent_after
  on_ended k =
      let e : look_ahead file w (length work) ≡ ok none = sym k.answer in
      let d : work' ≡ work = rw e at k.drawn in
      rw e (record { answer = refl; left = ap (lent_with w rec) d })

  pub on_built : {x : Ahead} {cmap : List ℕ} {r : SteppedOn} {l : Lent} → Looks anim (look_ahead file w (length work)) work (Ok (Some x)) work'
      → cmap ≡ take x.cmap.len (drop x.cmap.start anim)
      → LeavesOn (commit w (length rec) (record { picture = work'; next = x.next; header = x.header; ops = x.ops; cmap = cmap })) (lent_with w rec work') r l
      → MeetsOn file (lent_with w rec work) r l
  unfolding step_on settle
  on_built {x} {cmap} k e c =
      rw (sym k.answer, ← e) (record {
        answer = c.answer;
        left = c.left ∙ commit_case (λ (o : After). lent_after (lent_with w rec work') o ≡ lent_after (lent_with w rec work) o) w (length rec)
            (record { picture = work'; next = x.next; header = x.header; ops = x.ops; cmap = cmap }) (λ _. unfold lent_after in refl) (λ _. unfold lent_after in refl);
      })
