-- Demand 2: where the papers have no other refusal, a delta is taken exactly when it is well formed to its last needed byte; the hidden
-- picture becomes the one that the ANIM rules define, by the frame's own interleave, the shown one doesn't change, and the map gets the
-- frame's colours. The delta that is written for two pictures turns the first into the second.
use Prim.Native.Nat.{ℕ, ◌<◌, ◌≤◌}
use mathlib.Core.List.{List, ◌++◌}
use mathlib.Core.Path.{◌≡◌, ap, ◌∙◌}
use lib.ListN.{length, take, drop}
use Rattle.laws.specs.Result.{Res.ok, Res.fault}
use Rattle.anhd.specs.declared.Items.TheVariants.{Bytes}
use Rattle.delta.specs.Reading.{Op}
use Rattle.writer.specs.Write.{Writes}
use Rattle.roundtrip.proofs.Calls.{delta_makes}
use Rattle.frame.specs.Frame.{Frame}
use Rattle.step_on.specs.declared.SteppedOn.{SteppedOn}
use Rattle.state.specs.World.{World, shown_in, hidden_in, with_hidden}
use Rattle.state.specs.After.{Answer.refused, After, lent, work_after, lent_after}
use Rattle.step_on.specs.Step.{step_on, on_of, MeetsOn}
use Rattle.step_on.proofs.CaseLaws.{step_to}
use Rattle.model.specs.Demands.{Free, delta_ops, basis_of, new_of, record_to, Takes}
use Rattle.model.proofs.Laws.{on_world, on_work, on_rec}
use Rattle.model.proofs.Demand2Laws.{malformed, built_by, taken, shown_new, shown_kept, unfit}

-- demand 2, of a step on that met its contract
module _ (file : List ℕ) (w : World) (work rec : List ℕ) (r : SteppedOn) (a b map work' rec' : List ℕ) (m : MeetsOn file (record { world = w; work = work; rec = rec }) r (lent a b map r.state work' rec'))
    (x : Frame) (f : Free file w (length work) x) where
  pub demand_2_refused : (n : ℕ) → delta_ops w x ≡ fault n → (on_of r.answer ≡ refused n) × (lent a b map r.state work' rec' ≡ record { world = w; work = work; rec = rec })
  unfolding lent_after
  demand_2_refused n e =
      let g = malformed file w (length work) (length rec) x n f e in
      (m.answer ∙ ap (λ (o : After). o.answer) g, m.left ∙ ap (lent_after (record { world = w; work = work; rec = rec })) g)

  pub demand_2_taken : (ops : List Op) → delta_ops w x ≡ ok ops → length (record_to w x (new_of w x ops)) ≤ length rec → Takes w rec x ops (new_of w x ops) (on_of r.answer) (lent a b map r.state work' rec')
  unfolding with_hidden
  demand_2_taken ops e h =
      let g : step_on file w (length work) (length rec) ≡ step_to w (built_by w x ops) = taken file w (length work) (length rec) x ops f e h in
      let k = on_world m ∙ ap (λ (o : After). o.world) g in
      record {
        answer = m.answer ∙ ap (λ (o : After). o.answer) g;
        state = ap (λ (v : World). v.state) k;
        shown = ap shown_in k ∙ shown_new w (built_by w x ops);
        hidden = ap hidden_in k ∙ shown_kept w (built_by w x ops);
        colours = ap (λ (v : World). v.map) k;
        drawn = on_work m ∙ ap (λ (o : After). work_after work o.work) g;
        written = on_rec m ∙ ap (λ (o : After). o.bytes ++ drop (length o.bytes) rec) g;
      }

  -- one whose record doesn't fit is refused with 51, and leaves the new picture in the work buffer
  pub demand_2_no_room : (ops : List Op) → delta_ops w x ≡ ok ops → length rec < length (record_to w x (new_of w x ops)) → (on_of r.answer ≡ refused 51) × (work' ≡ new_of w x ops)
  demand_2_no_room ops e h =
      let g = unfit file w (length work) (length rec) x ops f e h in
      (m.answer ∙ ap (λ (o : After). o.answer) g, on_work m ∙ ap (λ (o : After). work_after work o.work) g)

  -- a delta that `writer::write` wrote for the picture that the frame builds on and a new one leads to the new one
  pub demand_2_written : (new out out' : List ℕ) (n : ℕ) → Writes out (basis_of w x) new w.state.sizes (ok n) out' → x.header.items ≡ Bytes → x.dlta ≡ take n out'
      → length (record_to w x new) ≤ length rec → (ops : List Op) × (delta_ops w x ≡ ok ops) × Takes w rec x ops new (on_of r.answer) (lent a b map r.state work' rec')
  demand_2_written new out out' n g j d h =
      let t = delta_makes w.state.sizes (basis_of w x) new out n out' g in
      let e : delta_ops w x ≡ ok t.0 = rw (j, d) t.1 in
      let i : new_of w x t.0 ≡ new = rw (j, d) t.2 in
      (t.0, e, rw i at (demand_2_taken t.0 e (rw i h)))
