-- Demand 2, of a first picture that is given as a delta: where the papers have no other refusal the delta is taken exactly when it is well
-- formed to its last needed byte, both pictures become what it makes of an all-zero one, and the map gets the frame's colours. The delta
-- that is written for an all-zero picture and another one opens as the other one.
use Prim.Native.Nat.{ℕ}
use mathlib.Core.List.{List}
use mathlib.Core.Path.{◌≡◌, refl, ap, ◌∙◌}
use lib.ListN.{length, take, replicate}
use Rattle.laws.specs.Result.{Res.ok, Res.fault}
use Rattle.refusal.specs.Number.{result_of}
use Rattle.state.specs.State.{frame_bytes, zeros}
use Rattle.state.specs.World.{World}
use Rattle.bmhd.specs.declared.Header.{Header}
use Rattle.anhd.specs.declared.FrameHeader.{FrameHeader}
use Rattle.anhd.specs.declared.Items.TheVariants.{Bytes}
use Rattle.colours.specs.Colours.{unset, coloured}
use Rattle.delta.specs.Reading.{Op}
use Rattle.writer.specs.Write.{Writes}
use Rattle.roundtrip.proofs.Calls.{delta_makes}
use Rattle.opening.specs.declared.OpenedFile.{OpenedFile}
use Rattle.opening.specs.Open.{Places, film_of, opening, Opens, MeetsOpen}
use Rattle.model.specs.Demands.{first_cmap, FreeFirst, first_dlta, first_ops, first_new, OpensAt}
use Rattle.model.proofs.Demand2FirstLaws.{free_opening}

module _ (file a b map : List ℕ) (r : OpenedFile) (a' b' map' : List ℕ) (m : MeetsOpen file a b map r (record { a = a'; b = b'; map = map'; state = r.state })) (p : Places) (z : Header) (h : FrameHeader)
    (f : FreeFirst file (length a) (length b) (length map) p z h) where
  pub demand_2_first_refused : (n : ℕ) → first_ops file p z h ≡ fault n → (result_of r.answer ≡ fault n) × (r.state ≡ zeros) × (a' ≡ a) × (b' ≡ b) × (map' ≡ map)
  demand_2_first_refused n e =
      let q : opening file (length a) (length b) (length map) ≡ fault n = free_opening file (length a) (length b) (length map) p z h f ∙ rw e refl in
      let o : Opens (fault n) a b map r (record { a = a'; b = b'; map = map'; state = r.state }) = rw q at m in
      (o.answer, ap (λ (w : World). w.state) o.left, ap (λ (w : World). w.a) o.left, ap (λ (w : World). w.b) o.left, ap (λ (w : World). w.map) o.left)

  pub demand_2_first_taken : (ops : List Op) → first_ops file p z h ≡ ok ops → OpensAt file p z.sizes (first_new file p z h ops) (result_of r.answer) r.state a' b' map'
  demand_2_first_taken ops e =
      let F = film_of file p.end p.form.next (record { sizes = z.sizes; picture = first_new file p z h ops; map = coloured unset (first_cmap file p) }) in
      let q : opening file (length a) (length b) (length map) ≡ ok F = free_opening file (length a) (length b) (length map) p z h f ∙ rw e refl in
      let o : Opens (ok F) a b map r (record { a = a'; b = b'; map = map'; state = r.state }) = rw q at m in
      record { answer = o.answer; state = ap (λ (w : World). w.state) o.left; left = ap (λ (w : World). w.a) o.left; right = ap (λ (w : World). w.b) o.left; colours = ap (λ (w : World). w.map) o.left }

  -- a delta that `writer::write` wrote for an all-zero picture and a new one opens as the new one
  pub demand_2_first_written : (new out out' : List ℕ) (n : ℕ) → Writes out (replicate (frame_bytes z.sizes) 0) new z.sizes (ok n) out' → h.items ≡ Bytes → first_dlta file p ≡ take n out'
      → OpensAt file p z.sizes new (result_of r.answer) r.state a' b' map'
  demand_2_first_written new out out' n g i d =
      let t = delta_makes z.sizes (replicate (frame_bytes z.sizes) 0) new out n out' g in
      let e : first_ops file p z h ≡ ok t.0 = rw (i, d) t.1 in
      let j : first_new file p z h t.0 ≡ new = rw (i, d) t.2 in
      rw j at (demand_2_first_taken t.0 e)
