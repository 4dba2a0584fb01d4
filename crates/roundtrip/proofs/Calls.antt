-- Demand 2's last sentence, of calls: where `writer::write` met its contract and there was room, the delta that it wrote, applied to the old
-- picture by a `delta::apply` that met its contract, gives the new one; and no Uniq or Same of none is in it.
use Prim.Native.Nat.{ℕ, ◌≤◌}
use mathlib.Core.List.{List}
use mathlib.Core.Path.{◌≡◌, refl, ap, ◌∙◌}
use lib.ListN.{length, take}
use Rattle.laws.specs.Every.{Every}
use Rattle.laws.specs.Result.{Res, Res.ok, answer, or_keep}
use Rattle.laws.proofs.ResultLaws.{each_is, made_of}
use Rattle.state.specs.declared.Sizes.{Sizes}
use Rattle.state.specs.State.{frame_length}
use Rattle.state.proofs.StateLaws.{sizes_sound}
use Rattle.anhd.specs.declared.Items.TheVariants.{Bytes}
use Rattle.delta.specs.Reading.{Op, shape_of}
use Rattle.delta.specs.Delta.{read_delta, draw, new_frame, Applies}
use Rattle.delta.proofs.DeltaLaws.{same_answer}
use Rattle.delta.specs.None.{HasRows}
use Rattle.writer.specs.Write.{delta_bytes, Writes}
use Rattle.writer.proofs.WriteLaws.{written_whole}
use Rattle.roundtrip.proofs.RoundTrip.{delta_turns}
use Rattle.roundtrip.proofs.NeverNone.{never_none}
use Rattle.roundtrip.proofs.CallLaws.{delta_written, delta_stands, new_made}

-- where there is room it is written
pub written_fits : (z : Sizes) (old new out : List ℕ) (x : Res ℕ) (out' : List ℕ) → Writes out old new z x out' → frame_length z ≡ ok (length old) → length new ≡ length old
    → length (delta_bytes old new z) ≤ length out → x ≡ ok (length (delta_bytes old new z))
written_fits z old new out x out' m e w h = m.answers ∙ written_whole (length out) old new z e refl w h

module _ (z : Sizes) (old new out : List ℕ) (n : ℕ) (out' : List ℕ) (m : Writes out old new z (ok n) out') where
  -- the ops of the first n bytes of the output buffer make the new picture of the old one
  pub delta_makes : (ops : List Op) × (read_delta (shape_of z Bytes) (take n out') ≡ ok ops) × (draw (shape_of z Bytes) (take n out') ops old ≡ new)
  delta_makes =
      rw (delta_stands z old new out n out' m)
      (made_of (read_delta (shape_of z Bytes) (delta_bytes old new z)) (delta_turns z (length old) old new (each_is (delta_written z old new out n out' m).sizes (sizes_sound z)) refl (delta_written z old new out n out' m).same))

  -- and so does a call that applies them to the old one
  pub applied_new : (work : List ℕ) (x : Res ℕ) (work' : List ℕ) → length work ≡ length old → Applies work old (take n out') z Bytes x work' → (answer x ≡ ok tt) × (work' ≡ new)
  applied_new work x work' l p =
      let e : new_frame (length work) old (take n out') z Bytes ≡ ok new = rw l (new_made z old new out n out' m) in
      (ap answer p.counts ∙ same_answer z Bytes (take n out') old (length work) ∙ ap answer e, p.leaves ∙ ap (or_keep work) e)

  -- no Uniq and no Same of none is among the ops of the delta
  pub never_none_written : (ops : List Op) × (read_delta (shape_of z Bytes) (take n out') ≡ ok ops) × Every HasRows ops
  never_none_written = rw (delta_stands z old new out n out' m) (never_none z (length old) old new (delta_written z old new out n out' m).sizes refl (delta_written z old new out n out' m).same)
