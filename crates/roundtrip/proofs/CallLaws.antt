-- What a call of `writer::write` that met its contract wrote: a delta of two pictures within the limits.
use Prim.Native.Nat.{ℕ}
use mathlib.Core.List.{List, ◌++◌}
use mathlib.Core.Path.{◌≡◌, refl, sym, ap, ◌∙◌}
use lib.Dec.{leb, eqb}
use lib.ListN.{length, take, drop}
use lib.Seq.{take-append_seam}
use borrow.Author.Tests.{eqb-true}
use Rattle.laws.specs.Result.{Res.ok}
use Rattle.laws.proofs.ResultLaws.{Each, Each.each, each_self, each_bind, each_need, each_is}
use Rattle.state.specs.declared.Sizes.{Sizes}
use Rattle.state.specs.State.{frame_length}
use Rattle.anhd.specs.declared.Items.TheVariants.{Bytes}
use Rattle.delta.specs.Delta.{new_frame}
use Rattle.writer.specs.Write.{delta_bytes, written, buffer_after, Writes}
use Rattle.roundtrip.proofs.RoundTrip.{written_turns}

-- a delta of k bytes that can be written: the sizes are within the limits, and both pictures have a frame's length
pub record Measured (z : Sizes) (old new : List ℕ) (k : ℕ) : Type 0 where
  pub size : k ≡ length (delta_bytes old new z)
  pub sizes : frame_length z ≡ ok (length old)
  pub same : length new ≡ length old

written_whole : (z : Sizes) (old new : List ℕ) (room : ℕ) → Each (Measured z old new) (written room old new z)
unfolding written
written_whole z old new room =
    each_bind (each_self (frame_length z)) λ n e.
    each_need (eqb (length old) n) 12 _ λ o. each_need (eqb (length new) n) 12 _ λ w. each_need (leb (length (delta_bytes old new z)) room) 51 _ λ _.
    let l : length old ≡ n = eqb-true (length old) n o in
    each (record { size = refl; sizes = e ∙ rw l; same = eqb-true (length new) n w ∙ sym l })

module _ (z : Sizes) (old new out : List ℕ) (n : ℕ) (out' : List ℕ) (m : Writes out old new z (ok n) out') where
  pub delta_written : Measured z old new n
  delta_written = each_is (sym m.answers) (written_whole z old new (length out))

  -- the first n bytes of the output buffer are the delta
  pub delta_stands : take n out' ≡ delta_bytes old new z
  delta_stands =
      let e : out' ≡ delta_bytes old new z ++ drop (length (delta_bytes old new z)) out = m.leaves ∙ ap (buffer_after (delta_bytes old new z) out) (sym m.answers) in
      rw (delta_written.size, e) (take-append_seam (delta_bytes old new z) (drop (length (delta_bytes old new z)) out))

  pub new_made : new_frame (length old) old (take n out') z Bytes ≡ ok new
  new_made = rw delta_stands (written_turns z (length old) old new delta_written.sizes refl delta_written.same)
