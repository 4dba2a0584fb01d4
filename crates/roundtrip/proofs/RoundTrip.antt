-- Demand 2's last sentence: the delta that is written for two pictures turns the first into the second, whatever they hold.
use Prim.Native.Nat.{ℕ}
use mathlib.Core.List.{List}
use mathlib.Core.Path.{◌≡◌, refl, ap}
use lib.ListN.{length}
use borrow.Author.Tests.{eq-eqb}
use Rattle.laws.specs.Result.{Res.ok, ◌>>=◌}
use Rattle.laws.proofs.ResultLaws.{each_is}
use Rattle.state.specs.declared.Sizes.{Sizes}
use Rattle.state.specs.State.{frame_length, Sound}
use Rattle.state.proofs.StateLaws.{sizes_sound}
use Rattle.writer.specs.Write.{delta_bytes}
use Rattle.delta.specs.Reading.{shape_of}
use Rattle.delta.specs.Delta.{read_delta, draw, new_frame, read_frame}
use Rattle.anhd.specs.declared.Items.TheVariants.{Bytes}
use Rattle.roundtrip.proofs.DeltaLaws.{delta_reads}

-- the ops of a delta that is written turn the old picture into the new one
pub delta_turns : (z : Sizes) (n : ℕ) (old new : List ℕ) → Sound z n → length old ≡ n → length new ≡ n
    → (read_delta (shape_of z Bytes) (delta_bytes old new z) >>= λ ops. ok (draw (shape_of z Bytes) (delta_bytes old new z) ops old)) ≡ ok new
delta_turns z n old new b lo ln = let w = delta_reads z n old new b lo ln in rw w.reads (ap (λ (l : List ℕ). ok l) w.makes.drawn)

-- the frame that the written delta makes of the old picture is the new one
pub written_turns : (z : Sizes) (n : ℕ) (old new : List ℕ) → frame_length z ≡ ok n → length old ≡ n → length new ≡ n → new_frame n old (delta_bytes old new z) z Bytes ≡ ok new
unfolding new_frame read_frame
written_turns z n old new e lo ln = rw (e, eq-eqb (length old) n lo, eq-eqb n n refl) (delta_turns z n old new (each_is e (sizes_sound z)) lo ln)
