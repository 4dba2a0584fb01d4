-- No Uniq and no Same of none is among the ops of a delta that is written (document 02, E4).
use Prim.Native.Nat.{ℕ}
use mathlib.Core.List.{List}
use mathlib.Core.Path.{◌≡◌}
use lib.ListN.{length}
use Rattle.laws.specs.Result.{Res.ok}
use Rattle.laws.specs.Every.{Every}
use Rattle.laws.proofs.ResultLaws.{each_is}
use Rattle.state.specs.declared.Sizes.{Sizes}
use Rattle.state.specs.State.{frame_length}
use Rattle.state.proofs.StateLaws.{sizes_sound}
use Rattle.writer.specs.Write.{delta_bytes}
use Rattle.delta.specs.Reading.{Op, shape_of}
use Rattle.delta.specs.Delta.{read_delta}
use Rattle.delta.specs.None.{HasRows}
use Rattle.anhd.specs.declared.Items.TheVariants.{Bytes}
use Rattle.roundtrip.proofs.DeltaLaws.{delta_reads}

pub never_none : (z : Sizes) (n : ℕ) (old new : List ℕ) → frame_length z ≡ ok n → length old ≡ n → length new ≡ n
    → (ops : List Op) × (read_delta (shape_of z Bytes) (delta_bytes old new z) ≡ ok ops) × Every HasRows ops
never_none z n old new e lo ln = let w = delta_reads z n old new (each_is e (sizes_sound z)) lo ln in (w.ops, w.reads, w.makes.rows)
