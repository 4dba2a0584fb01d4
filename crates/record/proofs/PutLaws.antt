-- A number that fits is put into a buffer.
use Prim.Native.Nat.{ℕ, ◌+◌, ◌≤◌}
use mathlib.Core.List.{List}
use mathlib.Core.Option.{some}
use mathlib.Core.Path.{◌≡◌, refl, sym, ap, ◌∙◌}
use lib.ListN.{length}
use lib.Seq.{sets}
use Rattle.laws.proofs.ResultLaws.{none_some, some_same}
use Rattle.number.specs.Number.{after, laid, written_of}
use Rattle.number.proofs.NumberLaws.{fitting}
use Rattle.std.specs.Prelude.{Option as Answer, Some, None, IsSome}
use Rattle.std.proofs.Common.{rules}
use Rattle.laws.specs.Put.{Put}
use Rattle.laws.proofs.PutLaws.{put_is}

-- a number that fits is written
module _ (out : List ℕ) (at : ℕ) (bytes out' : List ℕ) (r : Answer ℕ) (h : at + length bytes ≤ length out) (w : (written_of r ≡ after out at bytes) × (out' ≡ laid out at bytes)) where
  fits : (some (at + length bytes) ≡ after out at bytes) × (sets out at bytes ≡ laid out at bytes)
  fits = fitting out at bytes h (refl, refl)

  pub put_next : (next : ℕ) → r ≡ Some next → Put out at bytes out' next
  put_next next e = put_is (some_same (sym (ap written_of e) ∙ w.0 ∙ sym fits.0)) (w.1 ∙ sym fits.1)

  pub put_some : IsSome r
  put_some = go r (w.0 ∙ sym fits.0)
    where
      go : (r : Answer ℕ) → written_of r ≡ some (at + length bytes) → IsSome r
      go (Some next) e = search rules
      go None e = none_some e
