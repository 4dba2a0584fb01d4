-- The length that a header gives is that of a frame of its sizes.
use Prim.Native.Nat.{ℕ}
use mathlib.Core.Bool.{not}
use mathlib.Core.List.{List}
use mathlib.Core.Path.{◌≡◌, refl}
use lib.Dec.{leb, eqb}
use lib.ListN.{length, get_or}
use Rattle.laws.specs.Result.{Res, Res.ok, Res.fault}
use Rattle.laws.proofs.ResultLaws.{Each, Each.each, Each.no_value, each_bind, each_need}
use Rattle.state.specs.State.{frame_length}
use Rattle.bmhd.specs.Header.{sizes_at, refused_as, bitmap_header}
use Rattle.bmhd.specs.declared.Header.{Header}

pub header_sizes : (s : List ℕ) → Each (λ (h : Header). frame_length h.sizes ≡ ok h.length) (bitmap_header s)
unfolding bitmap_header
header_sizes s =
    each_need (eqb (length s) 20) 24 _ λ _.
    each_bind (go (frame_length (sizes_at s)) refl) λ n e.
    each_need (not (eqb (get_or s 9 0) 1)) 24 _ λ _.
    each_need (leb (get_or s 10 0) 1) 24 _ λ _.
    each e
  where
    go : (r : Res ℕ) → frame_length (sizes_at s) ≡ r → Each (λ n. frame_length (sizes_at s) ≡ ok n) (refused_as 24 r)
    go (ok n) e = each e
    go (fault m) e = no_value
