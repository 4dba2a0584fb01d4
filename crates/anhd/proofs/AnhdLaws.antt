-- A law of ANHD: what a header that is read says.
use Prim.Native.Nat.{ℕ, ◌≤◌}
use mathlib.Core.Bool.{Bool, true}
use mathlib.Core.List.{List}
use mathlib.Core.Path.{◌≡◌, refl}
use lib.Dec.{leb}
use lib.ListN.{length, get_or}
use borrow.Author.Tests.{leb-true}
use Rattle.laws.proofs.ResultLaws.{Each, Each.each, each_need}
use Rattle.laws.specs.Bytes.{be32}
use Rattle.anhd.specs.declared.FrameHeader.{FrameHeader}
use Rattle.anhd.specs.Anhd.{method_ok, interleave_ok, bits_ok, items_of, columns_ok, frame_header}

-- a header that is read: ANHD is long enough, its method and time are ANHD's, its items are its method's, and its columns are whole
pub record Read (B : ℕ) (s : List ℕ) (h : FrameHeader) : Type 0 where
  pub long : 40 ≤ length s
  pub method : h.method ≡ get_or s 0 0
  pub time : h.time ≡ be32 s 14
  pub items : h.items ≡ items_of h.method (be32 s 20)
  pub columns : columns_ok h.items B ≡ true

pub header_read : (first : Bool) (B : ℕ) (s : List ℕ) → Each (Read B s) (frame_header first B s)
unfolding frame_header
header_read first B s =
    each_need (leb 40 (length s)) 32 _ λ l. each_need (method_ok (get_or s 0 0)) 33 _ λ _. each_need (interleave_ok first (get_or s 18 0)) 34 _ λ _.
    each_need (bits_ok (get_or s 0 0) (be32 s 20)) 35 _ λ _. each_need (columns_ok (items_of (get_or s 0 0) (be32 s 20)) B) 36 _ λ e.
    each (record { long = leb-true 40 (length s) l; method = refl; time = refl; items = refl; columns = e })
