-- A listing has at most 65,536 bytes, so that the listing program's buffer holds every text whole.
use Prim.Native.Nat.{ℕ, ◌≤◌}
use native.Mathlib.Omega.{arith}
use mathlib.Core.List.{List, []}
use lib.Dec.{leb}
use lib.ListN.{length}
use borrow.Author.Tests.{leb-true}
use Rattle.laws.specs.Bytes.{Bytes}
use Rattle.laws.proofs.ResultLaws.{pick_case}
use Rattle.opening.specs.Open.{frame_size}
use Rattle.listing.specs.Listing.{plan_for, list_planned, list_file, listing, Planned}
use Rattle.answers.proofs.InTable.{listed}
use Rattle.answers.proofs.Table.{size_table}
use Rattle.listing_laws.proofs.TextRoom.{Short, sized_short}

-- the text of any file of bytes
module _ (file : List ℕ) (bytes : Bytes file) where
  pub listing_short : length (listing file) ≤ 65_536
  unfolding listing list_file plan_for
  listing_short =
      pick_case (λ (p : Planned). Short (list_planned file (record { a = []; b = []; map = []; work = []; rec = [] }) p)) (leb (length file) 65_536)
      (λ e. sized_short file bytes (leb-true (length file) 65_536 e) (frame_size file) (listed (size_table file))) (λ e. omega arith)
