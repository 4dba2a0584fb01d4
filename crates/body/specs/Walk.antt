-- What the steps of unpacking a BODY answer and leave in the frame. A walk that only checks draws nothing.
use Rattle.std.specs.Prelude.{ℕ, ◌*◌, Bool, false, ◌≡◌, List, [], length, replicate, Result, Ok, Err}
use Rattle.laws.specs.Store.{over}
use Rattle.laws.specs.Result.{Res, Res.ok, Res.fault, ◌>>=◌, pick}
use Rattle.refusal.specs.Number.{number_of}
use Rattle.refusal.specs.declared.Refusal.{Refusal}
use Rattle.state.specs.declared.Sizes.{Sizes}
use Rattle.state.specs.State.{row_bytes}
use Rattle.body.specs.ByteRun.{Row}
use Rattle.body.specs.Body.{rows_from, draw_rows}
use Rattle.body.specs.declared.Packet.{Packet}
use Rattle.body.specs.declared.Packet.TheVariants.{Copy, Repeat, Nothing}
use Rattle.body.specs.declared.Took.{Took}

-- what an answer says of a packet, in the definition's terms
abbrev pub row_of : Packet → Row
row_of (Copy b nx) = record { bytes = b.now; next = nx }
row_of (Repeat value count nx) = record { bytes = replicate count value; next = nx }
row_of (Nothing nx) = record { bytes = []; next = nx }

abbrev pub packet_of : Result Packet Refusal → Res Row
packet_of (Ok p) = ok (row_of p)
packet_of (Err why) = fault (number_of why)

-- how many bytes there were, and the place after them
abbrev pub took : Res Row → Res Took
took r = r >>= λ b. ok (record { count = length b.bytes; next = b.next })

-- a buffer with the bytes at its front, if they are drawn and there are any
abbrev pub puts : List ℕ → Res Row → Bool → List ℕ
puts f (ok r) drawing = pick drawing (over f r.bytes) f
puts f (fault n) drawing = f

-- the same of a row; of a row that is refused nothing is said but that a check draws nothing
pub record Drawn (f : List ℕ) (r : Res Row) (drawing : Bool) (g : List ℕ) : Type 0 where
  pub row : (b : Row) → r ≡ ok b → g ≡ pick drawing (over f b.bytes) f
  pub check : drawing ≡ false → g ≡ f

-- a frame g into which the rows of BODY were drawn; of a BODY that is refused nothing is said
pub record DrawnRows (f s : List ℕ) (z : Sizes) (packed : Bool) (g : List ℕ) : Type 0 where
  pub rows : (rs : List (List ℕ)) → rows_from s 0 (row_bytes z.width) (z.height * z.planes) packed ≡ ok rs → g ≡ draw_rows z 0 rs f
