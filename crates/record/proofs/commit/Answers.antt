-- `record::commit`: 51 is decided before anything is written or replaced.
use Prim.Native.Nat.{ℕ, ◌+◌, ◌-◌, ◌<◌, ◌≤◌}
use native.Mathlib.Omega.{arith}
use mathlib.Core.Bool.{true, false}
use mathlib.Core.List.{List}
use lib.Dec.{leb}
use mathlib.Core.Path.{◌≡◌, sym}
use lib.ListN.{length}
use borrow.Author.Tests.{leb-true, leb-false}
use Rattle.number.proofs.NumberLaws.{write_length}
use Rattle.changes.proofs.CountLaws.{changed_counted}
use Rattle.colours.specs.Colours.{coloured}
use Rattle.runs.specs.Runs.{runs_of}
use Rattle.record.specs.RunList.{runs_bytes}
use Rattle.record.specs.Record.{record_bytes}
use Rattle.record.specs.Walk.{Counted, Laid}
use Rattle.record.proofs.RecordLaws.{counted, head_length, two_lengths, too_long, no_map, no_room, is_written}
use Rattle.record.proofs.MapLaws.{laid_fits, laid_over}
use Rattle.record.proofs.commit.Goals.{After-count-counts, After-map_length, After-written_length-3}
use Rattle.record.proofs.commit.Goals as goal

module _ (c : After-count-counts) where
  -- the pictures with the number of their runs
  pictures : Counted c.args.old.now c.args.new.now c.count-counts.result.runs
  pictures = counted _ _ c.if-old-new.false c.if-old-gt1048576.false c.count-counts.ensures

  -- the part of the CMAP that lies on the map
  laid : Laid c.args.map.now c.part-laid.result.now
  laid = laid_fits c.args.map.now c.args.cmap.now c.if-map-ne-MAP.false c.part-laid.ensures

  over : coloured c.args.map.now c.part-laid.result.now ≡ coloured c.args.map.now c.args.cmap.now
  over = laid_over c.args.map.now c.args.cmap.now c.if-map-ne-MAP.false c.part-laid.ensures

-- how long the runs and the whole record are
abbrev bytes : List ℕ → List ℕ → ℕ
bytes old new = length (runs_bytes (runs_of old new))

abbrev whole : ℕ → ℕ → List ℕ → List ℕ → List ℕ → List ℕ → ℕ
whole frame place old new map cmap = length (record_bytes frame place old new map (coloured map cmap))

-- what stands around the runs
abbrev around : After-map_length → ℕ
around c = c.written_length.result + c.written_length-2.result + c.written_length-3.result + c.map_length.result

-- that and the runs are the record
head : (c : After-map_length) → Counted c.args.old.now c.args.new.now c.count-counts.result.runs
    → coloured c.args.map.now c.part-laid.result.now ≡ coloured c.args.map.now c.args.cmap.now
    → around c + bytes c.args.old.now c.args.new.now ≡ whole c.args.frame c.args.place c.args.old.now c.args.new.now c.args.map.now c.args.cmap.now
head c p v =
    omega (arith, head_length c.args.frame c.args.place c.args.old.now c.args.new.now c.args.map.now (coloured c.args.map.now c.args.cmap.now) p, c.written_length.ensures, c.written_length-2.ensures, c.written_length-3.ensures, rw v at c.map_length.ensures.0)

-- what the answer of `runs_fit` tells of the whole record
module _ (out front runs all : ℕ) (h : front + runs ≡ all) (l : front ≤ out) where
  too_much : false ≡ leb runs (out - front) → out < all
  too_much e = let u : out - front < runs = leb-false runs (out - front) (sym e) in omega arith

  fits : true ≡ leb runs (out - front) → all ≤ out
  fits e = let u : runs ≤ out - front = leb-true runs (out - front) (sym e) in omega arith

-- the three numbers in front of the runs are short
numbers : (c : After-written_length-3) → Counted c.args.old.now c.args.new.now c.count-counts.result.runs → c.written_length.result + c.written_length-2.result + c.written_length-3.result ≤ 15
numbers c p =
    omega (arith, write_length c.args.frame (omega arith), write_length c.args.place (omega arith), write_length c.count-counts.result.runs (omega (arith, p.few, p.short)), c.written_length.ensures, c.written_length-2.ensures, c.written_length-3.ensures)

pub returns-then-old-new : goal.returns-then-old-new
returns-then-old-new c = two_lengths _ _ _ _ _ _ _ c.if-old-new.true

pub returns-then-old-gt1048576 : goal.returns-then-old-gt1048576
returns-then-old-gt1048576 c = too_long _ _ _ _ _ _ _ c.if-old-new.false c.if-old-gt1048576.true

pub returns-then-map-ne-MAP : goal.returns-then-map-ne-MAP
returns-then-map-ne-MAP c = no_map _ _ _ _ _ _ _ c.if-old-new.false c.if-old-gt1048576.false c.if-map-ne-MAP.true

pub overflow_add-head : goal.overflow_add-head
overflow_add-head c = omega (arith, write_length c.args.frame (omega arith), write_length c.args.place (omega arith))

pub overflow_cast-counts : goal.overflow_cast-counts
overflow_cast-counts c = let k = pictures (goal.at.overflow_cast-counts c).After-count-counts in omega (arith, k.few, k.short)

pub overflow_add-head-2 : goal.overflow_add-head-2
overflow_add-head-2 c = omega (arith, numbers (goal.at.overflow_add-head-2 c).After-written_length-3 (pictures (goal.at.overflow_add-head-2 c).After-count-counts))

pub map_length-requires : goal.map_length-requires
map_length-requires c = laid (goal.at.map_length-requires c).After-count-counts

pub overflow_add-head-3 : goal.overflow_add-head-3
overflow_add-head-3 c = omega (arith, numbers (goal.at.overflow_add-head-3 c).After-written_length-3 (pictures (goal.at.overflow_add-head-3 c).After-count-counts), c.map_length.ensures.1)

pub returns-then-out-head : goal.returns-then-out-head
returns-then-out-head c =
    no_room _ _ _ _ _ _ _ c.if-old-new.false c.if-old-gt1048576.false c.if-map-ne-MAP.false (omega (arith, head (goal.at.returns-then-out-head c).After-map_length (pictures (goal.at.returns-then-out-head c).After-count-counts) (over (goal.at.returns-then-out-head c).After-count-counts), c.if-out-head.true))

pub returns-then-not-runs_fit : goal.returns-then-not-runs_fit
returns-then-not-runs_fit c =
    no_room _ _ _ _ _ _ _ c.if-old-new.false c.if-old-gt1048576.false c.if-map-ne-MAP.false (too_much _ _ _ _ (head (goal.at.returns-then-not-runs_fit c).After-map_length (pictures (goal.at.returns-then-not-runs_fit c).After-count-counts) (over (goal.at.returns-then-not-runs_fit c).After-count-counts)) c.if-out-head.false c.if-not-runs_fit.ensures)

pub put_record-length-requires : goal.put_record-length-requires
put_record-length-requires c =
    (pictures (goal.at.put_record-length-requires c).After-count-counts, laid (goal.at.put_record-length-requires c).After-count-counts, rw (over (goal.at.put_record-length-requires c).After-count-counts) (fits _ _ _ _ (head (goal.at.put_record-length-requires c).After-map_length (pictures (goal.at.put_record-length-requires c).After-count-counts) (over (goal.at.put_record-length-requires c).After-count-counts)) c.if-out-head.false c.if-not-runs_fit.ensures))

pub returns : goal.returns
returns c =
    let p = rw (over (goal.at.returns c).After-count-counts) at c.put_record-length.ensures in
    is_written _ _ _ _ _ _ _ c.if-old-new.false c.if-old-gt1048576.false c.if-map-ne-MAP.false _ _ _ _ _ (fits _ _ _ _ (head (goal.at.returns c).After-map_length (pictures (goal.at.returns c).After-count-counts) (over (goal.at.returns c).After-count-counts)) c.if-out-head.false c.if-not-runs_fit.ensures)
    (changed_counted _ _ c.if-old-new.false c.count-counts.ensures) p.0 p.1 p.2
