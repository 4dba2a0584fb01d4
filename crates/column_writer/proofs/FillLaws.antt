-- Laws of the walk over a column's pieces: its ops counted, and written to the front of a buffer.
use Prim.Native.Nat.{ℕ, ◌+◌, ◌-◌, ◌*◌, ◌≤◌, ◌<◌}
use native.Mathlib.Omega.{arith}
use mathlib.Core.List.{List, [], ◌++◌}
use mathlib.Core.Path.{◌≡◌, refl, sym, ap, ◌∙◌}
use lib.ListN.{length, set, take, drop, length-append, length-drop, length-set}
use lib.Seq.{sets-eq, take_at, length-take-le}
use Rattle.laws.specs.Put.{Put}
use Rattle.laws.specs.Store.{over}
use Rattle.laws.proofs.PutLaws.{Putting, putting, putting_room, putting_more, putting_last, put_as, put_then, put_byte, put_copy}
use Rattle.runs.specs.Runs.{runs_of}
use Rattle.runs.specs.Front.{runs_at}
use Rattle.column_writer.specs.Column.{WrittenOp.uniq, cut, ops_of, ops_bytes, column_bytes}
use Rattle.column_writer.specs.Piece.{ops_at, piece_ops, ops_in, bytes_in, NextPiece, Measured, Prepared}
use Rattle.column_writer.specs.declared.piece.PieceKind.{PieceKind}
use Rattle.column_writer.proofs.CountLaws.{Counting, counting, counting_more, counting_last}
use Rattle.column_writer.proofs.CutLaws.{none_left, piece_parts, piece_count, piece_size, piece_few, uniq_count, uniq_bytes}
use Rattle.column_writer.proofs.PlanLaws.{column_few, column_many}
use Rattle.column_writer.proofs.LengthLaws.{ops_short}

-- what is counted and what is left, from a row on, come to the whole
pub record Measuring (old new : List ℕ) (row ops bytes : ℕ) : Type 0 where
  pub inside : row ≤ length new
  pub few : ops ≤ row
  pub short : bytes ≤ 3 * row
  pub ops_left : ops + length (ops_at old new row) ≡ length (ops_at old new 0)
  pub bytes_left : Counting (ops_bytes (ops_at old new 0)) bytes (ops_bytes (ops_at old new row))

pub starts : (old new : List ℕ) → Measuring old new 0 0 0
starts old new = record { inside = omega arith; few = omega arith; short = omega arith; ops_left = omega arith; bytes_left = counting }

module _ {old new : List ℕ} {row ops bytes : ℕ} (m : Measuring old new row ops bytes) where
  pub more : {kind : PieceKind} {rows n b : ℕ} → NextPiece old new row kind rows → n ≡ ops_in kind rows → b ≡ bytes_in kind rows → Measuring old new (row + rows) (ops + n) (bytes + b)
  more {kind} {rows} p e f =
      let k : rows ≤ length (drop row new) = simp length-drop (omega (arith, p.inside)) in
      let few = piece_few kind rows in
      record {
        inside = p.inside;
        few = omega (arith, m.few, few.0, e);
        short = omega (arith, m.short, few.1, f);
        ops_left =
            omega (arith, m.ops_left, e, piece_count kind rows (drop row new) k, ap length p.ops ∙ length-append (piece_ops kind rows (drop row new)) (ops_at old new (row + rows)));
        bytes_left = counting_more m.bytes_left (piece_parts p) (f ∙ sym (piece_size kind rows (drop row new) k));
      }

  pub all : length new ≤ row → Measured old new ops bytes
  unfolding runs_at ops_bytes
  all h =
      let e : ops_at old new row ≡ [] = none_left old new row h in
      record {
        count = omega (arith, rw e at m.ops_left);
        size = counting_last m.bytes_left (rw e);
        few = omega (arith, m.few, m.inside);
        short = omega (arith, m.short, m.inside);
      }

-- and they are written
pub record Filling (out₀ old new : List ℕ) (out : List ℕ) (ops place row : ℕ) : Type 0 where
  pub counts : Measuring old new row ops place
  pub puts : Putting out₀ 0 (ops_bytes (ops_at old new 0)) out place (ops_bytes (ops_at old new row))

pub filling : (old new out : List ℕ) → length new ≤ 1024 → 1536 ≤ length out → Filling out old new out 0 0 0
unfolding runs_at
filling old new out l h = record { counts = starts old new; puts = putting (omega (arith, ops_short old new)) }

module _ {out₀ old new out : List ℕ} {ops place row : ℕ} (w : Filling out₀ old new out ops place row) where
  pub filling_room : {kind : PieceKind} {rows : ℕ} → NextPiece old new row kind rows → place + length (ops_bytes (piece_ops kind rows (drop row new))) ≤ length out
  filling_room p = putting_room w.puts (piece_parts p)

  pub filling_more : {kind : PieceKind} {rows n : ℕ} → NextPiece old new row kind rows → n ≡ ops_in kind rows → {out' : List ℕ} {next : ℕ} → Put out place (ops_bytes (piece_ops kind rows (drop row new))) out' next
      → Filling out₀ old new out' (ops + n) next (row + rows)
  filling_more {kind} {rows} p e v =
      let k : rows ≤ length (drop row new) = simp length-drop (omega (arith, p.inside)) in
      record {
        counts = rw (v.place, piece_size kind rows (drop row new) k) (more w.counts p e refl);
        puts = putting_more w.puts (piece_parts p) v;
      }

  pub filling_last : length new ≤ row → Measured old new ops place × Put out₀ 0 (ops_bytes (ops_of (runs_of new old))) out place
  unfolding runs_at ops_bytes
  filling_last h = (all w.counts h, putting_last w.puts (rw (none_left old new row h)))

put_front : {out bytes out' : List ℕ} {next : ℕ} → Put out 0 bytes out' next → length bytes ≤ length out → take next out' ≡ bytes
put_front {out} {bytes} {out'} {next} p h = rw (p.left, sets-eq bytes out 0 (omega (arith, h))) (take_at bytes (drop (0 + length bytes) out) next (omega (arith, p.place)))

module _ {old new : List ℕ} {ops bytes : ℕ} (m : Measured old new ops bytes) (l : length new ≤ 1024) (room : List ℕ) (h : 1536 ≤ length room) where
  pub prepared_few : {room' : List ℕ} → Put room 0 (ops_bytes (ops_of (runs_of new old))) room' bytes → ops ≤ 255 → Prepared old new room' ops bytes
  prepared_few p f = record {
    is = column_few old new (omega (arith, m.count)) ∙ rw (m.count, put_front p (omega (arith, ops_short old new)));
    few = f;
    short = omega (arith, m.size, ops_short old new);
    inside = omega (arith, m.size, ops_short old new, p.size);
  }

  uniqs_fit : 0 + length (ops_bytes (cut (uniq new))) ≤ length room
  uniqs_fit = omega (arith, uniq_bytes new, uniq_count new)

  module _ {room' : List ℕ} {next : ℕ} (p : Put room 0 (ops_bytes (cut (uniq new))) room' next) where
    pub past_rows : length new ≤ next
    past_rows = omega (arith, p.place, uniq_bytes new)

    pub prepared_many : 255 < ops → Prepared old new room' (next - length new) next
    prepared_many f =
        let c : length (cut (uniq new)) ≡ next - length new = omega (arith, p.place, uniq_bytes new) in
        record {
          is = column_many old new (omega (arith, m.count)) ∙ rw (c, put_front p (omega (arith, uniqs_fit)));
          few = omega (arith, c, uniq_count new);
          short = omega (arith, p.place, uniq_bytes new, uniq_count new);
          inside = omega (arith, p.place, p.size, uniqs_fit);
        }

-- a prepared column is put into a buffer with room for it
module _ {old new room : List ℕ} {ops bytes : ℕ} (p : Prepared old new room ops bytes) where
  pub prepared_length : length (column_bytes old new) ≡ 1 + bytes
  prepared_length = ap length p.is ∙ omega (arith, length-take-le bytes room p.inside)

-- what was prepared, put behind its count
module _ {old new room : List ℕ} {ops bytes : ℕ} (p : Prepared old new room ops bytes) where
  pub put_column_lem : (out : List ℕ) (at : ℕ) (y : List ℕ) → at + 1 + bytes ≤ length out
      → y ≡ over (take (at + 1 + bytes - (at + 1)) (drop (at + 1) (set out at ops))) (take bytes room)
      → Put out at (column_bytes old new) (take (at + 1) (set out at ops) ++ (y ++ drop (at + 1 + bytes - (at + 1)) (drop (at + 1) (set out at ops)))) (at + 1 + bytes)
  put_column_lem out at y h e =
      let n = length-take-le bytes room p.inside in
      put_as (put_then put_byte (put_copy (set out at ops) (at + 1) (at + 1 + bytes) (take bytes room) y (omega (arith, n)) (simp length-set h) e)) p.is
