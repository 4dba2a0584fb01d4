-- `column_writer::write_piece`: the unchanged rows at a column's end write nothing.
use Prim.Native.Nat.{ℕ}
use mathlib.Core.List.{List, []}
use mathlib.Core.Path.{◌≡◌}
use Rattle.laws.proofs.PutLaws.{put_nothing, put_as}
use Rattle.column_writer.specs.Column.{ops_bytes}
use Rattle.column_writer.specs.Piece.{piece_ops}
use Rattle.column_writer.specs.declared.piece.PieceKind.{PieceKind}
use Rattle.column_writer.specs.declared.piece.PieceKind.TheVariants.{Rest}
use Rattle.column_writer.proofs.write_piece.Goals as goal

rest : {kind : PieceKind} (rows : ℕ) (vs : List ℕ) → kind ≡ Rest → ops_bytes (piece_ops kind rows vs) ≡ []
unfolding ops_bytes
rest rows vs e = rw e

pub returns-in-Rest : goal.returns-in-Rest
returns-in-Rest c = put_as put_nothing (rest _ _ c.in-Rest.is)
