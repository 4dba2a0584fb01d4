-- `delta::take_plane`: the pointers are the definition's, and its words or columns lie within the frame.
use mathlib.Core.Bool.{false}
use mathlib.Core.Path.{◌≡◌, refl, sym, ◌∙◌}
use native.Mathlib.Omega.{arith}
use Rattle.laws.proofs.ResultLaws.{each_is}
use Rattle.delta.proofs.DeltaLaws.{plane_same, plane_columns, plane_words, pointer_most, data_pointer_most}
use Rattle.delta.proofs.FillLaws.{plane_inside, words_inside, columns_most}
use Rattle.delta.specs.Walk.{reading}
use Rattle.delta.proofs.WalkLaws.{walked_none, took_as}
use Rattle.delta.proofs.take_plane.Goals as goal

pub returns-then-number32-eq0 : goal.returns-then-number32-eq0
returns-then-number32-eq0 c =
    walked_none (λ ops. plane_same c.args.shape c.args.d.now c.args.plane (reading c.args.c ops) (sym c.number32.ensures.0 ∙ c.if-number32-eq0.true)) refl c.requires.2.line c.requires.2.item 32640

pub take_words-requires : goal.take_words-requires
take_words-requires c = (
  c.requires.0.width,
  words_inside c.requires.0 c.if-shape.true c.args.plane c.requires.1,
  record { line = omega arith; item = each_is (sym c.in_ok-item.ensures) (data_pointer_most c.args.d.now c.args.shape c.args.plane); ops = omega (arith, c.requires.2.ops) },
  each_is (sym c.in_ok-op.ensures) (pointer_most c.args.d.now c.args.shape.pointers c.args.plane),
  c.if-shape.true,
)

pub returns-then-shape : goal.returns-then-shape
returns-then-shape c =
    took_as _ _ _ _ _ _ _ _ _ _ _ c.take_words.result c.take_words.ensures
    (λ ops. plane_words c.args.shape c.args.d.now c.args.plane (reading c.args.c ops) (λ e. c.if-number32-eq0.false (c.number32.ensures.0 ∙ e)) (sym c.in_ok-op.ensures) (sym c.in_ok-item.ensures) c.if-shape.true) refl (omega arith)

pub take_columns-requires : goal.take_columns-requires
take_columns-requires c =
    let v : c.args.shape.words ≡ false = c.if-shape.false in (
      record { width = c.requires.0.width; columns = v },
      c.requires.0.height_least v,
      plane_inside c.requires.0 c.args.plane c.requires.1,
      record { line = omega arith; item = each_is (sym c.in_ok-item.ensures) (data_pointer_most c.args.d.now c.args.shape c.args.plane); ops = omega (arith, c.requires.2.ops, columns_most c.requires.0) },
    )

pub returns : goal.returns
returns c =
    took_as _ _ _ _ _ _ _ _ _ _ _ c.take_columns.result c.take_columns.ensures
    (λ ops. plane_columns c.args.shape c.args.d.now c.args.plane (reading c.args.c ops) (λ e. c.if-number32-eq0.false (c.number32.ensures.0 ∙ e)) (sym c.in_ok-op.ensures) (sym c.in_ok-item.ensures) c.if-shape.false) refl (omega (arith, columns_most c.requires.0))
