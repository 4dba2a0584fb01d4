-- What a taken step on reports of its ops (document 02, E8).
use Prim.Native.Nat.{ℕ}
use mathlib.Core.List.{List}
use mathlib.Core.Option.{Option, none, some}
use mathlib.Core.Path.{◌≡◌, ap, sym, ◌∙◌}
use lib.ListN.{length, take}
use Rattle.laws.specs.Bytes.{Bytes}
use Rattle.laws.proofs.BytesLaws.{bytes_take}
use Rattle.laws.specs.Result.{Res.ok}
use Rattle.laws.proofs.ResultLaws.{Each, Each.each, All, All.all_some, All.all_none, each_any, each_bind, each_is, each_self, each_some, never}
use Rattle.state.specs.State.{row_bytes}
use Rattle.state.specs.declared.Report.{Report}
use Rattle.state.specs.World.{World, shown_in, hidden_in}
use Rattle.state.specs.After.{Lent, Answer.took_on, After}
use Rattle.delta.specs.Reading.{shape_of}
use Rattle.delta.specs.Delta.{read_delta}
use Rattle.delta.proofs.CountLaws.{ops_most_lem}
use Rattle.frame.specs.Frame.{Frame, frame_at}
use Rattle.frame.proofs.FrameLaws.{frame_bytes_lem}
use Rattle.step_on.specs.declared.SteppedOn.{SteppedOn}
use Rattle.step_on.specs.Step.{ready, change, Built, build, look, look_ahead, report_of, on_of, MeetsOn}
use Rattle.step_on.proofs.CaseLaws.{on_case}
use Rattle.model.specs.Demands.{OpsRead}
use Rattle.model.proofs.Laws.{ops_same}

module _ (file : List ℕ) (bytes : Bytes file) (w : World) where
  built_ops : (o : Option Frame) → frame_at (take w.state.end file) w.state.next (row_bytes w.state.sizes.width) ≡ ok o
      → Each (All (λ (y : Built). OpsRead file w y.ops)) (build w.state.sizes (shown_in w) (hidden_in w) o)
  unfolding change
  built_ops none e = each all_none
  built_ops (some x) e =
      each_bind {P = λ (y : Built). OpsRead file w y.ops}
      (each_bind (each_self (read_delta (shape_of w.state.sizes x.header.items) x.dlta)) λ ops q.
      each (record {
        frame = x;
        there = e;
        ops = ops;
        read = q;
        counted = ops_same _ _ _ x e w.state.sizes ops;
        most = each_is q (ops_most_lem (shape_of w.state.sizes x.header.items) x.dlta (frame_bytes_lem _ _ _ x (bytes_take w.state.end file bytes) e));
      }))
      λ y p. each (all_some p)

  ahead_ops : (work : ℕ) → Each (All (λ (y : Built). OpsRead file w y.ops)) (look_ahead file w work)
  unfolding look_ahead look
  ahead_ops work =
      each_any (ready (length file) w.state (length w.a) (length w.b) (length w.map) work) λ _.
      each_bind (each_self (frame_at (take w.state.end file) w.state.next (row_bytes w.state.sizes.width))) λ o e. built_ops o e

-- of every step on that met its contract and is taken, in a file of bytes
pub ops_reported : (file : List ℕ) → Bytes file → (l : Lent) (r : SteppedOn) (l' : Lent) (p : Report) → MeetsOn file l r l' → on_of r.answer ≡ took_on p → OpsRead file l.world p.ops
ops_reported file bytes l r l' p m e =
    on_case (λ (o : After). o.answer ≡ took_on p → OpsRead file l.world p.ops) l.world (length l.rec) file (length l.work)
    (λ n q h. never (cc)) (λ q h. never (cc))
    (λ x q h. let k : report_of l.world x ≡ p = cc in rw (ap (λ (t : Report). t.ops) k) at (each_some q (ahead_ops file bytes l.world (length l.work))))
    (λ x q f h. never (cc))
    (sym m.answer ∙ e)
