-- One record, one past (document 02, E14): of two records that are accepted at one picture, one map, one frame number and one next place, each
-- is the other exactly if the earlier pictures, maps and places that they lead to are equal.
use Prim.Native.Nat.{ℕ}
use mathlib.Core.List.{List}
use mathlib.Core.Logic.{◌↔◌}
use mathlib.Core.Path.{◌≡◌, sym, ap, ◌∙◌}
use lib.Dec.{leb, ltb, eqb}
use borrow.Author.Tests.{eqb-true}
use Rattle.laws.specs.Bytes.{Bytes}
use Rattle.laws.specs.Result.{Res, Res.ok, ◌>>=◌, need}
use Rattle.laws.proofs.ResultLaws.{Each, Each.each, each_need, each_bind, each_of, each_is, ok_same}
use Rattle.record.specs.Record.{record_bytes, Past, restored}
use Rattle.record.proofs.ReadLaws.{record_read}

-- a record that is accepted is the one that the step which it leads back over would write
pub restored_read : (bytes shown map : List ℕ) (frame next : ℕ) → Bytes bytes
    → Each (λ (p : Past). bytes ≡ record_bytes frame p.place p.picture shown p.map map) (restored bytes shown map frame next)
unfolding restored
restored_read bytes shown map frame next y =
    each_bind (each_of 61 (record_read bytes shown map y)) λ p r.
    let placed : Unit {0} → Res Past = λ _. need (ltb p.place next) 62 >>= λ _. ok p in
    let past : Unit {0} → Res Past = λ _. need (leb 12 p.place) 62 >>= placed in
    let framed : Unit {0} → Res Past = λ _. need (eqb p.frame frame) 62 >>= past in
    each_need (leb 2 p.frame) 62 framed λ _. each_need (eqb p.frame frame) 62 past λ e. each_need (leb 12 p.place) 62 placed λ _. each_need (ltb p.place next) 62 (λ _. ok p) λ _.
    each {a = p} (r ∙ ap (λ (n : ℕ). record_bytes n p.place p.picture shown p.map map) (eqb-true p.frame frame e))

module _ (shown map : List ℕ) (frame next : ℕ) {bytes bytes' : List ℕ} {p p' : Past} (y : Bytes bytes) (y' : Bytes bytes')
    (e : restored bytes shown map frame next ≡ ok p) (e' : restored bytes' shown map frame next ≡ ok p') where
  pub one_past : (bytes ≡ bytes') ↔ ((p.picture ≡ p'.picture) × (p.map ≡ p'.map) × (p.place ≡ p'.place))
  one_past = (same_past, same_record)
    where
      same_past : bytes ≡ bytes' → (p.picture ≡ p'.picture) × (p.map ≡ p'.map) × (p.place ≡ p'.place)
      same_past q =
          let same : p ≡ p' = ok_same (sym e ∙ ap (λ (b : List ℕ). restored b shown map frame next) q ∙ e') in
          (ap (λ (x : Past). x.picture) same, ap (λ (x : Past). x.map) same, ap (λ (x : Past). x.place) same)

      same_record : (p.picture ≡ p'.picture) × (p.map ≡ p'.map) × (p.place ≡ p'.place) → bytes ≡ bytes'
      same_record q =
          each_is e (restored_read bytes shown map frame next y)
          ∙ rw (q.0, q.1, q.2) (sym (each_is e' (restored_read bytes' shown map frame next y')))
