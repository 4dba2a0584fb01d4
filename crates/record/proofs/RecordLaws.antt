-- Laws of records: how they are laid out, and what writing answers.
use Prim.Native.Nat.{ℕ, ◌+◌, ◌<◌, ◌≤◌}
use native.Mathlib.Nat.{zero-add}
use native.Mathlib.Omega.{arith}
use mathlib.Core.List.{List}
use mathlib.Core.Path.{◌≡◌, refl, sym, ◌∙◌}
use lib.ListN.{length, length-append}
use lib.Seq.{sets-eq}
use mathlib.Core.Logic.{◌≢◌}
use borrow.Author.Tests.{eq-eqb, ne_eqb, le-leb, lt-leb}
use Rattle.laws.specs.Result.{Res.ok, Res.fault}
use Rattle.laws.specs.Put.{Put}
use Rattle.laws.proofs.PutLaws.{put_then}
use Rattle.number.specs.Number.{write_number}
use Rattle.runs.specs.Runs.{runs_of, differing}
use Rattle.runs.proofs.PatchLaws.{count_runs}
use Rattle.changes.specs.Count.{count}
use Rattle.changes.proofs.CountLaws.{runs_counted}
use Rattle.changes.specs.declared.Counts.{Counts}
use Rattle.record.specs.RunList.{runs_bytes, list_bytes}
use Rattle.colours.specs.Colours.{MAP, coloured}
use Rattle.record.specs.Record.{picture_bytes, map_bytes, record_bytes, measure, written, Commits}
use Rattle.record.specs.Walk.{Counted}

-- a run list, whose runs were counted
module _ {old new : List ℕ} {runs : ℕ} (c : Counted old new runs) where
  pub list_length : length (list_bytes (runs_of old new)) ≡ length (write_number runs) + length (runs_bytes (runs_of old new))
  unfolding list_bytes
  list_length = rw (← c.is) (length-append (write_number runs) (runs_bytes (runs_of old new)))

  pub list_put : {out out₁ out₂ : List ℕ} {at p q : ℕ} → Put out at (write_number runs) out₁ p → Put out₁ p (runs_bytes (runs_of old new)) out₂ q → Put out at (list_bytes (runs_of old new)) out₂ q
  unfolding list_bytes
  list_put v w = rw (← c.is) (put_then v w)

pub counted : (old new : List ℕ) {c : Counts} → length old ≡ length new → length old ≤ 1_048_576 → c ≡ count old new → Counted old new c.runs
counted old new l s e = let n = runs_counted old new l e in record { one_length = l; short = s; is = n; few = omega (arith, n, count_runs old new) }

module _ (frame place : ℕ) (old new : List ℕ) where
  pub picture_length : length (picture_bytes frame place old new) ≡ length (write_number frame) + length (write_number place) + length (list_bytes (runs_of old new))
  unfolding picture_bytes
  picture_length = simp length-append

  pub picture_put : {out out₁ out₂ out₃ : List ℕ} {p q r : ℕ} → Put out 0 (write_number frame) out₁ p → Put out₁ p (write_number place) out₂ q
      → Put out₂ q (list_bytes (runs_of old new)) out₃ r → Put out 0 (picture_bytes frame place old new) out₃ r
  unfolding picture_bytes
  picture_put u v w = put_then (put_then u v) w

-- a record: its picture part, then its map part
module _ (frame place : ℕ) (old new map map' : List ℕ) where
  pub record_length : length (record_bytes frame place old new map map') ≡ length (picture_bytes frame place old new) + length (map_bytes map map')
  unfolding record_bytes
  record_length = length-append (picture_bytes frame place old new) (map_bytes map map')

  pub record_put : {out out₁ out₂ : List ℕ} {p q : ℕ} → Put out 0 (picture_bytes frame place old new) out₁ p → Put out₁ p (map_bytes map map') out₂ q
      → Put out 0 (record_bytes frame place old new map map') out₂ q
  unfolding record_bytes
  record_put u v = put_then u v

  pub head_length : {runs : ℕ} → Counted old new runs
      → length (record_bytes frame place old new map map')
      ≡ length (write_number frame) + length (write_number place) + length (write_number runs) + length (map_bytes map map') + length (runs_bytes (runs_of old new))
  head_length c = omega (arith, record_length, picture_length frame place old new, list_length c)

-- what recording answers, and what it leaves in the record buffer, the picture and the map
module _ (out : List ℕ) (frame place : ℕ) (old new map cmap : List ℕ) where
  refused : {n : ℕ} → written (length out) frame place old new map cmap ≡ fault n → Commits out frame place old new map cmap (fault n) out old map
  refused e = record { answer = sym e; bytes = refl; picture = refl; colours = refl }

  pub two_lengths : length old ≢ length new → Commits out frame place old new map cmap (fault 12) out old map
  unfolding written
  two_lengths h = refused (simp (ne_eqb _ _ h))

  module _ (l : length old ≡ length new) where
    pub too_long : 1_048_576 < length old → Commits out frame place old new map cmap (fault 12) out old map
    unfolding written
    too_long h = refused (simp (eq-eqb _ _ l, lt-leb _ _ h))

    module _ (s : length old ≤ 1_048_576) where
      pub no_map : length map ≢ MAP → Commits out frame place old new map cmap (fault 12) out old map
      unfolding written
      no_map h = refused (simp (eq-eqb _ _ l, le-leb _ _ s, ne_eqb _ _ h))

      module _ (m : length map ≡ MAP) where
        pub no_room : length out < length (record_bytes frame place old new map (coloured map cmap)) → Commits out frame place old new map cmap (fault 51) out old map
        unfolding written
        no_room h = refused (simp (eq-eqb _ _ l, le-leb _ _ s, eq-eqb _ _ m, lt-leb _ _ h))

        pub is_written : (out' old' map' : List ℕ) (size changed : ℕ) → length (record_bytes frame place old new map (coloured map cmap)) ≤ length out → changed ≡ differing old new
            → Put out 0 (record_bytes frame place old new map (coloured map cmap)) out' size → old' ≡ new → map' ≡ coloured map cmap
            → Commits out frame place old new map cmap (ok (record { length = size; changed = changed })) out' old' map'
        unfolding written measure
        is_written out' old' map' size changed h f p q k =
            let bytes : List ℕ = record_bytes frame place old new map (coloured map cmap) in
            let e : size ≡ length bytes = p.place ∙ zero-add (length bytes) in
            record {
              answer = sym (simp (eq-eqb _ _ l, le-leb _ _ s, eq-eqb _ _ m, le-leb _ _ h, e, f));
              bytes = p.left ∙ sets-eq bytes out 0 (omega arith) ∙ rw (zero-add (length bytes));
              picture = q;
              colours = k;
            }
