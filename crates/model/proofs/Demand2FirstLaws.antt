-- What demand 2 of a first picture is proved from: what an opening comes to where the papers have no other refusal.
use Prim.Native.Nat.{ℕ}
use mathlib.Core.Bool.{false}
use mathlib.Core.List.{List}
use mathlib.Core.Path.{◌≡◌, refl}
use Rattle.laws.specs.Result.{Res, Res.ok, Res.fault, ◌>>=◌}
use Rattle.state.specs.Film.{Film}
use Rattle.form.specs.Form.{chunks_of}
use Rattle.bmhd.specs.declared.Header.{Header}
use Rattle.anhd.specs.declared.FrameHeader.{FrameHeader}
use Rattle.colours.specs.Colours.{unset, coloured}
use Rattle.colours.proofs.ColourLaws.{colours_good}
use Rattle.delta.specs.Reading.{Op}
use Rattle.opening.specs.Open.{Places, first_delta, first_picture, first_map, film_of, opening}
use Rattle.opening.proofs.OpenLaws.{first_is}
use Rattle.model.specs.Demands.{first_cmap, FreeFirst, first_ops, first_new}

-- what such an opening comes to
pub free_opening : (file : List ℕ) (a b map : ℕ) (p : Places) (z : Header) (h : FrameHeader) → FreeFirst file a b map p z h
    → opening file a b map ≡ (first_ops file p z h >>= λ ops. ok (film_of file p.end p.form.next (record { sizes = z.sizes; picture = first_new file p z h ops; map = coloured unset (first_cmap file p) })))
unfolding opening first_picture first_delta first_map
free_opening file a b map p z h f =
    rw f.there (rw f.given (rw (first_is (chunks_of file p.form) false a b map f.sizes f.left f.right f.map_long) (rw f.header (rw (colours_good (first_cmap file p) f.good) (go (first_ops file p z h))))))
  where
    go : (q : Res (List Op))
        → ◌≡◌ {A = Res Film} (((q >>= λ ops. ok (first_new file p z h ops)) >>= λ x. ok (record { sizes = z.sizes; picture = x; map = coloured unset (first_cmap file p) })) >>= λ y. ok (film_of file p.end p.form.next y))
        (q >>= λ ops. ok (film_of file p.end p.form.next (record { sizes = z.sizes; picture = first_new file p z h ops; map = coloured unset (first_cmap file p) })))
    go (ok ops) = refl
    go (fault n) = refl
