-- Laws of FORM ANIM and its frames: they lie within the file, and the places of frames rise.
use Prim.Native.Nat.{ℕ, ◌+◌, ◌-◌, ◌≤◌, ◌<◌}
use native.Mathlib.Nat.{le_refl}
use native.Mathlib.Omega.{arith}
use mathlib.Core.Bool.{◌&&◌}
use mathlib.Core.List.{List}
use mathlib.Core.Option.{Option, none, some}
use lib.Dec.{leb, eqb}
use lib.ListN.{length}
use borrow.Author.Tests.{leb-true}
use Rattle.laws.specs.Result.{Res, Res.ok, Res.fault}
use Rattle.laws.proofs.ResultLaws.{Each, Each.each, Each.no_value, All, All.all_some, All.all_none, each_need, each_ok, all_value}
use Rattle.laws.proofs.LoopLaws.{Comes, Comes.comes_next, Comes.comes_done, comes_pick, iterate_holds}
use Rattle.laws.specs.Bytes.{be32}
use Rattle.iff.specs.Ids.{FORM, ANIM, ILBM}
use Rattle.iff.specs.Chunk.{Chunk, chunk_at}
use Rattle.iff.proofs.ChunkLaws.{Within, chunk_within}
use Rattle.form.specs.Form.{anim_end, pass_on, form_step, next_form, FormIlbm}

-- the end of FORM ANIM is past its type, and within the file
pub record Closes (s : List ℕ) (end : ℕ) : Type 0 where
  pub least : 12 ≤ end
  pub most : end ≤ length s

-- a frame from a place on lies within the parent, and the next place is past it
pub record Follows (s : List ℕ) (from : ℕ) (f : FormIlbm) : Type 0 where
  pub starts : from + 12 ≤ f.start
  pub holds : f.start + f.size ≤ f.next
  pub rises : from < f.next
  pub ends : f.next ≤ length s

pub anim_closes : (s : List ℕ) → Each (Closes s) (anim_end s)
unfolding anim_end
anim_closes s =
    each_need (leb 12 (length s)) 21 _ λ _. each_need (eqb (be32 s 0) FORM && eqb (be32 s 8) ANIM) 22 _ λ _.
    each_need (leb 4 (be32 s 4)) 21 _ λ h. each_need (leb (be32 s 4 + 8) (length s)) 21 _ λ k.
    each (record { least = omega (arith, leb-true 4 (be32 s 4) h); most = leb-true (be32 s 4 + 8) (length s) k })

module _ (s : List ℕ) (from : ℕ) where
  pass_follows : (at : ℕ) → from ≤ at → (r : Res (Option Chunk)) → Each (All (Within s at)) r → Comes (λ p. from ≤ p) (Each (All (Follows s from))) (pass_on s r)
  pass_follows at l (ok none) h = comes_done (each all_none)
  pass_follows at l (ok (some c)) h =
      let k : Within s at c = all_value (each_ok h) in
      let on : from ≤ c.next = omega arith in
      comes_pick (eqb c.id FORM)
      (λ _. comes_pick (leb 4 c.size)
      (λ e. comes_pick (eqb (be32 s c.start) ILBM)
      (λ _. let m : 4 ≤ c.size = leb-true 4 c.size e in comes_done (each (all_some (record { starts = omega arith; holds = omega arith; rises = omega arith; ends = k.ends }))))
      (λ _. comes_next on))
      (λ _. comes_done no_value))
      (λ _. comes_next on)
  pass_follows at l (fault n) h = comes_done no_value

pub form_follows : (s : List ℕ) (from : ℕ) → Each (All (Follows s from)) (next_form s from)
unfolding next_form
form_follows s from =
    iterate_holds (form_step s) (λ at. length s - at) (fault 21) (λ at. from ≤ at) (Each (All (Follows s from))) no_value
    (λ at l. pass_follows s from at l (chunk_at s at) (chunk_within s at)) from (le_refl from)
