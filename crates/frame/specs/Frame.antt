-- A later frame (document 01, "Chunks" and "Refusal numbers", and document 02, E6): the next FORM ILBM from a place of FORM ANIM on, 21 as
-- chunks are walked, the frame walked whole, then 31 to 37 in table order.
use Rattle.std.specs.Prelude.{ℕ, false, List, take, drop, Result, Ok, Err, Some, None, Option as Maybe}
use Rattle.std.proofs.Math.Option.{Option, none, some}
use Rattle.laws.specs.Result.{Res, Res.ok, Res.fault, ◌>>=◌, or_refuse}
use Rattle.refusal.specs.Number.{number_of}
use Rattle.refusal.specs.declared.Refusal.{Refusal}
use Rattle.iff.specs.Ids.{CMAP, ANHD, DLTA}
use Rattle.iff.specs.Chunk.{Part, find, bytes_of, contents}
use Rattle.form.specs.Form.{FormIlbm, chunks_of, next_form}
use Rattle.anhd.specs.Anhd.{frame_header}
use Rattle.anhd.specs.declared.FrameHeader.{FrameHeader}
use Rattle.colours.specs.Colours.{colours}
use Rattle.frame.specs.declared.Next.{Next}

-- a later frame: the place after it, its header, and the contents of its DLTA and of its CMAP
pub record Frame : Type 0 where
  pub next : ℕ
  pub header : FrameHeader
  pub dlta : List ℕ
  pub cmap : List ℕ

-- the frame in a FORM ILBM, for rows of B bytes
unfoldable pub frame_in : List ℕ → ℕ → FormIlbm → Res Frame
frame_in s B x =
    find (chunks_of s x) ANHD >>= or_refuse 31 >>= λ h.
    find (chunks_of s x) DLTA >>= or_refuse 31 >>= λ d.
    frame_header false B (bytes_of (chunks_of s x) h) >>= λ y.
    colours (contents (chunks_of s x) CMAP) >>= λ c.
    ok (record { next = x.next; header = y; dlta = bytes_of (chunks_of s x) d; cmap = c })

abbrev pub frame_or : List ℕ → ℕ → Option FormIlbm → Res (Option Frame)
frame_or s B none = ok none
frame_or s B (some x) = frame_in s B x >>= λ f. ok (some f)

-- the next frame from a place of FORM ANIM on, if there is one
unfoldable pub frame_at : List ℕ → ℕ → ℕ → Res (Option Frame)
frame_at s at B = next_form s at >>= frame_or s B

-- what the answers say in the paper's terms: the contents of DLTA and CMAP are parts of FORM ANIM
abbrev pub frame_of : List ℕ → Next → Frame
frame_of s n = record { next = n.next; header = n.header; dlta = take n.dlta.len (drop n.dlta.start s); cmap = take n.cmap.len (drop n.cmap.start s) }

abbrev pub framed_of : List ℕ → Result Next Refusal → Res Frame
framed_of s (Ok n) = ok (frame_of s n)
framed_of s (Err why) = fault (number_of why)

abbrev pub next_of : List ℕ → Result (Maybe Next) Refusal → Res (Option Frame)
next_of s (Ok (Some n)) = ok (some (frame_of s n))
next_of s (Ok None) = ok none
next_of s (Err why) = fault (number_of why)

-- where the contents of a chunk that was looked for stand; an empty part where there is none
abbrev pub or_empty : Res (Option Part) → Part
or_empty (ok (some p)) = p
or_empty (ok none) = record { start = 0; size = 0 }
or_empty (fault n) = record { start = 0; size = 0 }
