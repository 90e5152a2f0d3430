-- A DATA frame of a read is one of data out under the transfer tag of all ones, so it is read and written back as that one is.
-- Assumes nothing.
use Rattle.ssp_frame.specs.declared.Frame.{Frame}
use Rattle.std.specs.Prelude.{Err, Ok, Ok as Out}
use mathlib.Core.Path.{◌≡◌, ◌∙◌, ap, sym}
use mathlib.Core.Bool.{◌&&◌}
use mathlib.Core.List.{List}
use Prim.Native.Nat.{ℕ, ◌<◌, ◌≤◌}
use native.Mathlib.Omega.{arith}
use lib.ListN.{length, get_or, take, drop}
use borrow.Author.Tests.{eq-eqb, eqb-true}
use Rattle.laws.proofs.Bools.{and_left, and_right, and_true}
use Rattle.refusals.proofs.Frames.{by_none, passed}
use Rattle.refusals.specs.declared.Refusal.{Refusal}
use Rattle.ssp_frame.specs.Header.{header_of, is_blank}
use Rattle.ssp_frame.specs.Data.{frame_end, data_bytes, Typed, frame_sized, kind_listed, filled, data_of, read_data}
use Rattle.ssp_frame.specs.Out.{read_data_out}
use Rattle.ssp_frame.specs.declared.data.DataHead.{DataHead}
use Rattle.ssp_frame.specs.declared.data_out.OutHead.{OutHead}
use Rattle.ssp_frame.proofs.Fields.{Listed, sized, is_sized, laid, is_laid}
use Rattle.ssp_frame.proofs.OutTrip as out

-- the same head and frame, under all ones
abbrev under : DataHead → OutHead
under h = record { destination = h.destination; source = h.source; changing = h.changing; tag = h.tag; transfer = 65535; offset = h.offset }

abbrev framed : Frame DataHead → Frame OutHead
framed f = record { head = under f.head; length = f.length }

-- and back, whatever the transfer tag
abbrev plain : Frame OutHead → Frame DataHead
plain f = record {
  head = record { destination = f.head.destination; source = f.head.source; changing = f.head.changing; tag = f.head.tag; offset = f.head.offset };
  length = f.length;
}

-- a frame's length, and where its data stands
pub frame_long : (h : DataHead) (body : List ℕ) → length (data_bytes h body) ≡ frame_end (length body)
frame_long h body = out.frame_long (under h) body

pub body_held : (h : DataHead) (body : List ℕ) → take (length body) (drop 24 (data_bytes h body)) ≡ body
body_held h body = out.body_held (under h) body

apart : (f : Frame DataHead) (k : Refusal) → Err k ≡ Ok f → ⊥
apart f k e = let z : ◌≡◌ {A = ℕ} 0 1 = cc in omega arith

-- what the one reader finds is what the other does
as_out : (s : List ℕ) (f : Frame DataHead) → read_data s ≡ Ok f → read_data_out s ≡ Out (framed f)
unfolding read_data
as_out s f e =
    let fine = is_blank s && kind_listed (header_of s) in
    let p = passed Err (Ok (data_of s)) (Ok f) (apart f) (frame_sized (length s)) (fine && filled s) e in
    let l = laid s (and_left fine _ p.1.0) in
    let fill = eqb-true _ 0 (and_right fine _ p.1.0) in
    let same : data_of s ≡ f = cc p.1.1 in
    out.is_found s (sized (length s) p.0) (record {
      rest = record { gap = l.gap; pair = l.pair; fill = l.fill; word = l.word };
      fill = fill;
      kind = l.kind;
      bits = l.bits;
    })
    ∙ (λ i. Out (record {
      head = record {
        destination = (same i).head.destination;
        source = (same i).head.source;
        changing = (same i).head.changing;
        tag = (same i).head.tag;
        transfer = l.ones i;
        offset = (same i).head.offset;
      };
      length = (same i).length;
    }))

of_out : (s : List ℕ) (f : Frame DataHead) → read_data_out s ≡ Out (framed f) → read_data s ≡ Ok f
unfolding read_data
of_out s f e =
    let r = out.found s (framed f) e in
    let b = r.header.rest in
    let ones : (header_of s).transfer ≡ 65535 = ap (λ (d : Frame OutHead). d.head.transfer) r.same in
    let fine = is_laid s (record { gap = b.gap; pair = b.pair; fill = b.fill; word = b.word; kind = r.header.kind; bits = r.header.bits; ones = ones }) in
    sym (by_none Err (Ok (data_of s)) (is_sized (length s) r.size) (and_true fine (eq-eqb _ 0 r.header.fill))) ∙ ap (λ (d : Frame OutHead). Ok (plain d)) r.same

-- ROUND TRIP 1: reading what was written
pub read_written : (h : DataHead) (body : List ℕ) → Listed h → Typed h → 0 < length body → length body ≤ 1024 → read_data (data_bytes h body) ≡ Ok (record { head = h; length = length body })
read_written h body l t some few =
    of_out (data_bytes h body) (record { head = h; length = length body })
    (out.read_written (under h) body
    (record { destination = l.destination; source = l.source; changing = l.changing })
    (record { tag = t.tag; transfer = omega arith; offset = t.offset })
    some few)

-- what a reader's frame says of its fields and lengths
pub record Fits (s : List ℕ) (f : Frame DataHead) : Type 0 where
  pub count : length (take f.length (drop 24 s)) ≡ f.length
  pub end : frame_end f.length ≡ length s
  pub least : 0 < f.length
  pub most : f.length ≤ 1024
  pub listed : Listed f.head

pub fits : (s : List ℕ) (f : Frame DataHead) → ((i : ℕ) → get_or s i 0 < 256) → read_data s ≡ Ok f → Fits s f
fits s f small e =
    let o = out.fits s (framed f) small (as_out s f e) in
    let l = o.listed in
    record { count = o.count; end = o.end; least = o.least; most = o.most; listed = record { destination = l.destination; source = l.source; changing = l.changing } }

-- ROUND TRIP 2: writing what was read gives every byte back
pub written_read : (s : List ℕ) (f : Frame DataHead) → ((i : ℕ) → get_or s i 0 < 256) → read_data s ≡ Ok f → data_bytes f.head (take f.length (drop 24 s)) ≡ s
written_read s f small e = out.written_read s (framed f) small (as_out s f e)
