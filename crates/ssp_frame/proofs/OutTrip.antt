-- A frame of data out that was written is read back, and one that was read is written back byte for byte: the header's fields, the
-- data and the fill are all that it has. Assumes nothing.
use Rattle.ssp_frame.specs.declared.Frame.{Frame}
use Rattle.std.specs.Prelude.{Err, Ok}
use mathlib.Core.Path.{◌≡◌, refl, ◌∙◌, ap, sym, subst}
use mathlib.Core.Bool.{true, ◌&&◌}
use mathlib.Core.List.{List, [], ◌++◌}
use Prim.Native.Nat.{ℕ, ◌-◌, ◌<◌, ◌≤◌}
use native.Mathlib.Omega.{arith}
use lib.ListN.{length, get_or, take, drop, replicate}
use lib.Seq.{take-append_seam}
use borrow.Author.Tests.{lt-ltb}
use Rattle.laws.proofs.Bools.{and_true}
use Rattle.wire.specs.Fields.{lay_bytes}
use Rattle.wire.proofs.Laws.{be_at_lt}
use Rattle.refusals.proofs.Frames.{by_none, passed}
use Rattle.refusals.specs.declared.Refusal.{Refusal}
use Rattle.ssp_frame.specs.Header.{header_fields, header_of}
use Rattle.ssp_frame.specs.Data.{fill_of, padded, frame_end, frame_sized, rest_zero}
use Rattle.ssp_frame.specs.Out.{out_header, out_bytes, Typed, out_kind, out_of, read_data_out}
use Rattle.ssp_frame.specs.declared.header.Header.{Header}
use Rattle.ssp_frame.specs.declared.data_out.OutHead.{OutHead}
use Rattle.ssp_frame.proofs.Fields.{Sized, sized, is_sized}
use Rattle.ssp_frame.proofs.OutFields.{Listed, Laid, laid}
use Rattle.ssp_frame.proofs.Heads.{Widths}
use Rattle.ssp_frame.proofs.Parts.{padded_long, is_made, Ends, fill_is, body_long, whole, header_is}

widths : (h : OutHead) (fill : ℕ) → Listed h → Typed h → fill < 4 → Widths (out_header h fill)
widths h fill l t few = record {
  kind = omega arith;
  destination = l.destination;
  source = l.source;
  bits = omega (arith, l.changing);
  fill = few;
  tag = t.tag;
  transfer = t.transfer;
  offset = t.offset;
}

-- a frame's fields, from its header
abbrev head_of : Header → OutHead
head_of h = record { destination = h.destination; source = h.source; changing = h.bits; tag = h.tag; transfer = h.transfer; offset = h.offset }

-- a frame's length, and where its data stands
pub frame_long : (h : OutHead) (body : List ℕ) → length (out_bytes h body) ≡ frame_end (length body)
frame_long h body = padded_long (lay_bytes (header_fields (out_header h (fill_of (length body))))) body

pub body_held : (h : OutHead) (body : List ℕ) → take (length body) (drop 24 (out_bytes h body)) ≡ body
body_held h body = take-append_seam body (replicate (fill_of (length body)) 0)

-- ROUND TRIP 1: reading what was written
pub read_written : (h : OutHead) (body : List ℕ) → Listed h → Typed h → 0 < length body → length body ≤ 1024 → read_data_out (out_bytes h body) ≡ Ok (record { head = h; length = length body })
unfolding read_data_out
read_written h body l t some few =
    let n = length body in
    let s = out_bytes h body in
    let m = is_made (out_header h (fill_of n)) [] body (widths h (fill_of n) l t (omega arith)) refl in
    let long = frame_long h body in
    let size : frame_sized (length s) ≡ true = is_sized (length s) (record { least = omega (arith, long); most = omega (arith, long); four = omega (arith, long) }) in
    let kind : out_kind (header_of s) ≡ true = ap out_kind m.back ∙ lt-ltb h.changing 2 l.changing in
    let count : length s - 24 - (header_of s).fill ≡ n = omega (arith, long, ap (λ (g : Header). g.fill) m.back) in
    sym (by_none Err (Ok (out_of s)) size (and_true (and_true m.blank m.full) kind)) ∙ (λ i. Ok (record { head = head_of (m.back i); length = count i }))

-- what a reader's frame says of the buffer
pub record Found (s : List ℕ) (f : Frame OutHead) : Type 0 where
  pub size : Sized (length s)
  pub header : Laid s
  pub same : out_of s ≡ f

apart : (f : Frame OutHead) (k : Refusal) → Err k ≡ Ok f → ⊥
apart f k e = let z : ◌≡◌ {A = ℕ} 0 1 = cc in omega arith

pub found : (s : List ℕ) (f : Frame OutHead) → read_data_out s ≡ Ok f → Found s f
unfolding read_data_out
found s f e =
    let p = passed Err (Ok (out_of s)) (Ok f) (apart f) (frame_sized (length s)) (rest_zero s && out_kind (header_of s)) e in
    record { size = sized (length s) p.0; header = (laid s).0 p.1.0; same = cc p.1.1 }

-- and the other way round
pub is_found : (s : List ℕ) → Sized (length s) → Laid s → read_data_out s ≡ Ok (out_of s)
unfolding read_data_out
is_found s z l = sym (by_none Err (Ok (out_of s)) (is_sized (length s) z) ((laid s).1 l))

-- its parts
ends : (s : List ℕ) (f : Frame OutHead) → Found s f → Ends 24 f.length (get_or s 11 0) s
ends s f r =
    let z = r.size in
    let few = r.header.rest.fill in
    let is : length s - 24 - get_or s 11 0 ≡ f.length = ap (λ (d : Frame OutHead). d.length) r.same in
    record { front = refl; four = z.four; few = few; end = omega (arith, is, few, z.least) }

-- what a reader's frame says of its fields and lengths
pub record Fits (s : List ℕ) (f : Frame OutHead) : Type 0 where
  pub count : length (take f.length (drop 24 s)) ≡ f.length
  pub end : frame_end f.length ≡ length s
  pub least : 0 < f.length
  pub most : f.length ≤ 1024
  pub listed : Listed f.head

pub fits : (s : List ℕ) (f : Frame OutHead) → ((i : ℕ) → get_or s i 0 < 256) → read_data_out s ≡ Ok f → Fits s f
fits s f small e =
    let r = found s f e in
    let z = r.size in
    let p = ends s f r in
    record {
      count = body_long 24 f.length (get_or s 11 0) s p;
      end = omega (arith, fill_is 24 f.length (get_or s 11 0) s p, p.end);
      least = omega (arith, p, z.least);
      most = omega (arith, p, z.most);
      listed = subst (λ (h : OutHead). Listed h) (ap (λ (d : Frame OutHead). d.head) r.same) (record { destination = be_at_lt s 1 3 small; source = be_at_lt s 5 3 small; changing = r.header.bits });
    }

-- ROUND TRIP 2: writing what was read gives every byte back
pub written_read : (s : List ℕ) (f : Frame OutHead) → ((i : ℕ) → get_or s i 0 < 256) → read_data_out s ≡ Ok f → out_bytes f.head (take f.length (drop 24 s)) ≡ s
written_read s f small e =
    let r = found s f e in
    let k = r.header in
    let c = get_or s 11 0 in
    let p = ends s f r in
    let body = take f.length (drop 24 s) in
    let fill : fill_of (length body) ≡ c = ap fill_of (body_long 24 f.length c s p) ∙ fill_is 24 f.length c s p in
    let header : out_header f.head (fill_of (length body)) ≡ header_of s = λ i. record {
      kind = sym k.kind i;
      destination = (sym r.same i).head.destination;
      source = (sym r.same i).head.source;
      bits = (sym r.same i).head.changing;
      fill = fill i;
      tag = (sym r.same i).head.tag;
      transfer = (sym r.same i).head.transfer;
      offset = (sym r.same i).head.offset;
    } in
    ap (λ (l : List ℕ). l ++ padded body) (header_is s small (omega (arith, r.size.least)) k.rest header) ∙ whole 24 f.length c s p small k.fill
