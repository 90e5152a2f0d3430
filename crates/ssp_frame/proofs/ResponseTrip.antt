-- A RESPONSE that was written is read back, and one that was read is written back byte for byte: its two rows of fields, the data
-- and the fill are all that it has. Assumes nothing.
use Rattle.ssp_frame.specs.declared.Frame.{Frame}
use Rattle.std.specs.Prelude.{Err, Ok}
use mathlib.Core.Path.{◌≡◌, refl, ◌∙◌, ap, sym, subst}
use mathlib.Core.Bool.{Bool, true, false, cond, ◌&&◌}
use mathlib.Core.List.{List, ◌++◌}
use Prim.Native.Nat.{ℕ, ◌*◌, ◌+◌, ◌-◌, ◌/◌, ◌%◌, ◌^◌, ◌<◌, ◌≤◌}
use native.Mathlib.Omega.{arith}
use lib.Dec.{eqb, leb}
use lib.ListN.{length, get_or, take, drop, replicate}
use lib.Seq.{take-add, take-append_seam}
use borrow.Author.Tests.{eq-eqb, eqb-true}
use Rattle.laws.proofs.Bools.{and_left, and_right, and_true}
use Rattle.wire.specs.Fields.{lay_bytes}
use Rattle.wire.proofs.Laws.{be_at_lt, be_at-be_bytes, be_bytes-be_at, byte_back, known_back}
use Rattle.wire.proofs.Fields.{Holds, nothing, ◌then◌, holds_are}
use Rattle.refusals.proofs.Frames.{by_none, passed}
use Rattle.refusals.specs.declared.Refusal.{Refusal}
use Rattle.ssp_frame.specs.Header.{header_fields, header_of}
use Rattle.ssp_frame.specs.Data.{fill_of, padded, rest_zero}
use Rattle.ssp_frame.specs.Response.{response_header, iu_fields, count_of, sense_count, response_count, iu_for, response_front, response_bytes, response_end, Typed}
use Rattle.ssp_frame.specs.Response.{length_sized, response_kind, iu_of, iu_blank, body_length, iu_listed, response_of, read_response}
use Rattle.ssp_frame.specs.declared.header.Header.{Header}
use Rattle.ssp_frame.specs.declared.response.Iu.{Iu}
use Rattle.ssp_frame.specs.declared.response.ResponseHead.{ResponseHead}
use Rattle.ssp_frame.proofs.Fields.{blank}
use Rattle.ssp_frame.proofs.ResponseFields.{Kind, kind, present_listed_lem, Listed, Sized, sized, Headed, headed, Rowed, rowed}
use Rattle.ssp_frame.proofs.Heads.{Widths}
use Rattle.ssp_frame.proofs.Parts.{padded_long, is_made, Ends, fill_is, body_long, whole, header_is}

widths : (h : ResponseHead) (fill : ℕ) → Listed h → Typed h → fill < 4 → Widths (response_header h fill)
widths h fill l t few = record {
  kind = omega arith;
  destination = l.destination;
  source = l.source;
  bits = omega (arith, l.retransmit);
  fill = few;
  tag = t.tag;
  transfer = omega arith;
  offset = omega arith;
}

-- a count is at most the data's length
count_most : (kind present n : ℕ) → count_of kind present n ≤ n
count_most kind present n = by (eqb present kind)
  where
    by : (t : Bool) → cond t n 0 ≤ n
    by true = omega arith
    by false = omega arith

sense_most : (present n : ℕ) → sense_count present n ≤ n
sense_most present n = count_most _ present n

response_most : (present n : ℕ) → response_count present n ≤ n
response_most present n = count_most _ present n

-- the row of fields behind a header: what was written is read, whatever follows it
iu_back : (g : Header) (u : Iu) (rest : List ℕ) → u.present < 256 → u.status < 256 → u.sense < 256 ^ 4 → u.response < 256 ^ 4 → iu_of ((lay_bytes (header_fields g) ++ lay_bytes (iu_fields u)) ++ rest) ≡ u
iu_back g u rest hp ht hs hr =
    let present : u.present % 256 ≡ u.present = omega arith in
    let status : u.status % 256 ≡ u.status = omega arith in
    λ i. record { present = present i; status = status i; sense = be_at-be_bytes 4 u.sense hs i; response = be_at-be_bytes 4 u.response hr i }

-- a frame's length, and where its data stands
pub frame_long : (h : ResponseHead) (body : List ℕ) → length (response_bytes h body) ≡ response_end (length body)
frame_long h body = padded_long (response_front h (length body)) body

pub body_held : (h : ResponseHead) (body : List ℕ) → take (length body) (drop 48 (response_bytes h body)) ≡ body
body_held h body = take-append_seam body (replicate (fill_of (length body)) 0)

-- which is a reader's
end_sized : (n : ℕ) → n ≤ 1000 → Sized (response_end n)
end_sized n few = record { least = omega arith; most = omega arith; four = omega arith }

-- ROUND TRIP 1: reading what was written
pub read_written : (h : ResponseHead) (body : List ℕ) → Listed h → Typed h → length body ≤ 1000 → Kind h.present (length body) → read_response (response_bytes h body) ≡ Ok (record { head = h; length = length body })
unfolding read_response
read_written h body l t few k =
    let n = length body in
    let s = response_bytes h body in
    let g = response_header h (fill_of n) in
    let u = iu_for h n in
    let m = is_made g (lay_bytes (iu_fields u)) body (widths h (fill_of n) l t (omega arith)) refl in
    let long = frame_long h body in
    let bits : (header_of s).bits ≡ h.retransmit * 2 = ap (λ (x : Header). x.bits) m.back in
    let fill : (header_of s).fill ≡ fill_of n = ap (λ (x : Header). x.fill) m.back in
    let iu : iu_of s ≡ u = iu_back g u (padded body) (omega (arith, l.kind.few)) t.status (omega (arith, sense_most h.present n)) (omega (arith, response_most h.present n)) in
    let count : body_length s ≡ n = omega (arith, long, fill) in
    let size : length_sized (length s) ≡ true = ap length_sized long ∙ (sized (response_end n)).1 (end_sized n few) in
    let retransmit : (header_of s).bits / 2 % 2 ≡ h.retransmit = omega (arith, bits, l.retransmit) in
    let head = (headed s).1 (record {
      rest = (blank s).0 m.blank;
      fill = eqb-true _ 0 m.full;
      kind = refl;
      even = omega (arith, bits);
      bits = omega (arith, bits, l.retransmit);
      ones = refl;
      none = refl;
      room = omega (arith, long, fill);
    }) in
    let row : iu_listed (iu_of s) (body_length s) ≡ true =
    (λ i. iu_listed (iu i) (count i)) ∙ and_true ((present_listed_lem h.present h.status).1 l.kind) (and_true ((kind h.present n).1 k) (and_true (eq-eqb u.sense u.sense refl) (eq-eqb u.response u.response refl))) in
    sym (by_none Err (Ok (response_of s)) size (and_true head (and_true refl row)))
    ∙ (λ i. Ok (record {
      head = record {
        destination = (m.back i).destination;
        source = (m.back i).source;
        retransmit = retransmit i;
        tag = (m.back i).tag;
        present = (iu i).present;
        status = (iu i).status;
      };
      length = count i;
    }))

-- what a reader's frame says of the buffer
pub record Found (s : List ℕ) (f : Frame ResponseHead) : Type 0 where
  pub size : Sized (length s)
  pub header : Headed s
  pub row : Rowed s f.length
  pub same : response_of s ≡ f

apart : (f : Frame ResponseHead) (k : Refusal) → Err k ≡ Ok f → ⊥
apart f k e = let z : ◌≡◌ {A = ℕ} 0 1 = cc in omega arith

pub found : (s : List ℕ) (f : Frame ResponseHead) → read_response s ≡ Ok f → Found s f
unfolding read_response
found s f e =
    let head = rest_zero s && (response_kind (header_of s) && leb (48 + (header_of s).fill) (length s)) in
    let row = iu_blank s && iu_listed (iu_of s) (body_length s) in
    let p = passed Err (Ok (response_of s)) (Ok f) (apart f) (length_sized (length s)) (head && row) e in
    let same : response_of s ≡ f = cc p.1.1 in
    record {
      size = (sized (length s)).0 p.0;
      header = (headed s).0 (and_left head row p.1.0);
      row = subst (λ (d : Frame ResponseHead). Rowed s d.length) same ((rowed s (body_length s)).0 (and_right head row p.1.0));
      same = same;
    }

-- its parts
ends : (s : List ℕ) (f : Frame ResponseHead) → Found s f → Ends 48 f.length (get_or s 11 0) s
ends s f r =
    let is : length s - 48 - get_or s 11 0 ≡ f.length = ap (λ (d : Frame ResponseHead). d.length) r.same in
    record { front = refl; four = r.size.four; few = r.header.rest.fill; end = omega (arith, is, r.header.room) }

-- what a reader's frame says of its fields and lengths
pub record Fits (s : List ℕ) (f : Frame ResponseHead) : Type 0 where
  pub count : length (take f.length (drop 48 s)) ≡ f.length
  pub end : response_end f.length ≡ length s
  pub most : f.length ≤ 1000
  pub kind : Kind f.head.present f.length
  pub listed : Listed f.head

pub fits : (s : List ℕ) (f : Frame ResponseHead) → ((i : ℕ) → get_or s i 0 < 256) → read_response s ≡ Ok f → Fits s f
fits s f small e =
    let r = found s f e in
    let p = ends s f r in
    record {
      count = body_long 48 f.length (get_or s 11 0) s p;
      end = omega (arith, fill_is 48 f.length (get_or s 11 0) s p, p.end);
      most = omega (arith, p, r.size.most);
      kind = subst (λ (d : Frame ResponseHead). Kind d.head.present f.length) r.same r.row.counts;
      listed = subst (λ (d : Frame ResponseHead). Listed d.head) r.same (record { destination = be_at_lt s 1 3 small; source = be_at_lt s 5 3 small; retransmit = omega arith; kind = r.row.kind });
    }

-- ROUND TRIP 2: writing what was read gives every byte back
pub written_read : (s : List ℕ) (f : Frame ResponseHead) → ((i : ℕ) → get_or s i 0 < 256) → read_response s ≡ Ok f → response_bytes f.head (take f.length (drop 48 s)) ≡ s
written_read s f small e =
    let r = found s f e in
    let k = r.header in
    let o = r.row in
    let c = get_or s 11 0 in
    let p = ends s f r in
    let body = take f.length (drop 48 s) in
    let count = body_long 48 f.length c s p in
    let long : 48 ≤ length s = r.size.least in
    let fill : fill_of (length body) ≡ c = ap fill_of count ∙ fill_is 48 f.length c s p in
    let bits : get_or s 10 0 / 2 % 2 * 2 ≡ get_or s 10 0 = omega (arith, k.even, k.bits) in
    let header : response_header f.head (fill_of (length body)) ≡ header_of s = λ i. record {
      kind = sym k.kind i;
      destination = (sym r.same i).head.destination;
      source = (sym r.same i).head.source;
      bits = (ap (λ (d : Frame ResponseHead). d.head.retransmit * 2) (sym r.same) ∙ bits) i;
      fill = fill i;
      tag = (sym r.same i).head.tag;
      transfer = sym k.ones i;
      offset = sym k.none i;
    } in
    let present : f.head.present ≡ get_or s 34 0 = ap (λ (d : Frame ResponseHead). d.head.present) (sym r.same) in
    let iu : iu_for f.head (length body) ≡ iu_of s = λ i. record {
      present = present i;
      status = (sym r.same i).head.status;
      sense = ((λ j. sense_count (present j) (count j)) ∙ sym o.sense) i;
      response = ((λ j. response_count (present j) (count j)) ∙ sym o.response) i;
    } in
    let row : Holds s 24 (iu_fields (iu_of s)) =
    known_back s 24 8 small (omega arith) o.first
    then known_back s 32 2 small (omega arith) o.pair
    then byte_back s 34 small (omega arith)
    then byte_back s 35 small (omega arith)
    then known_back s 36 4 small (omega arith) o.word
    then be_bytes-be_at s 40 4 small (omega arith)
    then be_bytes-be_at s 44 4 small (omega arith)
    then nothing in
    let behind : lay_bytes (iu_fields (iu_for f.head (length body))) ≡ take 24 (drop 24 s) = ap (λ (u : Iu). lay_bytes (iu_fields u)) iu ∙ holds_are row in
    let front : response_front f.head (length body) ≡ take 48 s = (λ i. header_is s small (omega arith) k.rest header i ++ behind i) ∙ sym (take-add 24 24 s) in
    ap (λ (l : List ℕ). l ++ padded body) front ∙ whole 48 f.length c s p small k.fill
