-- An XFER_RDY that was written is read back, and one that was read is written back byte for byte: its fields are all that it has.
-- Assumes nothing.
use Rattle.std.specs.Prelude.{Err, Ok}
use mathlib.Core.Path.{◌≡◌, refl, ◌∙◌, ap, sym, subst}
use mathlib.Core.Bool.{◌&&◌}
use mathlib.Core.List.{List, ◌++◌}
use Prim.Native.Nat.{ℕ, ◌*◌, ◌+◌, ◌/◌, ◌%◌, ◌<◌}
use native.Mathlib.Omega.{arith}
use lib.Dec.{eqb}
use lib.ListN.{length, get_or, take, drop, length-drop, take-append-drop}
use lib.Seq.{take_all}
use borrow.Author.Tests.{eq-eqb, eqb-true}
use Rattle.wire.specs.Be.{be_at}
use Rattle.wire.specs.Fields.{lay_bytes}
use Rattle.wire.proofs.Laws.{be_at_lt, be_at-be_bytes, be_bytes-be_at, known_back}
use Rattle.wire.proofs.Fields.{Holds, nothing, ◌then◌, holds_are}
use Rattle.refusals.proofs.Frames.{by_none, passed}
use Rattle.refusals.specs.declared.Refusal.{Refusal}
use Rattle.ssp_frame.specs.Header.{header_of, is_blank}
use Rattle.ssp_frame.specs.Xfer.{bits_of, retransmit_of, retry_of, xfer_header, range_fields, xfer_bytes, Typed, xfer_kind, range_listed, xfer_of, read_xfer_rdy}
use Rattle.ssp_frame.specs.declared.header.Header.{Header}
use Rattle.ssp_frame.specs.declared.xfer_rdy.XferHead.{XferHead}
use Rattle.ssp_frame.proofs.XferFields.{Listed, Laid, laid}
use Rattle.ssp_frame.proofs.Heads.{Widths, header_back}
use Rattle.ssp_frame.proofs.Parts.{header_is}

widths : (h : XferHead) → Listed h → Typed h → Widths (xfer_header h)
widths h l t = record {
  kind = omega arith;
  destination = l.destination;
  source = l.source;
  bits = omega (arith, l.retransmit, l.retry);
  fill = omega arith;
  tag = t.tag;
  transfer = t.transfer;
  offset = omega arith;
}

-- ROUND TRIP 1: reading what was written
pub read_written : (h : XferHead) → Listed h → Typed h → read_xfer_rdy (xfer_bytes h) ≡ Ok h
unfolding read_xfer_rdy
read_written h l t =
    let s = xfer_bytes h in
    let back : header_of s ≡ xfer_header h = header_back (xfer_header h) (lay_bytes (range_fields h)) (widths h l t) in
    let bits : (header_of s).bits ≡ bits_of h.retransmit h.retry = ap (λ (g : Header). g.bits) back in
    let count : be_at s 28 4 ≡ h.length = be_at-be_bytes 4 h.length t.length in
    let offset : be_at s 24 4 ≡ h.offset = be_at-be_bytes 4 h.offset t.offset in
    let retransmit : retransmit_of (header_of s).bits ≡ h.retransmit = omega (arith, bits, l.retransmit, l.retry) in
    let retry : retry_of (header_of s).bits ≡ h.retry = omega (arith, bits, l.retransmit, l.retry) in
    let fine = (laid s).1 (record {
      rest = record { gap = refl; pair = refl; fill = omega arith; word = refl };
      kind = refl;
      even = omega (arith, bits);
      bits = omega (arith, bits, l.retransmit, l.retry);
      fill = refl;
      none = refl;
      length = omega (arith, count, l.length);
      last = refl;
    }) in
    sym (by_none Err (Ok (xfer_of s)) (eq-eqb (length s) 36 refl) fine)
    ∙ (λ i. Ok (record {
      destination = (back i).destination;
      source = (back i).source;
      retransmit = retransmit i;
      retry = retry i;
      tag = (back i).tag;
      transfer = (back i).transfer;
      offset = offset i;
      length = count i;
    }))

-- what a reader's frame says of the buffer
pub record Found (s : List ℕ) (h : XferHead) : Type 0 where
  pub long : length s ≡ 36
  pub bytes : Laid s
  pub same : xfer_of s ≡ h

apart : (h : XferHead) (k : Refusal) → Err k ≡ Ok h → ⊥
apart h k e = let z : ◌≡◌ {A = ℕ} 0 1 = cc in omega arith

pub found : (s : List ℕ) (h : XferHead) → read_xfer_rdy s ≡ Ok h → Found s h
unfolding read_xfer_rdy
found s h e =
    let p = passed Err (Ok (xfer_of s)) (Ok h) (apart h) (eqb (length s) 36) (is_blank s && (xfer_kind (header_of s) && range_listed s)) e in
    record { long = eqb-true (length s) 36 p.0; bytes = (laid s).0 p.1.0; same = cc p.1.1 }

-- and of its fields
pub found_listed : (s : List ℕ) (h : XferHead) → ((i : ℕ) → get_or s i 0 < 256) → Found s h → Listed h
found_listed s h small r = subst (λ (g : XferHead). Listed g) r.same (record {
  destination = be_at_lt s 1 3 small;
  source = be_at_lt s 5 3 small;
  retransmit = omega arith;
  retry = omega arith;
  length = r.bytes.length;
})

-- bits 1 and 2 are all that byte 10 has
two_bits : (b : ℕ) → b % 2 ≡ 0 → b < 8 → bits_of (retransmit_of b) (retry_of b) ≡ b
two_bits b even few =
    let half : b / 2 * 2 ≡ b = omega arith in
    let quarter : b / 4 ≡ b / 2 / 2 = omega arith in
    let high : b / 4 % 2 ≡ b / 4 = omega arith in
    let split : b / 2 ≡ b / 2 / 2 * 2 + b / 2 % 2 = omega arith in
    omega (arith, half, quarter, high, split)

-- ROUND TRIP 2: writing what was read gives every byte back
pub written_read : (s : List ℕ) (h : XferHead) → ((i : ℕ) → get_or s i 0 < 256) → read_xfer_rdy s ≡ Ok h → xfer_bytes h ≡ s
written_read s h small e =
    let r = found s h e in
    let b = r.bytes in
    let long = r.long in
    let header : xfer_header (xfer_of s) ≡ header_of s = λ i. record {
      kind = sym b.kind i;
      destination = (header_of s).destination;
      source = (header_of s).source;
      bits = two_bits (get_or s 10 0) b.even b.bits i;
      fill = sym b.fill i;
      tag = (header_of s).tag;
      transfer = (header_of s).transfer;
      offset = sym b.none i;
    } in
    let range : Holds s 24 (range_fields (xfer_of s)) =
    be_bytes-be_at s 24 4 small (omega arith)
    then be_bytes-be_at s 28 4 small (omega arith)
    then known_back s 32 4 small (omega arith) b.last
    then nothing in
    ap xfer_bytes (sym r.same)
    ∙ (λ i. header_is s small (omega arith) b.rest header i ++ holds_are range i)
    ∙ ap (λ (l : List ℕ). take 24 s ++ l) (take_all 12 (drop 24 s) (omega (arith, length-drop 24 s)))
    ∙ take-append-drop 24 s
