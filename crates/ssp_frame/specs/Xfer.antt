-- The XFER_RDY frame, by which a target asks for a range of a write's bytes: what a writer leaves, and what a reader finds.
-- Assumes nothing.
use Rattle.refusals.specs.declared.Refusal.{Refusal}
use Rattle.std.specs.Prelude.{ℕ, ◌+◌, ◌*◌, ◌/◌, ◌%◌, ◌^◌, ◌<◌, Bool, ◌&&◌, List, [], ◌∷◌, ◌++◌, length, drop, eqb, ltb, leb, Err, Ok, Result}
use Rattle.wire.specs.Be.{be_at}
use Rattle.wire.specs.Fields.{Field, ◌bytes◌, lay_bytes}
use Rattle.refusals.specs.Causes.{Cause, refuse, buffer_causes}
use Rattle.ssp_frame.specs.Header.{header_fields, header_of, is_blank}
use Rattle.ssp_frame.specs.declared.header.Header.{Header}
use Rattle.ssp_frame.specs.declared.xfer_rdy.XferHead.{XferHead}

-- byte 10: bit 1 retransmit, bit 2 retry data frames
abbrev pub bits_of : ℕ → ℕ → ℕ
bits_of retransmit retry = retransmit * 2 + retry * 4

abbrev pub retransmit_of : ℕ → ℕ
retransmit_of bits = bits / 2 % 2

abbrev pub retry_of : ℕ → ℕ
retry_of bits = bits / 4 % 2

-- 02 c.2
-- type 5; no fill; transfer tag 18-19; 20-23 zero
abbrev pub xfer_header : XferHead → Header
xfer_header h = record {
  kind = 5;
  destination = h.destination;
  source = h.source;
  bits = bits_of h.retransmit h.retry;
  fill = 0;
  tag = h.tag;
  transfer = h.transfer;
  offset = 0;
}

-- behind the header: 24-27 requested offset, 28-31 write data length, 32-35 zero
abbrev pub range_fields : XferHead → List Field
range_fields h = (4 bytes h.offset) ∷ (4 bytes h.length) ∷ (4 bytes 0) ∷ []

abbrev pub xfer_bytes : XferHead → List ℕ
xfer_bytes h = lay_bytes (header_fields (xfer_header h)) ++ lay_bytes (range_fields h)

-- the output with the frame at its front; bytes past the frame stay
abbrev pub xfer_left : XferHead → List ℕ → List ℕ
xfer_left h out = xfer_bytes h ++ drop 36 out

-- hashed addresses of 24 bits, retransmit and retry data frames 0 or 1, write data length 1 or more
abbrev pub xfer_listed : XferHead → Bool
xfer_listed h = ltb h.destination (256 ^ 3) && (ltb h.source (256 ^ 3) && (ltb h.retransmit 2 && (ltb h.retry 2 && ltb 0 h.length)))

-- the numbers that `xfer_listed` leaves open are those of their types
pub record Typed (h : XferHead) : Type 0 where
  pub tag : h.tag < 256 ^ 2
  pub transfer : h.transfer < 256 ^ 2
  pub offset : h.offset < 256 ^ 4
  pub length : h.length < 256 ^ 4

-- 1: an output shorter than the frame; 2: a number wider than its field, or a write data length of 0
abbrev pub write_causes : XferHead → List ℕ → List Cause
write_causes h out = buffer_causes (leb 36 (length out)) (xfer_listed h)

-- the header of an XFER_RDY: type 5, no bit of byte 10 but bits 1 and 2, bytes 11 and 20-23 zero
abbrev pub xfer_kind : Header → Bool
xfer_kind h = eqb h.kind 5 && (eqb (h.bits % 2) 0 && (ltb h.bits 8 && (eqb h.fill 0 && eqb h.offset 0)))

-- and what stands behind it: a write data length that isn't 0, and zeros
abbrev pub range_listed : List ℕ → Bool
range_listed s = ltb 0 (be_at s 28 4) && eqb (be_at s 32 4) 0

-- 1: not 36 bytes; 2: a byte or bit off the layout, or a write data length of 0
abbrev pub read_causes : List ℕ → List Cause
read_causes s = buffer_causes (eqb (length s) 36) (is_blank s && (xfer_kind (header_of s) && range_listed s))

abbrev pub xfer_of : List ℕ → XferHead
xfer_of s = record {
  destination = (header_of s).destination;
  source = (header_of s).source;
  retransmit = retransmit_of (header_of s).bits;
  retry = retry_of (header_of s).bits;
  tag = (header_of s).tag;
  transfer = (header_of s).transfer;
  offset = be_at s 24 4;
  length = be_at s 28 4;
}

unfoldable pub read_xfer_rdy : List ℕ → Result XferHead Refusal
read_xfer_rdy s = refuse Err (read_causes s) (Ok (xfer_of s))
