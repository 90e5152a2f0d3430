-- The DATA frame of a write, "data out": DATA under the transfer tag of the XFER_RDY that asked for it. Assumes nothing.
use Rattle.ssp_frame.specs.declared.Frame.{Frame}
use Rattle.refusals.specs.declared.Refusal.{Refusal}
use Rattle.std.specs.Prelude.{ℕ, ◌-◌, ◌^◌, ◌<◌, Bool, ◌&&◌, List, ◌++◌, length, drop, eqb, ltb, Err, Ok, Result}
use Rattle.wire.specs.Fields.{lay_bytes}
use Rattle.refusals.specs.Causes.{Cause, refuse, buffer_causes}
use Rattle.ssp_frame.specs.Header.{header_fields, header_of}
use Rattle.ssp_frame.specs.Data.{fill_of, frame_end, data_sized, padded, frame_sized, rest_zero}
use Rattle.ssp_frame.specs.declared.header.Header.{Header}
use Rattle.ssp_frame.specs.declared.data_out.OutHead.{OutHead}

-- 02 c.2
-- type 1; byte 10: bit 0 changing data pointer; byte 11 the fill count; transfer tag 18-19 that of the XFER_RDY; offset 20-23
abbrev pub out_header : OutHead → ℕ → Header
out_header h fill = record {
  kind = 1;
  destination = h.destination;
  source = h.source;
  bits = h.changing;
  fill = fill;
  tag = h.tag;
  transfer = h.transfer;
  offset = h.offset;
}

-- the data behind the header, then zero fill to four bytes
abbrev pub out_bytes : OutHead → List ℕ → List ℕ
out_bytes h body = lay_bytes (header_fields (out_header h (fill_of (length body)))) ++ padded body

-- the output with the frame at its front; bytes past the frame stay
abbrev pub out_left : OutHead → List ℕ → List ℕ → List ℕ
out_left h body out = out_bytes h body ++ drop (frame_end (length body)) out

-- n bytes of data, 1 to 1,024, for an output of m bytes: as those of a read
abbrev pub out_sized : ℕ → ℕ → Bool
out_sized = data_sized

-- hashed addresses and changing data pointer no wider than their fields
abbrev pub out_listed : OutHead → Bool
out_listed h = ltb h.destination (256 ^ 3) && (ltb h.source (256 ^ 3) && ltb h.changing 2)

-- the numbers that `out_listed` leaves open are those of their types
pub record Typed (h : OutHead) : Type 0 where
  pub tag : h.tag < 256 ^ 2
  pub transfer : h.transfer < 256 ^ 2
  pub offset : h.offset < 256 ^ 4

-- 1: data of the wrong length, or an output shorter than the frame; 2: a number wider than its field
abbrev pub write_causes : OutHead → List ℕ → List ℕ → List Cause
write_causes h body out = buffer_causes (out_sized (length body) (length out)) (out_listed h)

-- the header of data out: type 1, and no bit of byte 10 but bit 0
abbrev pub out_kind : Header → Bool
out_kind h = eqb h.kind 1 && ltb h.bits 2

-- 1: not 28 to 1,048 bytes, a multiple of four; 2: a byte or bit off the layout, or fill not zero
abbrev pub read_causes : List ℕ → List Cause
read_causes s = buffer_causes (frame_sized (length s)) (rest_zero s && out_kind (header_of s))

abbrev pub out_of : List ℕ → Frame OutHead
out_of s = record {
  head = record {
    destination = (header_of s).destination;
    source = (header_of s).source;
    changing = (header_of s).bits;
    tag = (header_of s).tag;
    transfer = (header_of s).transfer;
    offset = (header_of s).offset;
  };
  length = length s - 24 - (header_of s).fill;
}

unfoldable pub read_data_out : List ℕ → Result (Frame OutHead) Refusal
read_data_out s = refuse Err (read_causes s) (Ok (out_of s))
