-- The DATA frame of a read: what a writer leaves, and what a reader finds. Assumes nothing.
use Rattle.ssp_frame.specs.declared.Frame.{Frame}
use Rattle.refusals.specs.declared.Refusal.{Refusal}
use Rattle.std.specs.Prelude.{ℕ, ◌+◌, ◌-◌, ◌%◌, ◌^◌, ◌≤◌, ◌<◌, Bool, ◌&&◌, List, ◌++◌, length, get_or, drop, replicate, eqb, ltb, leb, Err, Ok, Result}
use Rattle.wire.specs.Be.{be_at}
use Rattle.wire.specs.Fields.{lay_bytes}
use Rattle.refusals.specs.Causes.{Cause, refuse, buffer_causes}
use Rattle.ssp_frame.specs.Header.{header_fields, header_of, is_blank}
use Rattle.ssp_frame.specs.declared.header.Header.{Header}
use Rattle.ssp_frame.specs.declared.data.DataHead.{DataHead}

-- zeros behind n bytes of data
abbrev pub fill_of : ℕ → ℕ
fill_of n = (4 - n % 4) % 4

-- data and the zeros behind it
abbrev pub padded : List ℕ → List ℕ
padded body = body ++ replicate (fill_of (length body)) 0

-- the length of the frame of n bytes of data
abbrev pub frame_end : ℕ → ℕ
frame_end n = 24 + n + fill_of n

-- an output with a header, the data and its fill at its front
abbrev pub frame_left : Header → List ℕ → List ℕ → List ℕ
frame_left h body out = (lay_bytes (header_fields h) ++ padded body) ++ drop (frame_end (length body)) out

-- 01 DATA.1: transfer tag 18-19 all ones
-- and type 1
abbrev pub data_header : DataHead → ℕ → Header
data_header h fill = record {
  kind = 1;
  destination = h.destination;
  source = h.source;
  bits = h.changing;
  fill = fill;
  tag = h.tag;
  transfer = 65535;
  offset = h.offset;
}

-- 01 DATA.2: The data goes behind the 24 header bytes already written, then zero fill to four bytes.
abbrev pub data_bytes : DataHead → List ℕ → List ℕ
data_bytes h body = lay_bytes (header_fields (data_header h (fill_of (length body)))) ++ (body ++ replicate (fill_of (length body)) 0)

-- 01 DATA.3: bytes past the frame stay
-- the output with the frame at its front
abbrev pub data_left : DataHead → List ℕ → List ℕ → List ℕ
data_left h body out = data_bytes h body ++ drop (frame_end (length body)) out

-- 01 DATA.3: Data of the wrong length, or an output shorter than the frame: refusal 1; bytes past the frame stay.
-- n bytes of data, for an output of m bytes
abbrev pub data_sized : ℕ → ℕ → Bool
data_sized n m = leb n 1024 && (ltb 0 n && leb (frame_end n) m)

-- what the payload writer asks: n bytes of data and their fill are at least a word, and have room in m bytes
pub record PayloadFits (n fill m : ℕ) : Type 0 where
  pub most : n ≤ 1024
  pub word : 4 ≤ n + fill
  pub few : fill < 4
  pub room : n + fill ≤ m

-- hashed addresses and changing data pointer no wider than their fields
abbrev pub data_listed : DataHead → Bool
data_listed h = ltb h.destination (256 ^ 3) && (ltb h.source (256 ^ 3) && ltb h.changing 2)

-- the numbers that `data_listed` leaves open are those of their types
pub record Typed (h : DataHead) : Type 0 where
  pub tag : h.tag < 256 ^ 2
  pub offset : h.offset < 256 ^ 4

-- 01 REFUSAL.1 01 REFUSAL.2
abbrev pub write_causes : DataHead → List ℕ → List ℕ → List Cause
write_causes h body out = buffer_causes (data_sized (length body) (length out)) (data_listed h)

-- whether n bytes are taken by a reader of frames that have `least` bytes at least
abbrev pub sized : ℕ → ℕ → Bool
sized least n = leb least n && (leb n 1048 && eqb (n % 4) 0)

-- 01 DATA.4: The reader takes 28 to 1,048 bytes, a multiple of four, else 1; any header byte off this layout or fill not zero is 2.
abbrev pub frame_sized : ℕ → Bool
frame_sized n = sized 28 n

abbrev pub kind_listed : Header → Bool
kind_listed h = eqb h.kind 1 && (ltb h.bits 2 && eqb h.transfer 65535)

abbrev pub filled : List ℕ → Bool
filled s = eqb (be_at s (length s - get_or s 11 0) (get_or s 11 0)) 0

-- "the rest zero", and the fill
abbrev pub rest_zero : List ℕ → Bool
rest_zero s = is_blank s && filled s

-- 01 REFUSAL.1 01 REFUSAL.2
-- 01 DATA.4: any header byte off this layout or fill not zero is 2
abbrev pub read_causes : List ℕ → List Cause
read_causes s = buffer_causes (frame_sized (length s)) ((is_blank s && kind_listed (header_of s)) && filled s)

abbrev pub data_of : List ℕ → Frame DataHead
data_of s = record {
  head = record {
    destination = (header_of s).destination;
    source = (header_of s).source;
    changing = (header_of s).bits;
    tag = (header_of s).tag;
    offset = (header_of s).offset;
  };
  length = length s - 24 - (header_of s).fill;
}

unfoldable pub read_data : List ℕ → Result (Frame DataHead) Refusal
read_data s = refuse Err (read_causes s) (Ok (data_of s))
