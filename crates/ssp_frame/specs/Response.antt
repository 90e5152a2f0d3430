-- The RESPONSE frame, which ends a command: what a writer leaves, and what a reader finds. Assumes nothing.
use Rattle.ssp_frame.specs.declared.Frame.{Frame}
use Rattle.refusals.specs.declared.Refusal.{Refusal}
use Rattle.std.specs.Prelude.{ℕ, ◌+◌, ◌-◌, ◌*◌, ◌/◌, ◌%◌, ◌^◌, ◌<◌, Bool, not, cond, ◌&&◌, ◌||◌, List, [], ◌∷◌, ◌++◌, length, get_or, drop, eqb, ltb, leb, Err, Ok, Result}
use Rattle.wire.specs.Be.{be_at}
use Rattle.wire.specs.Fields.{Field, ◌bytes◌, lay_bytes}
use Rattle.refusals.specs.Causes.{Cause, refuse, buffer_causes}
use Rattle.ssp_frame.specs.Header.{header_fields, header_of}
use Rattle.ssp_frame.specs.Data.{fill_of, padded, sized, rest_zero}
use Rattle.ssp_frame.specs.declared.header.Header.{Header}
use Rattle.ssp_frame.specs.declared.response.Iu.{Iu}
use Rattle.ssp_frame.specs.declared.response.ResponseHead.{ResponseHead}

-- 02 c.3
-- type 7; byte 10: bit 1 retransmit; byte 11 the fill count; 18-19 all ones; 20-23 zero
abbrev pub response_header : ResponseHead → ℕ → Header
response_header h fill = record {
  kind = 7;
  destination = h.destination;
  source = h.source;
  bits = h.retransmit * 2;
  fill = fill;
  tag = h.tag;
  transfer = 65535;
  offset = 0;
}

-- behind the header: 24-33 zero; 34 data present; 35 status; 36-39 zero; 40-43 sense data length; 44-47 response data length
abbrev pub iu_fields : Iu → List Field
iu_fields u =
    (8 bytes 0)
    ∷ (2 bytes 0)
    ∷ (1 bytes u.present)
    ∷ (1 bytes u.status)
    ∷ (4 bytes 0)
    ∷ (4 bytes u.sense)
    ∷ (4 bytes u.response)
    ∷ []

-- the length of n bytes of data where data of this kind are present, else 0
abbrev pub count_of : ℕ → ℕ → ℕ → ℕ
count_of kind present n = cond (eqb present kind) n 0

-- data present 2 is sense data, 1 response data
abbrev pub sense_count : ℕ → ℕ → ℕ
sense_count present n = count_of 2 present n

abbrev pub response_count : ℕ → ℕ → ℕ
response_count present n = count_of 1 present n

abbrev pub iu_for : ResponseHead → ℕ → Iu
iu_for h n = record { present = h.present; status = h.status; sense = sense_count h.present n; response = response_count h.present n }

-- the 48 bytes before n bytes of data
abbrev pub response_front : ResponseHead → ℕ → List ℕ
response_front h n = lay_bytes (header_fields (response_header h (fill_of n))) ++ lay_bytes (iu_fields (iu_for h n))

-- the data behind them, then zero fill to four bytes
abbrev pub response_bytes : ResponseHead → List ℕ → List ℕ
response_bytes h body = response_front h (length body) ++ padded body

-- the length of the frame of n bytes of data
abbrev pub response_end : ℕ → ℕ
response_end n = 48 + n + fill_of n

-- the output with the frame at its front; bytes past the frame stay
abbrev pub response_left : ResponseHead → List ℕ → List ℕ → List ℕ
response_left h body out = response_bytes h body ++ drop (response_end (length body)) out

-- data present 0: none; 1 response data: 4 bytes; 2 sense data: 1 or more
abbrev pub kind_sized : ℕ → ℕ → Bool
kind_sized present n = (not (eqb present 0) || eqb n 0) && ((not (eqb present 1) || eqb n 4) && (not (eqb present 2) || ltb 0 n))

-- n bytes of data, at most 1,000 and of their kind's length, for an output of m bytes
abbrev pub response_sized : ℕ → ℕ → ℕ → Bool
response_sized present n m = leb n 1000 && (kind_sized present n && leb (response_end n) m)

-- data present 0, 1 or 2; status 0 with response data
abbrev pub present_listed : ℕ → ℕ → Bool
present_listed present status = ltb present 3 && (not (eqb present 1) || eqb status 0)

-- hashed addresses of 24 bits, retransmit 0 or 1
abbrev pub response_listed : ResponseHead → Bool
response_listed h = ltb h.destination (256 ^ 3) && (ltb h.source (256 ^ 3) && (ltb h.retransmit 2 && present_listed h.present h.status))

-- the numbers that `response_listed` leaves open are those of their types
pub record Typed (h : ResponseHead) : Type 0 where
  pub tag : h.tag < 256 ^ 2
  pub status : h.status < 256

-- 1: data not of its kind's length, or an output shorter than the frame; 2: a number wider than its field, or not listed
abbrev pub write_causes : ResponseHead → List ℕ → List ℕ → List Cause
write_causes h body out = buffer_causes (response_sized h.present (length body) (length out)) (response_listed h)

-- a frame of n bytes: 48 to 1,048, a multiple of four
abbrev pub length_sized : ℕ → Bool
length_sized n = sized 48 n

-- the header of a RESPONSE: type 7, no bit of byte 10 but bit 1, 18-19 all ones, 20-23 zero
abbrev pub response_kind : Header → Bool
response_kind h = eqb h.kind 7 && (eqb (h.bits % 2) 0 && (ltb h.bits 4 && (eqb h.transfer 65535 && eqb h.offset 0)))

-- what stands behind it, read
abbrev pub iu_of : List ℕ → Iu
iu_of s = record { present = get_or s 34 0; status = get_or s 35 0; sense = be_at s 40 4; response = be_at s 44 4 }

-- the bytes between its fields are zero
abbrev pub iu_blank : List ℕ → Bool
iu_blank s = eqb (be_at s 24 8) 0 && (eqb (be_at s 32 2) 0 && eqb (be_at s 36 4) 0)

-- the length that counts is the frame's less 48 less the fill
abbrev pub body_length : List ℕ → ℕ
body_length s = length s - 48 - (header_of s).fill

-- the kind, and lengths that agree with it and with n bytes of data
abbrev pub iu_listed : Iu → ℕ → Bool
iu_listed u n = present_listed u.present u.status && (kind_sized u.present n && (eqb u.sense (sense_count u.present n) && eqb u.response (response_count u.present n)))

-- 1: not 48 to 1,048 bytes, a multiple of four
-- 2: a byte or bit off the layout, fill not zero or no room for it, or a kind and its lengths that don't agree with each other or with the frame
abbrev pub read_causes : List ℕ → List Cause
read_causes s = buffer_causes (length_sized (length s)) ((rest_zero s && (response_kind (header_of s) && leb (48 + (header_of s).fill) (length s))) && (iu_blank s && iu_listed (iu_of s) (body_length s)))

abbrev pub response_of : List ℕ → Frame ResponseHead
response_of s = record {
  head = record {
    destination = (header_of s).destination;
    source = (header_of s).source;
    retransmit = (header_of s).bits / 2 % 2;
    tag = (header_of s).tag;
    present = (iu_of s).present;
    status = (iu_of s).status;
  };
  length = body_length s;
}

unfoldable pub read_response : List ℕ → Result (Frame ResponseHead) Refusal
read_response s = refuse Err (read_causes s) (Ok (response_of s))
