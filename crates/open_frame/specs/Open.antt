-- Document 01, 'OPEN address frame, 28 bytes, big-endian': where each field stands, and what a reader and a writer answer.
-- Assumes nothing.
use Rattle.refusals.specs.declared.Refusal.{Refusal}
use Rattle.std.specs.Prelude.{ℕ, ◌+◌, ◌*◌, ◌/◌, ◌%◌, ◌^◌, ◌<◌, Bool, ◌&&◌, List, [], ◌∷◌, length, get_or, set, eqb, ltb, leb, Err, Ok, Result}
use Rattle.wire.specs.Be.{be_at}
use Rattle.wire.specs.Fields.{Field, ◌bytes◌, lay_bytes}
use Rattle.refusals.specs.Causes.{Cause, refuse, buffer_causes}
use Rattle.open_frame.specs.declared.Head.{Head}
use Rattle.open_frame.specs.declared.OpenFrame.{OpenFrame}

-- 01 OPEN.2: Byte 0: bit 7 initiator, bits 6 to 4 protocol (0 SMP, 1 SSP, 2 STP), bits 3 to 0 type 1.
abbrev pub byte0 : ℕ → ℕ → ℕ
byte0 initiator protocol = initiator * 128 + (protocol * 16 + 1)

-- 01 OPEN.3: Byte 1: features (high four bits), rate (low four: 8, 9 or 10).
abbrev pub byte1 : ℕ → ℕ → ℕ
byte1 features rate = features * 16 + rate

-- 01 OPEN.1: OPEN address frame, 28 bytes, big-endian
-- 01 OPEN.4: Bytes 2-3 initiator connection tag; 4-11 destination; 12-19 source; 21 pathway blocked count (PBC); 22-23 arbitration wait time (AWT).
abbrev pub open_fields : OpenFrame → List Field
open_fields f =
    (1 bytes byte0 f.head.initiator f.head.protocol)
    ∷ (1 bytes byte1 f.head.features f.head.rate)
    ∷ (2 bytes f.head.tag)
    ∷ (8 bytes f.head.destination)
    ∷ (8 bytes f.head.source)
    ∷ (1 bytes 0)
    ∷ (1 bytes f.pbc.0)
    ∷ (2 bytes f.awt.0)
    ∷ (4 bytes 0)
    ∷ []

abbrev pub open_bytes : OpenFrame → List ℕ
open_bytes f = lay_bytes (open_fields f)

-- the same fields, read
abbrev pub head_of : List ℕ → Head
head_of s = record {
  initiator = get_or s 0 0 / 128;
  protocol = get_or s 0 0 / 16 % 8;
  features = get_or s 1 0 / 16;
  rate = get_or s 1 0 % 16;
  tag = be_at s 2 2;
  destination = be_at s 4 8;
  source = be_at s 12 8;
}

abbrev pub frame_of : List ℕ → OpenFrame
frame_of s = record { head = head_of s; pbc = record { 0 = get_or s 21 0 }; awt = record { 0 = be_at s 22 2 } }

-- 01 OPEN.5: Bytes 20 and 24-27 aren't carried: any value when read, zero when written.
abbrev pub not_carried : List ℕ
not_carried = 20 ∷ 24 ∷ 25 ∷ 26 ∷ 27 ∷ []

-- a buffer with zero at each of these places
abbrev pub cleared : List ℕ → List ℕ → List ℕ
cleared [] s = s
cleared (i ∷ is) s = cleared is (set s i 0)

-- protocol SMP, SSP or STP, rate 8, 9 or 10, and initiator and features no wider than their bits
abbrev pub head_listed : Head → Bool
head_listed h = ltb h.initiator 2 && (ltb h.protocol 3 && (ltb h.features 16 && (leb 8 h.rate && ltb h.rate 11)))

-- the numbers are those of their types
pub record Widths (f : OpenFrame) : Type 0 where
  pub tag : f.head.tag < 256 ^ 2
  pub destination : f.head.destination < 256 ^ 8
  pub source : f.head.source < 256 ^ 8
  pub pbc : f.pbc.0 < 256
  pub awt : f.awt.0 < 256 ^ 2

abbrev pub typed : List ℕ → Bool
typed s = eqb (get_or s 0 0 % 16) 1

-- 01 REFUSAL.1 01 REFUSAL.2
-- 01 OPEN.6: Any other length is refusal 1, any other type, protocol or rate 2.
abbrev pub read_causes : List ℕ → List Cause
read_causes s = buffer_causes (eqb (length s) 28) (typed s && head_listed (head_of s))

-- 01 REFUSAL.1 01 REFUSAL.2
abbrev pub write_causes : OpenFrame → List ℕ → List Cause
write_causes f out = buffer_causes (eqb (length out) 28) (head_listed f.head)

unfoldable pub read_open : List ℕ → Result OpenFrame Refusal
read_open s = refuse Err (read_causes s) (Ok (frame_of s))
