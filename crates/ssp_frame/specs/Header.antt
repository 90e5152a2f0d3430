-- The 24 bytes that every SSP frame starts with, as document 01 lays them out for DATA. Assumes nothing.
use Rattle.std.specs.Prelude.{ℕ, Bool, ◌&&◌, List, [], ◌∷◌, get_or, eqb, ltb}
use Rattle.wire.specs.Be.{be_at}
use Rattle.wire.specs.Fields.{Field, ◌bytes◌}
use Rattle.ssp_frame.specs.declared.header.Header.{Header}

-- 01 DATA.1: 24 header bytes: type 1; hashed destination 1-3, hashed source 5-7; byte 10 bit 0 (changing data pointer) one on the first frame of a resend; byte 11 low two bits the fill count; tag 16-17; transfer tag 18-19 all ones; offset 20-23 (in a transfer, the read offset before the frame); the rest zero.
abbrev pub header_fields : Header → List Field
header_fields h =
    (1 bytes h.kind)
    ∷ (3 bytes h.destination)
    ∷ (1 bytes 0)
    ∷ (3 bytes h.source)
    ∷ (2 bytes 0)
    ∷ (1 bytes h.bits)
    ∷ (1 bytes h.fill)
    ∷ (4 bytes 0)
    ∷ (2 bytes h.tag)
    ∷ (2 bytes h.transfer)
    ∷ (4 bytes h.offset)
    ∷ []

-- the same fields, read
abbrev pub header_of : List ℕ → Header
header_of s = record {
  kind = get_or s 0 0;
  destination = be_at s 1 3;
  source = be_at s 5 3;
  bits = get_or s 10 0;
  fill = get_or s 11 0;
  tag = be_at s 16 2;
  transfer = be_at s 18 2;
  offset = be_at s 20 4;
}

-- "the rest zero": the bytes between the fields, and the high bits of byte 11
abbrev pub is_blank : List ℕ → Bool
is_blank s = eqb (get_or s 4 0) 0 && (eqb (be_at s 8 2) 0 && (ltb (get_or s 11 0) 4 && eqb (be_at s 12 4) 0))
