-- The header's round trips: its fields fill the 24 bytes without a gap. Assumes nothing.
use mathlib.Core.Path.{◌≡◌}
use mathlib.Core.List.{List, ◌++◌}
use Prim.Native.Nat.{ℕ, ◌%◌, ◌^◌, ◌≤◌, ◌<◌}
use native.Mathlib.Omega.{arith}
use lib.ListN.{length, get_or, take}
use Rattle.wire.specs.Be.{be_at}
use Rattle.wire.specs.Fields.{lay_bytes}
use Rattle.wire.proofs.Laws.{be_at-be_bytes, byte_back, be_bytes-be_at, known_back}
use Rattle.wire.proofs.Fields.{Holds, nothing, ◌then◌, holds_are}
use Rattle.ssp_frame.specs.Header.{header_fields, header_of}
use Rattle.ssp_frame.specs.declared.header.Header.{Header}

-- the numbers are those of their fields
pub record Widths (h : Header) : Type 0 where
  pub kind : h.kind < 256
  pub destination : h.destination < 256 ^ 3
  pub source : h.source < 256 ^ 3
  pub bits : h.bits < 256
  pub fill : h.fill < 4
  pub tag : h.tag < 256 ^ 2
  pub transfer : h.transfer < 256 ^ 2
  pub offset : h.offset < 256 ^ 4

-- ROUND TRIP 1: reading what was written, whatever follows it
pub header_back : (h : Header) (rest : List ℕ) → Widths h → header_of (lay_bytes (header_fields h) ++ rest) ≡ h
header_back h rest w =
    let kind : h.kind % 256 ≡ h.kind = omega (arith, w.kind) in
    let bits : h.bits % 256 ≡ h.bits = omega (arith, w.bits) in
    let fill : h.fill % 256 ≡ h.fill = omega (arith, w.fill) in
    λ i. record {
      kind = kind i;
      destination = be_at-be_bytes 3 h.destination w.destination i;
      source = be_at-be_bytes 3 h.source w.source i;
      bits = bits i;
      fill = fill i;
      tag = be_at-be_bytes 2 h.tag w.tag i;
      transfer = be_at-be_bytes 2 h.transfer w.transfer i;
      offset = be_at-be_bytes 4 h.offset w.offset i;
    }

-- ROUND TRIP 2: writing what was read, where what no field holds was zero
module _ (s : List ℕ) (small : (i : ℕ) → get_or s i 0 < 256) (long : 24 ≤ length s) where
  pub header_forth : get_or s 4 0 ≡ 0 → be_at s 8 2 ≡ 0 → be_at s 12 4 ≡ 0 → lay_bytes (header_fields (header_of s)) ≡ take 24 s
  header_forth gap pair word =
      let zero : be_at s 4 1 ≡ 0 = omega (arith, gap) in
      let fields : Holds s 0 (header_fields (header_of s)) =
      byte_back s 0 small (omega arith)
      then be_bytes-be_at s 1 3 small (omega arith)
      then known_back s 4 1 small (omega arith) zero
      then be_bytes-be_at s 5 3 small (omega arith)
      then known_back s 8 2 small (omega arith) pair
      then byte_back s 10 small (omega arith)
      then byte_back s 11 small (omega arith)
      then known_back s 12 4 small (omega arith) word
      then be_bytes-be_at s 16 2 small (omega arith)
      then be_bytes-be_at s 18 2 small (omega arith)
      then be_bytes-be_at s 20 4 small (omega arith)
      then nothing in
      holds_are fields
