-- Bytes 0 and 1 are sums of fields that don't overlap, so shifts and masks take them apart and an or joins them. Assumes nothing.
use mathlib.Core.Path.{◌≡◌}
use Prim.Native.Nat.{ℕ, ◌+◌, ◌*◌, ◌/◌, ◌%◌, ◌<◌}
use native.Mathlib.Omega.{arith}
use lib.Bits.{bit_or}
use Rattle.laws.proofs.Bits.{joined}
use Rattle.open_frame.specs.Open.{byte0, byte1}

-- joined by shifts and ors
pub byte0_joined : (i p : ℕ) → i < 2 → p < 8 → bit_or (i * 128 % 256) (bit_or (p * 16 % 256) 1) ≡ byte0 i p
byte0_joined i p hi hp = rw (joined 4 256 p 1 (omega arith) (omega arith)) (joined 7 256 i (p * 16 + 1) (omega arith) (omega arith))

pub byte1_joined : (f r : ℕ) → f < 16 → r < 16 → bit_or (f * 16 % 65536) r ≡ byte1 f r
byte1_joined f r hf hr = joined 4 65536 f r (omega arith) hr

-- ROUND TRIP 1 of byte 0 and of byte 1: what was joined is split
pub record Split (i p f r : ℕ) : Type 0 where
  pub initiator : byte0 i p / 128 ≡ i
  pub protocol : byte0 i p / 16 % 8 ≡ p
  pub kind : byte0 i p % 16 ≡ 1
  pub features : byte1 f r / 16 ≡ f
  pub rate : byte1 f r % 16 ≡ r

pub split : (i p f r : ℕ) → i < 2 → p < 8 → f < 16 → r < 16 → Split i p f r
split i p f r hi hp hf hr = record { initiator = omega arith; protocol = omega arith; kind = omega arith; features = omega arith; rate = omega arith }

-- ROUND TRIP 2: what was split is joined
pub byte0_back : (b : ℕ) → b % 16 ≡ 1 → byte0 (b / 128) (b / 16 % 8) ≡ b
byte0_back b h = omega arith

pub byte1_back : (b : ℕ) → byte1 (b / 16) (b % 16) ≡ b
byte1_back b = omega arith
