-- Fields of bits that don't overlap are joined by an or as by a sum, since no bit stands in both. Assumes nothing.
use mathlib.Core.Path.{◌≡◌}
use Prim.Native.Nat.{ℕ, ◌+◌, ◌*◌, ◌%◌, ◌^◌, ◌<◌}
use native.Mathlib.Nat.{mod-eq_of_lt}
use lib.Bits.{bit_or, or_shifted}

-- h shifted by k bits within w, and k bits beside it
pub joined : (k w h l : ℕ) → h * 2 ^ k < w → l < 2 ^ k → bit_or (h * 2 ^ k % w) l ≡ h * 2 ^ k + l
joined k w h l fits low = rw (mod-eq_of_lt fits) (or_shifted h k l low)
