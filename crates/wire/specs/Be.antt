-- Numbers in a list of bytes, the highest byte first, at any width. Assumes nothing.
use Rattle.std.specs.Prelude.{ℕ, zero, suc, ◌+◌, ◌*◌, ◌/◌, ◌%◌, ◌^◌, ◌<◌, ◌≡◌, Bool, cond, ◌&&◌, List, [], ◌∷◌, ◌++◌, length, get_or, take, drop, leb}

-- the number in the n bytes of s from at on
abbrev pub be_at : List ℕ → ℕ → ℕ → ℕ
be_at s at zero = 0
be_at s at (suc n) = be_at s at n * 256 + get_or s (at + n) 0

-- the low n bytes of v
abbrev pub be_bytes : ℕ → ℕ → List ℕ
be_bytes zero v = []
be_bytes (suc n) v = be_bytes n (v / 256) ++ (v % 256 ∷ [])

-- s with the low n bytes of v from at on
abbrev pub written : List ℕ → ℕ → ℕ → ℕ → List ℕ
written s at n v = take at s ++ (be_bytes n v ++ drop (at + n) s)

-- a field of n bytes at at: at most eight, and within s
abbrev pub fits : List ℕ → ℕ → ℕ → Bool
fits s at n = leb n 8 && leb (at + n) (length s)

-- the same two for any place and width: a field that doesn't fit reads as 0, and is not written
abbrev pub get_be : List ℕ → ℕ → ℕ → ℕ
get_be s at n = cond (fits s at n) (be_at s at n) 0

abbrev pub put_be : List ℕ → ℕ → ℕ → ℕ → List ℕ
put_be s at n v = cond (fits s at n) (written s at n v) s

-- what the reader promises of its answer r
pub record Got (s : List ℕ) (at n r : ℕ) : Type 0 where
  pub number : r ≡ get_be s at n
  pub small : r < 256 ^ n
