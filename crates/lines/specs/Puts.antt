-- Bytes put into a lent slice from a place on, as far as it goes. Assumes nothing.
use Rattle.std.specs.Prelude.{ℕ, ◌+◌, min, max, ◌≡◌, List, length}
use Rattle.std.proofs.lemmas.List.Edits.{sets}

-- the place behind k bytes put at a place of a slice of n bytes
abbrev pub behind : ℕ → ℕ → ℕ → ℕ
behind n at k = max at (min (at + k) n)

-- what a writer of xs promises of the place r that it answers and of the bytes that it leaves: a byte past the end is not stored
pub record Put (before : List ℕ) (at : ℕ) (xs : List ℕ) (r : ℕ) (after : List ℕ) : Type 0 where
  pub place : r ≡ behind (length before) at (length xs)
  pub bytes : after ≡ sets before at xs
