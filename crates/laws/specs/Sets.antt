-- Which members of a list pass a test: as the bits of a number, the place of the first, and how many. Assumes nothing.
use Rattle.std.specs.Prelude.{Bool, cond, List, [], ◌∷◌, ℕ, suc, ◌+◌, ◌*◌}

abbrev pub bit : Bool → ℕ
bit t = cond t 1 0

module _ {A : Type 0} (f : A → Bool) where
  -- bit k says whether the member at k passes
  unfoldable pub bits_of : List A → ℕ
  bits_of [] = 0
  bits_of (a ∷ xs) = bits_of xs * 2 + bit (f a)

  -- the place of the first that passes, the list's length if none does
  unfoldable pub first_of : List A → ℕ
  first_of [] = 0
  first_of (a ∷ xs) = cond (f a) 0 (suc (first_of xs))

  unfoldable pub count_of : List A → ℕ
  count_of [] = 0
  count_of (a ∷ xs) = bit (f a) + count_of xs
