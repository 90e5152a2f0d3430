-- Members of a list folded in from the left, each with its number; d stands for a member past the end. Assumes nothing.
use Rattle.std.specs.Prelude.{Bool, true, ◌&&◌, List, ℕ, zero, suc, ◌+◌, get_or, set}

module _ {A B : Type 0} (d : B) (f : A → B → ℕ → A) (a : A) (l : List B) where
  -- the first n
  unfoldable pub fold_to : ℕ → A
  fold_to zero = a
  fold_to (suc n) = f (fold_to n) (get_or l n d) n

  -- n of them from number k on
  unfoldable pub fold_from : ℕ → ℕ → A
  fold_from k zero = a
  fold_from k (suc n) = f (fold_from k n) (get_or l (k + n) d) (k + n)

-- the first n members, each changed by its number
module _ {B : Type 0} (d : B) (f : B → ℕ → B) (l : List B) where
  unfoldable pub map_to : ℕ → List B
  map_to zero = l
  map_to (suc n) = set (map_to n) n (f (get_or (map_to n) n d) n)

-- the test holds at each number below n
unfoldable pub all_below : (ℕ → Bool) → ℕ → Bool
all_below t zero = true
all_below t (suc n) = all_below t n && t n
