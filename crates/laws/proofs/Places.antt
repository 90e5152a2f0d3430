-- What a list has at each of its places, by going along the list. Assumes nothing.
use Prim.Native.Nat.{ℕ, zero, suc, ◌+◌, ◌≤◌, ◌<◌}
use mathlib.Core.List.{List, [], ◌∷◌, ◌++◌}
use mathlib.Core.Path.{◌≡◌, refl, subst}
use native.Mathlib.Omega.{arith}
use lib.ListN.{length, get_or}

-- a list whose last member stands in past its end has it from its place on
pub from_last : {A : Type 0} (xs : List A) (a : A) (n : ℕ) → length xs ≤ n → get_or (xs ++ (a ∷ [])) n a ≡ a
from_last [] a zero h = refl
from_last [] a (suc n) h = refl
from_last (b ∷ xs) a zero h = absurd (omega arith)
from_last (b ∷ xs) a (suc n) h = from_last xs a n (omega arith)

module _ {A : Type 0} (P : ℕ → A → Type 0) where
  -- P holds of each member and its number, the first of which is k
  abbrev pub Each : ℕ → List A → Type 0
  Each k [] = Unit {0}
  Each k (a ∷ xs) = P k a × Each (suc k) xs

  -- so it holds of the member with any number m, and of what stands in past the list
  pub each_at : (d : A) → ((m : ℕ) → P m d) → (k : ℕ) (xs : List A) → Each k xs → (n m : ℕ) → m ≡ k + n → P m (get_or xs n d)
  each_at d past k [] h n m e = past m
  each_at d past k (a ∷ xs) h zero m e = subst (λ (i : ℕ). P i a) (omega arith) h.0
  each_at d past k (a ∷ xs) h (suc n) m e = each_at d past (suc k) xs h.1 n m (omega arith)

  -- within the list nothing is asked of what stands in
  pub each_within : (d : A) (k : ℕ) (xs : List A) → Each k xs → (n m : ℕ) → m ≡ k + n → n < length xs → P m (get_or xs n d)
  each_within d k [] h n m e l = absurd (omega arith)
  each_within d k (a ∷ xs) h zero m e l = subst (λ (i : ℕ). P i a) (omega arith) h.0
  each_within d k (a ∷ xs) h (suc n) m e l = each_within d (suc k) xs h.1 n m (omega arith) (omega arith)
