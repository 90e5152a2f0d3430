-- The trailing zeros of a set are the place of its first member and its ones are its members, since a set is its first member's
-- bit beside twice the set of the others. Assumes nothing.
use mathlib.Core.Path.{◌≡◌, refl, ◌∙◌}
use mathlib.Core.Bool.{Bool, true, false, cond}
use mathlib.Core.List.{List, [], ◌∷◌}
use Prim.Native.Nat.{ℕ, zero, suc, ◌+◌, ◌-◌, ◌*◌, ◌/◌, ◌%◌, ◌^◌, ◌≤◌, ◌<◌}
use native.Mathlib.Nat.{pow-suc, le_trans, not-suc-le-zero}
use native.Mathlib.Numerals.{sub-one}
use native.Mathlib.Omega.{arith}
use lib.Pow.{pow_mono}
use lib.Seq.{drop-cons}
use lib.ListN.{length, drop, get_or, length-drop, drop_of_length-le}
use lib.Count.{ones, ones_step, count_trailing_zeros, under}
use Rattle.laws.specs.Sets.{bit, bits_of, first_of, count_of}

bit_le : (t : Bool) → bit t ≤ 1
bit_le true = omega arith
bit_le false = omega arith

half : (s : ℕ) (t : Bool) → (s * 2 + bit t) / 2 ≡ s
half s true = omega arith
half s false = omega arith

odd : (s : ℕ) (t : Bool) → (s * 2 + bit t) % 2 ≡ bit t
odd s true = omega arith
odd s false = omega arith

under_bit : (t : Bool) (n : ℕ) → under (bit t) n ≡ cond t 0 (suc n)
under_bit true n = refl
under_bit false n = refl

module _ {A : Type 0} (f : A → Bool) where
  pub bits_lt : (xs : List A) → bits_of f xs < 2 ^ length xs
  unfolding bits_of
  bits_lt [] = omega arith
  bits_lt (a ∷ xs) = rw pow-suc (omega (arith, bits_lt xs, bit_le (f a)))

  pub trailing : (xs : List A) → count_trailing_zeros (length xs) (bits_of f xs) ≡ first_of f xs
  unfolding bits_of first_of count_trailing_zeros
  trailing [] = refl
  trailing (a ∷ xs) = simp (half, odd, under_bit, trailing xs)

  pub counted : (xs : List A) → ones (bits_of f xs) ≡ count_of f xs
  unfolding bits_of count_of ones
  counted [] = refl
  counted (a ∷ xs) = ones_step (bits_of f xs * 2 + bit (f a)) ∙ simp (half, odd, counted xs)

  -- a set is made from the last member down
  pub bits_down : (xs : List A) (d : A) (k : ℕ) → 0 < k → k ≤ length xs → bits_of f (drop (k - 1) xs) ≡ bits_of f (drop k xs) * 2 + bit (f (get_or xs (k - 1) d))
  unfolding bits_of
  bits_down xs d (suc k) p h = rw (sub-one, drop-cons xs k d) refl
  bits_down xs d zero p h = omega arith

  pub bits_none : (xs : List A) (k : ℕ) → length xs ≤ k → bits_of f (drop k xs) ≡ 0
  unfolding bits_of
  bits_none xs k h = rw drop_of_length-le refl

  -- of n members at most n - 1 are left behind the first, and fill n - 1 bits
  pub bits_rest : (xs : List A) (k n : ℕ) → length xs ≡ suc n → 0 < k → bits_of f (drop k xs) < 2 ^ n
  bits_rest xs k n e p = le_trans (bits_lt (drop k xs)) (pow_mono {i = length (drop k xs)} {j = n} (rw length-drop (omega arith)))

  pub first_le : (xs : List A) → first_of f xs ≤ length xs
  unfolding first_of
  first_le [] = omega arith
  first_le (a ∷ xs) = by (f a) (first_le xs)
    where
      by : (t : Bool) → first_of f xs ≤ length xs → cond t 0 (suc (first_of f xs)) ≤ suc (length xs)
      by true h = omega arith
      by false h = omega arith

  module _ (d : A) where
    -- with some member in, the first is one of them
    pub first_in : (xs : List A) → 0 < count_of f xs → (first_of f xs < length xs) × (f (get_or xs (first_of f xs) d) ≡ true)
    unfolding count_of first_of
    first_in [] h = absurd (not-suc-le-zero h)
    first_in (a ∷ xs) h = by (f a) refl (first_in xs) h
      where
        by : (t : Bool) → f a ≡ t → (0 < count_of f xs → (first_of f xs < length xs) × (f (get_or xs (first_of f xs) d) ≡ true)) → 0 < bit t + count_of f xs
            → (cond t 0 (suc (first_of f xs)) < suc (length xs)) × (f (get_or (a ∷ xs) (cond t 0 (suc (first_of f xs))) d) ≡ true)
        by true e rest h = (omega arith, e)
        by false e rest h = let i = rest (omega arith) in (omega (arith, i.0), i.1)

    -- none before the first is in
    pub first_low : (xs : List A) (k : ℕ) → k < first_of f xs → f (get_or xs k d) ≡ false
    unfolding first_of
    first_low [] k h = absurd (not-suc-le-zero h)
    first_low (a ∷ xs) k h = by (f a) refl (first_low xs) k h
      where
        by : (t : Bool) → f a ≡ t → ((k : ℕ) → k < first_of f xs → f (get_or xs k d) ≡ false) → (k : ℕ) → k < cond t 0 (suc (first_of f xs)) → f (get_or (a ∷ xs) k d) ≡ false
        by true e rest k h = absurd (not-suc-le-zero h)
        by false e rest zero h = e
        by false e rest (suc k) h = rest k (omega arith)

    -- a count of none says that none is in
    pub count_none : (xs : List A) → count_of f xs ≡ 0 → (k : ℕ) → k < length xs → f (get_or xs k d) ≡ false
    unfolding count_of
    count_none [] z k h = absurd (not-suc-le-zero h)
    count_none (a ∷ xs) z k h = by (f a) refl (count_none xs) z k h
      where
        by : (t : Bool) → f a ≡ t → (count_of f xs ≡ 0 → (k : ℕ) → k < length xs → f (get_or xs k d) ≡ false) → bit t + count_of f xs ≡ 0 → (k : ℕ) → k < suc (length xs) → f (get_or (a ∷ xs) k d) ≡ false
        by true e rest z k h = absurd (omega arith)
        by false e rest z zero h = e
        by false e rest z (suc k) h = rest (omega arith) k (omega arith)
