-- A fold takes one member more at each step, so what a step keeps holds of the whole; a test of all numbers is passed exactly if
-- it is passed at each. Assumes nothing.
use mathlib.Core.Path.{◌≡◌, refl, sym, ap, subst, ◌∙◌}
use mathlib.Core.Bool.{Bool, true, false, ◌&&◌}
use mathlib.Core.Logic.{◌⊎◌, inl, inr}
use mathlib.Core.List.{List}
use Prim.Native.Nat.{ℕ, zero, suc, ◌+◌, ◌<◌}
use native.Mathlib.Nat.{not-suc-le-zero}
use native.Mathlib.Numerals.{add-one}
use native.Mathlib.Decide.{dec_lt}
use native.Mathlib.Omega.{arith}
use lib.ListN.{get_or}
use Rattle.laws.specs.Folds.{fold_to, fold_from, all_below}
use Rattle.laws.proofs.Bools.{and_true}
use Rattle.laws.specs.Tests.{Says}
use Rattle.laws.proofs.Bools as bools

-- a number below n + 1 is n or below n
pub at_or_below : (k n : ℕ) → k < suc n → (k ≡ n) ⊎ (k < n)
at_or_below k n h = elim (dec_lt k n) [ yes l ↦ inr l | no d ↦ inl (omega arith) ]

module _ (t : ℕ → Bool) where
  pub all_says : (n : ℕ) → Says (all_below t n) ((k : ℕ) → k < n → t k ≡ true)
  unfolding all_below
  all_says zero = (λ e k h. absurd (not-suc-le-zero h), λ h. refl)
  all_says (suc n) = (
    λ e k h. elim (at_or_below k n h) [ inl d ↦ subst (λ (m : ℕ). t m ≡ true) (sym d) (bools.and_right (all_below t n) (t n) e) | inr l ↦ (all_says n).0 (bools.and_left (all_below t n) (t n) e) k l ],
    λ h. and_true ((all_says n).1 (λ k l. h k (omega arith))) (h n (omega arith)),
  )

-- what a test says at each number it says at all
pub all_of : {t : ℕ → Bool} {P : ℕ → Type 0} (n : ℕ) → ((k : ℕ) → k < n → Says (t k) (P k)) → Says (all_below t n) ((k : ℕ) → k < n → P k)
all_of {t} n says = (λ e k h. (says k h).0 ((all_says t n).0 e k h), λ hold. (all_says t n).1 (λ k h. (says k h).1 (hold k h)))

and_assoc : (a b c : Bool) → (a && b) && c ≡ a && (b && c)
and_assoc true b c = refl
and_assoc false b c = refl

-- a loop that tests one number more at each turn, from s on
module _ (s : Bool) (t : ℕ → Bool) where
  pub all_start : s ≡ s && all_below t 0
  unfolding all_below
  all_start = bools.and_alone s refl

  pub all_next : (n : ℕ) {a b : Bool} → a ≡ s && all_below t n → b ≡ t n → a && b ≡ s && all_below t (n + 1)
  unfolding all_below
  all_next n p q = (λ i. p i && q i) ∙ and_assoc s (all_below t n) (t n) ∙ rw add-one refl

module _ {B : Type 0} (d : B) (s : Bool) (t : B → ℕ → Bool) (l : List B) where
  -- a fold that asks the same of each member asks it of all
  pub fold_all : (n : ℕ) → fold_to d (λ (a : Bool) b i. a && t b i) s l n ≡ s && all_below (λ i. t (get_or l i d) i) n
  unfolding fold_to
  fold_all zero = all_start s (λ i. t (get_or l i d) i)
  fold_all (suc n) = all_next s (λ i. t (get_or l i d) i) n (fold_all n) refl ∙ rw add-one refl

  pub fold_from_all : (k n : ℕ) → fold_from d (λ (a : Bool) b i. a && t b i) s l k n ≡ s && all_below (λ i. t (get_or l (k + i) d) (k + i)) n
  unfolding fold_from
  fold_from_all k zero = all_start s (λ i. t (get_or l (k + i) d) (k + i))
  fold_from_all k (suc n) = all_next s (λ i. t (get_or l (k + i) d) (k + i)) n (fold_from_all k n) refl ∙ rw add-one refl

-- a part of what is folded is folded by itself
pub fold_part : {A C B : Type 0} (d : B) (f : A → B → ℕ → A) (g : C → B → ℕ → C) (part : A → C) → ((a : A) (b : B) (i : ℕ) → part (f a b i) ≡ g (part a) b i)
    → (s : A) (l : List B) (n : ℕ) → part (fold_to d f s l n) ≡ fold_to d g (part s) l n
unfolding fold_to
fold_part d f g part same s l zero = refl
fold_part d f g part same s l (suc n) = same (fold_to d f s l n) (get_or l n d) n ∙ ap (λ c. g c (get_or l n d) n) (fold_part d f g part same s l n)

-- what stays at each step stays
pub fold_still : {A C B : Type 0} (d : B) (f : A → B → ℕ → A) (part : A → C) → ((a : A) (b : B) (i : ℕ) → part (f a b i) ≡ part a) → (s : A) (l : List B) (n : ℕ) → part (fold_to d f s l n) ≡ part s
unfolding fold_to
fold_still d f part same s l zero = refl
fold_still d f part same s l (suc n) = same (fold_to d f s l n) (get_or l n d) n ∙ fold_still d f part same s l n

-- two tests of each member in one fold are the two folds
pub fold_both : {B : Type 0} (d : B) (t u : B → ℕ → Bool) (s : Bool) (l : List B) (n : ℕ)
    → fold_to d (λ (a : Bool) b i. (a && t b i) && u b i) s l n ≡ fold_to d (λ (a : Bool) b i. a && t b i) s l n && fold_to d (λ (a : Bool) b i. a && u b i) true l n
unfolding fold_to
fold_both d t u s l zero = bools.and_alone s refl
fold_both d t u s l (suc n) = (λ i. (fold_both d t u s l n i && t (get_or l n d) n) && u (get_or l n d) n) ∙ by (fold_to d (λ (a : Bool) b i. a && t b i) s l n) (fold_to d (λ (a : Bool) b i. a && u b i) true l n) (t (get_or l n d) n) (u (get_or l n d) n)
  where
    by : (a b c e : Bool) → ((a && b) && c) && e ≡ (a && c) && (b && e)
    by true true true e = refl
    by true true false e = refl
    by true false true e = refl
    by true false false e = refl
    by false b c e = refl
