-- A fold that keeps the first number at which a test is passed finds the lowest, and one that joins a test's answers tells whether
-- some number passes: each step looks at one member more. Assumes nothing.
use Prim.Native.Nat.{ℕ, zero, suc, ◌≤◌, ◌<◌, min}
use mathlib.Core.Path.{◌≡◌, refl, sym, ap, subst, ◌∙◌}
use mathlib.Core.Bool.{Bool, true, false, cond, ◌&&◌, ◌||◌}
use mathlib.Core.Logic.{inl, inr, ◌↔◌}
use mathlib.Core.List.{List}
use native.Mathlib.Nat.{not-suc-le-zero}
use native.Mathlib.Omega.{arith}
use lib.Dec.{eqb}
use lib.ListN.{get_or}
use borrow.Author.Tests.{ne_eqb, eq-eqb}
use Rattle.laws.specs.Folds.{fold_to}
use Rattle.laws.proofs.Bools.{never, or_right}
use Rattle.laws.proofs.Folds.{at_or_below}

module _ {B : Type 0} (d : B) (t : B → Bool) (l : List B) where
  -- the number of the first member that passes, `most` if none of the first n does
  pub data Found (most n a : ℕ) : Type 0 where
    none : a ≡ most → ((i : ℕ) → i < n → t (get_or l i d) ≡ false) → Found most n a
    at : a < n → t (get_or l a d) ≡ true → ((i : ℕ) → i < a → t (get_or l i d) ≡ false) → Found most n a

  pub found : (most n : ℕ) → n ≤ most → Found most n (fold_to d (λ (a : ℕ) b i. cond (eqb a most && t b) (min i most) a) most l n)
  unfolding fold_to
  found most zero h = none refl (λ i k. absurd (not-suc-le-zero k))
  found most (suc n) h = step (fold_to d (λ (a : ℕ) b i. cond (eqb a most && t b) (min i most) a) most l n) (found most n (omega arith)) (t (get_or l n d)) refl
    where
      step : (a : ℕ) → Found most n a → (u : Bool) → t (get_or l n d) ≡ u → Found most (suc n) (cond (eqb a most && u) (min n most) a)
      step a (none e off) true p =
          let taken : cond (eqb a most && true) (min n most) a ≡ n = ap (λ (b : Bool). cond (b && true) (min n most) a) (eq-eqb a most e) ∙ omega arith in
          at (omega arith) (subst (λ (k : ℕ). t (get_or l k d) ≡ true) (sym taken) p) (λ i k. off i (omega arith))
      step a (none e off) false p =
          let kept : cond (eqb a most && false) (min n most) a ≡ a = by (eqb a most) in
          none (kept ∙ e) (λ i k. elim (at_or_below i n k) [ inl z ↦ subst (λ (m : ℕ). t (get_or l m d) ≡ false) (sym z) p | inr m ↦ off i m ])
        where
          by : (b : Bool) → cond (b && false) (min n most) a ≡ a
          by true = refl
          by false = refl
      step a (at m p off) u q =
          let kept : cond (eqb a most && u) (min n most) a ≡ a = ap (λ (b : Bool). cond (b && u) (min n most) a) (ne_eqb a most (λ e. omega arith)) in
          at (omega arith) (subst (λ (k : ℕ). t (get_or l k d) ≡ true) (sym kept) p) (λ i k. off i (omega arith))

  -- some of the first n members pass
  pub record Some (n : ℕ) : Type 0 where
    pub i : ℕ
    pub below : i < n
    pub passes : t (get_or l i d) ≡ true

  pub some : (n : ℕ) → (fold_to d (λ (a : Bool) b i. a || t b) false l n ≡ true) ↔ Some n
  unfolding fold_to
  some zero = (λ e. absurd (never e), λ s. absurd (not-suc-le-zero s.below))
  some (suc n) = (there (some n).0, back (some n).1)
    where
      before : Bool
      before = fold_to d (λ (a : Bool) b i. a || t b) false l n

      there : (before ≡ true → Some n) → before || t (get_or l n d) ≡ true → Some (suc n)
      there some_of = by before refl
        where
          by : (b : Bool) → before ≡ b → b || t (get_or l n d) ≡ true → Some (suc n)
          by true e h = let s = some_of e in record { i = s.i; below = omega (arith, s.below); passes = s.passes }
          by false e h = record { i = n; below = omega arith; passes = h }

      back : (Some n → before ≡ true) → Some (suc n) → before || t (get_or l n d) ≡ true
      back of_some s = elim (at_or_below s.i n s.below) [
        | inl z ↦ or_right before (subst (λ (m : ℕ). t (get_or l m d) ≡ true) z s.passes)
        | inr m ↦ λ k. of_some (record { i = s.i; below = m; passes = s.passes }) k || t (get_or l n d)
      ]
