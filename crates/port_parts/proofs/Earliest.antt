-- The pick that a fold by `earlier_of` leaves is the earliest, the lowest slot where several are even: a later one takes its place only
-- if it is earlier. Assumes nothing.
use Prim.Native.Nat.{ℕ, zero, suc, ◌≤◌, ◌<◌}
use mathlib.Core.Path.{◌≡◌, refl, sym, subst}
use mathlib.Core.Bool.{Bool, true, false, not, cond, ◌&&◌, ◌||◌}
use mathlib.Core.Logic.{inl, inr}
use mathlib.Core.List.{List}
use native.Mathlib.Nat.{not-suc-le-zero}
use native.Mathlib.Omega.{arith}
use lib.Dec.{eqb, ltb}
use lib.ListN.{get_or}
use borrow.Author.Tests.{ltb-true, ltb-false}
use Rattle.laws.specs.Folds.{fold_to}
use Rattle.laws.proofs.Bools.{never, clash}
use Rattle.laws.proofs.Folds.{at_or_below}
use Rattle.port_parts.specs.Choice.{no_pick, earlier_of}
use Rattle.port_parts.specs.Qualifies.{Before}
use Rattle.port_parts.specs.declared.Pick.{Pick}

-- a pick that is one
abbrev pub Is : Pick → Type 0
Is p = eqb p.step 0 ≡ false

module _ (f : ℕ → Pick) where
  -- p is the earliest of the first n
  pub data Earliest (n : ℕ) : Pick → Type 0 where
    none : ((i : ℕ) → i < n → eqb (f i).step 0 ≡ true) → Earliest n no_pick
    one : (s : ℕ) → s < n → Is (f s) → ((i : ℕ) → i < n → Is (f i) → Before (f s).at s (f i).at i) → Earliest n (f s)

  module _ (n : ℕ) where
    -- one more that is none leaves the earliest
    still : (p : Pick) → Earliest n p → eqb (f n).step 0 ≡ true → Earliest (suc n) p
    still p (none nil) e = none (λ i h. elim (at_or_below i n h) [ inl d ↦ subst (λ (k : ℕ). eqb (f k).step 0 ≡ true) (sym d) e | inr l ↦ nil i l ])
    still p (one s l is first) e =
        one s (omega arith) is (λ i h q. elim (at_or_below i n h) [ inl d ↦ absurd (clash (eqb (f n).step 0) e (subst (λ (k : ℕ). Is (f k)) d q)) | inr m ↦ first i m q ])

    -- one more that is not earlier leaves it too
    later : (s : ℕ) → s < n → Is (f s) → ((i : ℕ) → i < n → Is (f i) → Before (f s).at s (f i).at i) → (f s).at ≤ (f n).at → Earliest (suc n) (f s)
    later s l is first over = one s (omega arith) is (λ i h q. elim (at_or_below i n h) [ inl d ↦ subst (λ (k : ℕ). Before (f s).at s (f k).at k) (sym d) even | inr m ↦ first i m q ])
      where
        even : Before (f s).at s (f n).at n
        even = by (ltb (f s).at (f n).at) refl
          where
            by : (t : Bool) → ltb (f s).at (f n).at ≡ t → Before (f s).at s (f n).at n
            by true e = inl (ltb-true (f s).at (f n).at e)
            by false e = inr (omega (arith, ltb-false (f s).at (f n).at e), omega arith)

    -- one more that is the first, or earlier than the earliest, is the earliest
    alone : Is (f n) → ((i : ℕ) → i < n → eqb (f i).step 0 ≡ true) → Earliest (suc n) (f n)
    alone is nil = one n (omega arith) is (λ i h q. elim (at_or_below i n h) [ inl d ↦ subst (λ (k : ℕ). Before (f n).at n (f k).at k) (sym d) (inr (refl, omega arith)) | inr l ↦ absurd (clash (eqb (f i).step 0) (nil i l) q) ])

    sooner : (s : ℕ) → ((i : ℕ) → i < n → Is (f i) → Before (f s).at s (f i).at i) → Is (f n) → (f n).at < (f s).at → Earliest (suc n) (f n)
    sooner s first is under =
        one n (omega arith) is (λ i h q. elim (at_or_below i n h) [ inl d ↦ subst (λ (k : ℕ). Before (f n).at n (f k).at k) (sym d) (inr (refl, omega arith)) | inr l ↦ inl (under_all (first i l q)) ])
      where
        under_all : {u v : ℕ} → Before (f s).at s u v → (f n).at < u
        under_all (inl m) = omega arith
        under_all (inr m) = omega (arith, m.0)

    pub step : (p : Pick) → Earliest n p → Earliest (suc n) (earlier_of p (f n))
    step p (none nil) = by (eqb (f n).step 0) refl
      where
        by : (t : Bool) → eqb (f n).step 0 ≡ t → Earliest (suc n) (cond (not t && (eqb 0 0 || ltb (f n).at 0)) (f n) no_pick)
        by true e = still no_pick (none nil) e
        by false e = alone e nil
    step p (one s l is first) = by (eqb (f n).step 0) (eqb (f s).step 0) (ltb (f n).at (f s).at) refl is refl
      where
        by : (t u v : Bool) → eqb (f n).step 0 ≡ t → u ≡ false → ltb (f n).at (f s).at ≡ v → Earliest (suc n) (cond (not t && (u || v)) (f n) (f s))
        by true u v e d g = still (f s) (one s l is first) e
        by false true v e d g = absurd (never (sym d))
        by false false true e d g = sooner s first e (ltb-true (f n).at (f s).at g)
        by false false false e d g = later s l is first (ltb-false (f n).at (f s).at g)

pub fold_earliest : {B : Type 0} (d : B) (f : B → ℕ → Pick) (l : List B) (n : ℕ) → Earliest (λ i. f (get_or l i d) i) n (fold_to d (λ p b i. earlier_of p (f b i)) no_pick l n)
unfolding fold_to
fold_earliest d f l zero = none (λ i h. absurd (not-suc-le-zero h))
fold_earliest d f l (suc n) = step (λ i. f (get_or l i d) i) n _ (fold_earliest d f l n)
