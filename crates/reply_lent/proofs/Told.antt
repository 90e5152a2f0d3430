-- Answers that are refusals or one of a few others, each by its number: where the others are found by theirs, and no refusal has one of them,
-- no two answers share a number. Assumes nothing.
use Prim.Native.Nat.{ℕ, ◌<◌}
use mathlib.Core.Bool.{true, cond, ◌&&◌}
use mathlib.Core.List.{List, [], ◌∷◌}
use mathlib.Core.Logic.{◌⊎◌, inl, inr}
use mathlib.Core.Path.{◌≡◌, sym, ap, ◌∙◌}
use native.Mathlib.Omega.{arith}
use lib.Dec.{eqb, ltb}
use borrow.Author.Tests.{lt-ltb}
use Rattle.laws.proofs.Bools.{and_true}
use Rattle.refusals.specs.Refusals.{number_of}
use Rattle.refusals.specs.declared.Refusal.{Refusal}
use Rattle.refusals.proofs.Numbers.{one_number, range}

-- a refusal has a number from 1 to 10
pub within : (k : Refusal) → ltb 0 (number_of k) && ltb (number_of k) 11 ≡ true
within k = let r = range k in and_true (lt-ltb 0 (number_of k) (omega (arith, r))) (lt-ltb (number_of k) 11 (omega (arith, r)))

-- a number that no refusal has
abbrev pub Free : ℕ → Type 0
Free n = (k : Refusal) → n ≡ number_of k → ⊥

pub zero_free : Free 0
zero_free k e = let r = range k in omega (arith, r, e)

pub past_free : {n : ℕ} → 10 < n → Free n
past_free l k e = let r = range k in omega (arith, r, l, e)

module _ {A : Type 0} (number : A → ℕ) (refused : Refusal → A) where
  -- the one of these that has the number n, d where none has it
  abbrev pub found_in : List A → A → ℕ → A
  found_in [] d n = d
  found_in (a ∷ rest) d n = cond (eqb (number a) n) a (found_in rest d n)

  module _ (others : List A) (d : A) where
    -- an answer is a refusal, or is found at its number, which no refusal has
    abbrev pub Told : A → Type 0
    Told a = ((k : Refusal) × (a ≡ refused k)) ⊎ (Free (number a) × (found_in others d (number a) ≡ a))

    module _ (own : (k : Refusal) → number (refused k) ≡ number_of k) where
      -- no two answers share a number
      pub one : (a b : A) → Told a → Told b → number a ≡ number b → a ≡ b
      one a b (inl j) (inl k) e =
          let same = sym (own j.0) ∙ sym (ap number j.1) ∙ e ∙ ap number k.1 ∙ own k.0 in
          j.1 ∙ ap refused (one_number j.0 k.0 same) ∙ sym k.1
      one a b (inl j) (inr q) e = absurd (q.0 j.0 (sym e ∙ ap number j.1 ∙ own j.0))
      one a b (inr p) (inl k) e = absurd (p.0 k.0 (e ∙ ap number k.1 ∙ own k.0))
      one a b (inr p) (inr q) e = sym p.1 ∙ ap (found_in others d) e ∙ q.1
