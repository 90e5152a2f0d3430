-- Every call's last walk of the lent list: each record that may change, in place, and then the answer.
--     let mut i = FROM(x);  let n = TO(x);  while i < n { let r = STEP(list[i], i, x);  list[i] = r;  i += 1; }  ANSWER(x)
-- The list is `map_to blank (λ r i. Step r i x) list 32` after it, since Step leaves a record before From x or from To x on as it
-- was. Assumes nothing.
use mathlib.Core.Path.{◌≡◌, refl, sym, ap, ◌∙◌}
use mathlib.Core.Logic.{inl, inr}
use Prim.Native.Nat.{ℕ, zero, suc, ◌+◌, ◌<◌, ◌≤◌}
use native.Mathlib.Omega.{arith}
use native.Mathlib.Numerals.{add-one}
use mathlib.Core.List.{List}
use lib.ListN.{length, get_or, set, length-set}
use lib.Seq.{set-get_or}
use Rattle.port_parts.specs.declared.Request.{Request}
use Rattle.laws.specs.Folds.{map_to}
use Rattle.port_parts.specs.Parts.{blank}
use Rattle.laws.proofs.Tests.{below_or_not}

module _ {Q : Type 0} (Step : Request → ℕ → Q → Request) where
  -- the first n records changed
  abbrev pub folded : List Request → Q → ℕ → List Request
  folded ys x n = map_to blank (λ (r : Request) (i : ℕ). Step r i x) ys n

  pub folded_none : (ys : List Request) (x : Q) → ys ≡ folded ys x 0
  unfolding map_to
  folded_none ys x = refl

  -- records that Step leaves as they are
  pub folded_still : (ys : List Request) (x : Q) (n m : ℕ) → n ≤ m → ((r : Request) (i : ℕ) → n ≤ i → i < m → Step r i x ≡ r) → folded ys x m ≡ folded ys x n
  unfolding map_to
  folded_still ys x n zero l h = let z : ◌≡◌ {A = ℕ} 0 n = omega (arith, l) in ap (folded ys x) z
  folded_still ys x n (suc m) l h =
      elim (below_or_not m n) [
        | inl b ↦ (let z : suc m ≡ n = omega (arith, l, b) in ap (folded ys x) z)
        | inr a ↦
            ap (set (folded ys x m) m) (h (get_or (folded ys x m) m blank) m a (omega arith)) ∙ set-get_or (folded ys x m) m blank
            ∙ folded_still ys x n m a (λ (r : Request) (i : ℕ) (lo : n ≤ i) (hi : i < m). h r i lo (omega (arith, hi)))
      ]

  pub folded_next : (ys : List Request) (x : Q) (i : ℕ) → set (folded ys x i) i (Step (get_or (folded ys x i) i blank) i x) ≡ folded ys x (i + 1)
  unfolding map_to
  folded_next ys x i = ap (folded ys x) (sym (add-one i))

  pub folded_length : (ys : List Request) (x : Q) (n : ℕ) → length (folded ys x n) ≡ length ys
  unfolding map_to
  folded_length ys x zero = refl
  folded_length ys x (suc n) = length-set (folded ys x n) n (Step (get_or (folded ys x n) n blank) n x) ∙ folded_length ys x n
