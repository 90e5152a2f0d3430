-- `larger` is a strict order, and between lists of one length it tells which is the larger unless they are equal: the first
-- place at which two lists differ decides for both sides. Assumes nothing.
use mathlib.Core.Path.{◌≡◌, refl, ◌∙◌, ap}
use mathlib.Core.Bool.{Bool, true, false, ◌&&◌, ◌||◌}
use mathlib.Core.List.{List, [], ◌∷◌}
use Prim.Native.Nat.{ℕ, ◌<◌}
use native.Mathlib.Omega.{arith}
use lib.ListN.{length}
use lib.Dec.{eqb, ltb}
use borrow.Author.Tests.{eq-eqb, eqb-true, ltb-true, ltb-false, lt-ltb, le-ltb}
use Rattle.laws.specs.Order.{larger}
use Rattle.laws.proofs.Bools.{never, and_left, and_right}

-- what a larger list says of its first numbers
data Why (x : ℕ) (xs : List ℕ) (y : ℕ) (ys : List ℕ) : Type 0 where
  first : y < x → Why x xs y ys
  behind : x ≡ y → larger xs ys ≡ true → Why x xs y ys

why : (x : ℕ) (xs : List ℕ) (y : ℕ) (ys : List ℕ) → larger (x ∷ xs) (y ∷ ys) ≡ true → Why x xs y ys
why x xs y ys = by (ltb y x) refl
  where
    by : (t : Bool) → ltb y x ≡ t → t || (eqb x y && larger xs ys) ≡ true → Why x xs y ys
    by true e h = first (ltb-true y x e)
    by false e h = behind (eqb-true x y (and_left (eqb x y) _ h)) (and_right (eqb x y) _ h)

by_first : (x : ℕ) (xs : List ℕ) (y : ℕ) (ys : List ℕ) → y < x → larger (x ∷ xs) (y ∷ ys) ≡ true
by_first x xs y ys h = ap (λ (t : Bool). t || (eqb x y && larger xs ys)) (lt-ltb y x h)

by_behind : (x : ℕ) (xs : List ℕ) (y : ℕ) (ys : List ℕ) → x ≡ y → larger (x ∷ xs) (y ∷ ys) ≡ larger xs ys
by_behind x xs y ys e = λ i. le-ltb y x (omega arith) i || (eq-eqb x y e i && larger xs ys)

-- of two lists never both are larger
pub asym : (xs ys : List ℕ) → larger xs ys ≡ true → larger ys xs ≡ true → ⊥
asym [] ys p q = never p
asym (x ∷ xs) [] p q = never p
asym (x ∷ xs) (y ∷ ys) p q = both (asym xs ys) (why x xs y ys p) (why y ys x xs q)
  where
    both : (larger xs ys ≡ true → larger ys xs ≡ true → ⊥) → Why x xs y ys → Why y ys x xs → ⊥
    both rest (first a) (first b) = omega arith
    both rest (first a) (behind e b) = omega arith
    both rest (behind e a) (first b) = omega arith
    both rest (behind e a) (behind d b) = rest a b

pub irrefl : (xs : List ℕ) → larger xs xs ≡ true → ⊥
irrefl xs p = asym xs xs p p

pub trans : (xs ys zs : List ℕ) → larger xs ys ≡ true → larger ys zs ≡ true → larger xs zs ≡ true
trans [] ys zs p q = p
trans (x ∷ xs) [] zs p q = absurd (never p)
trans (x ∷ xs) (y ∷ ys) [] p q = q
trans (x ∷ xs) (y ∷ ys) (z ∷ zs) p q = both (trans xs ys zs) (why x xs y ys p) (why y ys z zs q)
  where
    both : (larger xs ys ≡ true → larger ys zs ≡ true → larger xs zs ≡ true) → Why x xs y ys → Why y ys z zs → larger (x ∷ xs) (z ∷ zs) ≡ true
    both rest (first a) (first b) = by_first x xs z zs (omega arith)
    both rest (first a) (behind e b) = by_first x xs z zs (omega arith)
    both rest (behind e a) (first b) = by_first x xs z zs (omega arith)
    both rest (behind e a) (behind d b) = by_behind x xs z zs (e ∙ d) ∙ rest a b

-- of two lists of one length one is larger, or they are equal
pub data Compared (xs ys : List ℕ) : Type 0 where
  above : larger xs ys ≡ true → Compared xs ys
  below : larger ys xs ≡ true → Compared xs ys
  equal : xs ≡ ys → Compared xs ys

neither : (x y : ℕ) → ltb y x ≡ false → ltb x y ≡ false → x ≡ y
neither x y a b = omega (arith, ltb-false y x a, ltb-false x y b)

pub compared : (xs ys : List ℕ) → length xs ≡ length ys → Compared xs ys
compared [] [] h = equal refl
compared [] (y ∷ ys) h = absurd (omega arith)
compared (x ∷ xs) [] h = absurd (omega arith)
compared (x ∷ xs) (y ∷ ys) h = by (ltb y x) refl (ltb x y) refl (compared xs ys (omega arith))
  where
    by : (s : Bool) → ltb y x ≡ s → (t : Bool) → ltb x y ≡ t → Compared xs ys → Compared (x ∷ xs) (y ∷ ys)
    by true e t d c = above (by_first x xs y ys (ltb-true y x e))
    by false e true d c = below (by_first y ys x xs (ltb-true x y d))
    by false e false d (above p) = above (by_behind x xs y ys (neither x y e d) ∙ p)
    by false e false d (below p) = below (by_behind y ys x xs (neither y x d e) ∙ p)
    by false e false d (equal p) = equal (λ i. neither x y e d i ∷ p i)
