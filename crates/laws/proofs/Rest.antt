-- In the `_` arm of a match the tag of the value is one that no other arm names, so what holds at each variant that is left holds of the
-- value. Assumes nothing.
use Prim.Native.Nat.{ℕ, zero, suc}
use mathlib.Core.Bool.{Bool, false, cond, ◌||◌}
use mathlib.Core.Path.{◌≡◌, sym, subst}
use mathlib.Core.Logic.{inl, inr}
use mathlib.Core.List.{List, [], ◌∷◌}
use lib.Dec.{eqb}
use lib.ListN.{length}
use types.Run.{OneOf}
use denote.Enum.Declared.{Record, declared, tag_of}
use borrow.Enum.Known.{at, lives_at, ValuesAt}

abbrev has : List ℕ → ℕ → Bool
has [] k = false
has (h ∷ hs) k = eqb h k || has hs k

-- the n tags from k on, but those of hs
abbrev pub from : ℕ → ℕ → List ℕ → List ℕ
from k zero hs = []
from k (suc n) hs = cond (has hs k) (from (suc k) n hs) (k ∷ from (suc k) n hs)

module _ (N : Record) (P : N.D → Type 0) where
  -- P holds at each of these variants
  abbrev pub Each : List ℕ → Type 0
  Each [] = Unit {0}
  Each (k ∷ ks) = ((v : ValuesAt N.parts k) → P (at N k v)) × Each ks

  one : (k : ℕ) → ((v : ValuesAt N.parts k) → P (at N k v)) → (g : N.D) → tag_of (declared N) g ≡ k → P g
  one k h g e = subst P (sym (lives_at N g k e).1) (h (lives_at N g k e).0)

  -- what holds at each of the variants ks holds of a value whose tag is one of ks
  pub among : (ks : List ℕ) → Each ks → (g : N.D) → OneOf ks (tag_of (declared N) g) → P g
  among [] h g o = absurd o
  among (k ∷ []) h g o = one k h.0 g o
  among (k ∷ k' ∷ ks) h g (inl e) = one k h.0 g e
  among (k ∷ k' ∷ ks) h g (inr o) = among (k' ∷ ks) h.1 g o

-- the variants of an enum but those of hs
abbrev pub others : Record → List ℕ → List ℕ
others N hs = from 0 (length N.parts) hs

-- a function that is d at each of the variants but hs
pub rest : (N : Record) {A : Type 0} (f : N.D → A) (d : A) (hs : List ℕ) → Each N (λ g. d ≡ f g) (others N hs) → (g : N.D) → OneOf (others N hs) (tag_of (declared N) g) → d ≡ f g
rest N f d hs = among N (λ g. d ≡ f g) (others N hs)
