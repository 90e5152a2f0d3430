-- A value's number is its place in a list, so a number names the value that stands there. Assumes nothing.
use Prim.Native.Nat.{ℕ, zero, suc, ◌<◌}
use mathlib.Core.Bool.{Bool, true, false}
use mathlib.Core.List.{List}
use mathlib.Core.Path.{◌≡◌, refl, ap, ◌∙◌}
use native.Mathlib.Omega.{arith}
use lib.Dec.{eqb}
use lib.ListN.{length, get_or}
use Rattle.laws.specs.Names.{Named, flag}
use Rattle.laws.proofs.Places.{Each, each_at, each_within}

-- a list in the order of its members' numbers
module _ {A : Type 0} (number : A → ℕ) (xs : List A) (d : A) (placed : Each (λ (n : ℕ) (a : A). n ≡ number a) 0 xs) where
  pub numbered : (n : ℕ) → n < length xs → n ≡ number (get_or xs n d)
  numbered n l = each_within (λ (n : ℕ) (a : A). n ≡ number a) d 0 xs placed n n (omega arith) l

  pub in_list : ((a : A) → (number a < length xs) × (get_or xs (number a) d ≡ a)) → Named (λ (n : ℕ) (a : A). (n < length xs) × (get_or xs n d ≡ a)) number
  in_list back n a = ((λ h. numbered n h.0 ∙ ap number h.1), (λ e. rw e (back a)))

-- a list whose members name values, each in the place of the value's number
module _ {A F : Type 0} (number : A → ℕ) (named : A → F) (xs : List F) (unnamed : F) where
  abbrev pub Names : ℕ → F → Type 0
  Names n r = (a : A) → r ≡ named a → n ≡ number a

  pub in_reads : Each Names 0 xs → ((a : A) → unnamed ≡ named a → ⊥) → ((a : A) → get_or xs (number a) unnamed ≡ named a) → Named (λ (n : ℕ) (a : A). get_or xs n unnamed ≡ named a) number
  in_reads placed apart back n a = (each_at Names unnamed (λ m a e. absurd (apart a e)) 0 xs placed n n (omega arith) a, (λ e. rw e (back a)))

pub flag_back : (t : Bool) → (flag t < 2) × (eqb (flag t) 1 ≡ t)
flag_back true = (omega arith, refl)
flag_back false = (omega arith, refl)

pub flag_at : (n : ℕ) → n < 2 → n ≡ flag (eqb n 1)
flag_at zero l = refl
flag_at (suc zero) l = refl
flag_at (suc (suc n)) l = absurd (omega arith)

pub flag_named : Named (λ (n : ℕ) (t : Bool). (n < 2) × (eqb n 1 ≡ t)) flag
flag_named n t = (λ h. flag_at n h.0 ∙ ap flag h.1, λ e. rw e (flag_back t))
