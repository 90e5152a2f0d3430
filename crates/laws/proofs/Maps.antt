-- A list of which the first n members were changed one by one has each of them changed as by itself, since a change at one place
-- leaves the others. Assumes nothing.
use Prim.Native.Nat.{ℕ, zero, suc, ◌≤◌, ◌<◌}
use mathlib.Core.Path.{◌≡◌, refl, sym, ap, ◌∙◌}
use mathlib.Core.List.{List}
use mathlib.Core.Logic.{inl, inr}
use native.Mathlib.Nat.{not-suc-le-zero}
use native.Mathlib.Omega.{arith}
use lib.ListN.{length, get_or, set, length-set}
use lib.Seq.{get_or-set_same, get_or-set_other}
use Rattle.laws.specs.Folds.{map_to}
use Rattle.laws.proofs.Folds.{at_or_below}

module _ {B : Type 0} (d : B) (f : B → ℕ → B) (l : List B) where
  pub map-length : (n : ℕ) → length (map_to d f l n) ≡ length l
  unfolding map_to
  map-length zero = refl
  map-length (suc n) = length-set (map_to d f l n) n (f (get_or (map_to d f l n) n d) n) ∙ map-length n

  -- past the first n nothing is changed
  pub map_past : (n i : ℕ) → n ≤ i → get_or (map_to d f l n) i d ≡ get_or l i d
  unfolding map_to
  map_past zero i h = refl
  map_past (suc n) i h = get_or-set_other (map_to d f l n) n i (f (get_or (map_to d f l n) n d) n) d (λ e. omega arith) ∙ map_past n i (omega arith)

  pub map_at : (n i : ℕ) → i < n → n ≤ length l → get_or (map_to d f l n) i d ≡ f (get_or l i d) i
  unfolding map_to
  map_at zero i h m = absurd (not-suc-le-zero h)
  map_at (suc n) i h m = elim (at_or_below i n h) [
    | inl e ↦
        ap (λ (k : ℕ). get_or (set (map_to d f l n) n (f (get_or (map_to d f l n) n d) n)) k d) e
        ∙ get_or-set_same (map_to d f l n) n (f (get_or (map_to d f l n) n d) n) d (omega (arith, map-length n))
        ∙ ap (λ (b : B). f b n) (map_past n n (omega arith)) ∙ ap (λ (k : ℕ). f (get_or l k d) k) (sym e)
    | inr k ↦ get_or-set_other (map_to d f l n) n i (f (get_or (map_to d f l n) n d) n) d (λ e. omega arith) ∙ map_at n i k (omega arith)
  ]
