-- The table of numbers can be read backwards, so that no two refusals share a number, and none has 0. Assumes nothing.
use mathlib.Core.Path.{◌≡◌, refl, sym, ap, ◌∙◌}
use mathlib.Core.List.{[], ◌∷◌}
use Prim.Native.Nat.{ℕ, ◌≤◌}
use native.Mathlib.Omega.{arith}
use lib.ListN.{get_or}
use Rattle.refusals.specs.Refusals.{number_of}
use Rattle.refusals.specs.declared.Refusal.{Refusal}
use Rattle.refusals.specs.declared.Refusal.TheVariants.{Length, Unlisted, Rules, Phy, Past, Unfit, Due, Sent, Present, Full}

-- the refusals from number 1 on; 0 is none of them
abbrev named : ℕ → Refusal
named n = get_or (Length ∷ Length ∷ Unlisted ∷ Rules ∷ Phy ∷ Past ∷ Unfit ∷ Due ∷ Sent ∷ Present ∷ Full ∷ []) n Length

back : (k : Refusal) → named (number_of k) ≡ k
back Length = refl
back Unlisted = refl
back Rules = refl
back Phy = refl
back Past = refl
back Unfit = refl
back Due = refl
back Sent = refl
back Present = refl
back Full = refl

pub one_number : (j k : Refusal) → number_of j ≡ number_of k → j ≡ k
one_number j k e = sym (back j) ∙ ap named e ∙ back k

pub range : (k : Refusal) → (1 ≤ number_of k) × (number_of k ≤ 10)
range Length = omega arith
range Unlisted = omega arith
range Rules = omega arith
range Phy = omega arith
range Past = omega arith
range Unfit = omega arith
range Due = omega arith
range Sent = omega arith
range Present = omega arith
range Full = omega arith

pub not_zero : (k : Refusal) → 0 ≡ number_of k → ⊥
not_zero k e = let r = range k in omega (arith, r)
