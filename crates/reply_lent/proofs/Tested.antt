-- A test that passes exactly what holds R, and an answer that is n where it fails: what the answer n says. Assumes nothing.
use mathlib.Core.Bool.{Bool, true, false}
use mathlib.Core.Logic.{◌⊎◌, inl, inr, ◌↔◌, ⊎_elim}
use mathlib.Core.Path.{◌≡◌, refl}
use Rattle.laws.specs.Tests.{Says}
use Rattle.laws.proofs.Bools.{never}

-- where it passes, the answer is n exactly if P
pub answered_exactly : {A : Type 0} (t : Bool) {R P : Type 0} {a n : A} → Says t R → (t ≡ false → a ≡ n) → (t ≡ true → (a ≡ n) ↔ P) → (a ≡ n) ↔ (P ⊎ (R → ⊥))
answered_exactly false says fails pass = (λ e. inr (λ r. never (says.1 r)), λ h. fails refl)
answered_exactly true says fails pass = (λ e. inl ((pass refl).0 e), ⊎_elim (pass refl).1 (λ none. absurd (none (says.0 refl))))
