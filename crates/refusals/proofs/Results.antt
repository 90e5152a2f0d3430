-- An answer and a refusal are two cases of one type, and a refusal is what its case holds, so both are told apart whatever the answer is.
-- Assumes nothing.
use Rattle.std.specs.Prelude.{Err, Ok, Result}
use mathlib.Core.Path.{◌≡◌, ap}
use mathlib.Core.Bool.{Bool, true, false}
use Rattle.laws.proofs.Bools.{never}
use Rattle.refusals.specs.declared.Refusal.{Refusal}
use Rattle.refusals.specs.declared.Refusal.TheVariants.{Length}

abbrev refusal_of : {A : Type 0} → Result A Refusal → Refusal
refusal_of (Ok a) = Length
refusal_of (Err k) = k

abbrev is_refused : {A : Type 0} → Result A Refusal → Bool
is_refused (Ok a) = false
is_refused (Err k) = true

pub one : {A : Type 0} (j k : Refusal) → ◌≡◌ {A = Result A Refusal} (Err j) (Err k) → j ≡ k
one j k e = ap refusal_of e

pub apart : {A : Type 0} (a : A) (k : Refusal) → ◌≡◌ {A = Result A Refusal} (Ok a) (Err k) → ⊥
apart a k e = never (ap is_refused e)
