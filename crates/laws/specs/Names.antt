-- What it is for numbers to name values, and the numbers of the two bools. Assumes nothing.
use Rattle.std.specs.Prelude.{ℕ, Bool, cond, ◌≡◌, ◌↔◌}

-- a number names a value exactly if it is the value's own: so a value has one number, and a number names one value or none
abbrev pub Named : {N A : Type 0} → (N → A → Type 0) → (A → N) → Type 0
Named {N} {A} names number = (n : N) (a : A) → names n a ↔ (n ≡ number a)

abbrev pub flag : Bool → ℕ
flag t = cond t 1 0
