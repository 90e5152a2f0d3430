-- Decimal numbers in bytes: what is one, and how one is written. Assumes nothing.
use Rattle.std.specs.Prelude.{ℕ, zero, suc, ◌+◌, ◌-◌, ◌*◌, ◌/◌, ◌%◌, Bool, true, false, not, cond, ◌&&◌, List, [], ◌∷◌, ◌++◌, ltb, leb, eqb, None, Option, Some}

-- '0' to '9'
abbrev pub is_digit : ℕ → Bool
is_digit b = leb 48 b && leb b 57

-- the digit that b writes, if it writes one
abbrev pub digit_read : ℕ → Option ℕ
digit_read b = cond (is_digit b) (Some (b - 48)) None

abbrev pub all_digits : List ℕ → Bool
all_digits [] = true
all_digits (b ∷ s) = is_digit b && all_digits s

-- something stands there, and a zero in front only by itself
abbrev pub begins : List ℕ → Bool
begins [] = false
begins (b ∷ []) = true
begins (b ∷ c ∷ s) = not (eqb b 48)

-- the value of the digits s behind those of v
abbrev pub value_from : ℕ → List ℕ → ℕ
value_from v [] = v
value_from v (b ∷ s) = value_from (v * 10 + (b - 48)) s

-- digits alone, with no sign and no zero in front, and no more than `most`
abbrev pub is_number : ℕ → List ℕ → Bool
is_number most s = begins s && (all_digits s && leb (value_from 0 s) most)

unfoldable pub read_number : ℕ → List ℕ → Option ℕ
read_number most s = cond (is_number most s) (Some (value_from 0 s)) None

-- the digits of n, the highest first; n + 1 steps are enough
abbrev pub digits_by : ℕ → ℕ → List ℕ
digits_by zero n = []
digits_by (suc f) n = cond (ltb n 10) ((48 + n) ∷ []) (digits_by f (n / 10) ++ ((48 + n % 10) ∷ []))

unfoldable pub decimal : ℕ → List ℕ
decimal n = digits_by (suc n) n
