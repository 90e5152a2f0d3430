-- The reasons by what they do, as document 01 lists them: each list is computed from the tables. Assumes nothing.
use mathlib.Core.Bool.{true, false}
use mathlib.Core.List.{[], ◌∷◌, map}
use mathlib.Core.Path.{◌≡◌, refl}
use Rattle.port_parts.specs.Reasons.{reasons, is_retried, is_blocked, is_starting, is_stopping}

-- No Destination, Bad and Wrong Destination, Link Rate Not Supported, Protocol Not Supported, Pathway Blocked, STP Resources Busy, Retry,
-- Open Time Out, Break Received

-- 01 PORT.18
retried : map is_retried reasons ≡ true ∷ false ∷ false ∷ true ∷ false ∷ true ∷ false ∷ true ∷ true ∷ false ∷ []
retried = refl

-- 01 PORT.19
blocked : map is_blocked reasons ≡ false ∷ false ∷ false ∷ false ∷ false ∷ true ∷ false ∷ false ∷ false ∷ false ∷ []
blocked = refl

-- 01 PORT.24
starting : map is_starting reasons ≡ true ∷ false ∷ false ∷ true ∷ false ∷ false ∷ false ∷ false ∷ false ∷ false ∷ []
starting = refl

-- 01 PORT.24
stopping : map is_stopping reasons ≡ false ∷ false ∷ false ∷ false ∷ true ∷ false ∷ true ∷ true ∷ false ∷ false ∷ []
stopping = refl
