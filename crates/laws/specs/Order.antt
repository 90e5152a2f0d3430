-- Comparing by several numbers, one after the other. Assumes nothing.
use Rattle.std.specs.Prelude.{ℕ, Bool, false, ◌&&◌, ◌||◌, List, [], ◌∷◌, eqb, ltb}

-- a larger first number, or an equal first number and larger numbers behind it
abbrev pub larger : List ℕ → List ℕ → Bool
larger [] ys = false
larger (x ∷ xs) [] = false
larger (x ∷ xs) (y ∷ ys) = ltb y x || (eqb x y && larger xs ys)
