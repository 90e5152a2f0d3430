-- Document 01, 'OPEN address frame': which of two OPENs goes first. Assumes nothing.
use Rattle.std.specs.Prelude.{ℕ, Bool, List, [], ◌∷◌}
use Rattle.laws.specs.Order.{larger}
use Rattle.open_frame.specs.declared.OpenFrame.{OpenFrame}

-- what priority looks at, first things first
abbrev pub priority_of : OpenFrame → List ℕ
priority_of f = f.awt.0 ∷ f.head.source ∷ []

-- 01 OPEN.9: Higher priority: larger AWT, or equal AWT and larger source address.
abbrev pub higher_than : OpenFrame → OpenFrame → Bool
higher_than f g = larger (priority_of f) (priority_of g)
