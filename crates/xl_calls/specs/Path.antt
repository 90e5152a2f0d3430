-- Where each state's path is left to. Assumes nothing.
use Rattle.std.specs.Prelude.{List, [], ◌∷◌}
use Rattle.xl_parts.specs.declared.Phase.{Phase}
use Rattle.xl_parts.specs.declared.Phase.TheVariants.{Xl0, Xl1, Xl2, Xl3, Xl4, Xl5, Xl6, Xl7, Xl8, Xl9, Xl10}

-- the states in which a step from this one leaves its path: XL0 by Disable, a rejection or CLOSE, XL1 by BackoffRetry, XL9 by BREAK
-- received, XL10 by SendBreak
abbrev pub leaves_to : Phase → List Phase
leaves_to Xl0 = []
leaves_to Xl1 = []
leaves_to Xl2 = Xl0 ∷ Xl9 ∷ []
leaves_to Xl3 = Xl0 ∷ Xl1 ∷ Xl9 ∷ Xl10 ∷ []
leaves_to Xl4 = []
leaves_to Xl5 = Xl0 ∷ Xl1 ∷ Xl9 ∷ []
leaves_to Xl6 = Xl0 ∷ Xl1 ∷ Xl9 ∷ Xl10 ∷ []
leaves_to Xl7 = Xl0 ∷ Xl9 ∷ Xl10 ∷ []
leaves_to Xl8 = Xl0 ∷ Xl9 ∷ Xl10 ∷ []
leaves_to Xl9 = []
leaves_to Xl10 = []
