-- An action put ahead of the others is the first of a longer list, whatever the list. Assumes nothing.
use Rattle.std.specs.Prelude.{Ok, Some}
use mathlib.Core.List.{List, [], ◌∷◌}
use mathlib.Core.Path.{◌≡◌, refl}
use Rattle.xl_parts.specs.declared.Action.{Action}
use Rattle.xl_parts.specs.Parts.{Effect, first, packed, pushed, ahead, done}

packs : (a : Action) (acts : List Action) → pushed (Some a) (packed acts) ≡ packed (a ∷ acts)
packs a [] = refl
packs a (b ∷ []) = refl
packs a (b ∷ c ∷ []) = refl
packs a (b ∷ c ∷ d ∷ []) = refl
packs a (b ∷ c ∷ d ∷ e ∷ more) = refl

pub pushes : (a : Action) (e : Effect) → ahead (Some a) (done e) ≡ done (first (a ∷ []) e)
pushes a e = λ i. record { answer = Ok tt; state = e.state; actions = packs a e.actions i }
