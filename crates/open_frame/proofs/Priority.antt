-- Priority compares lists of one length by `larger`, so it is the strict order that the lists have. Assumes nothing.
use mathlib.Core.Path.{◌≡◌, refl, ◌∙◌}
use mathlib.Core.Bool.{true, false}
use mathlib.Core.List.{[], ◌∷◌}
use borrow.Author.Tests.{not-true}
use Rattle.laws.specs.Order.{larger}
use Rattle.laws.proofs.Order.{Compared, compared, irrefl}
use Rattle.laws.proofs.Tests.{itself, unless}
use Rattle.laws.proofs.Order as order
use Rattle.open_frame.specs.Priority.{priority_of, higher_than}
use Rattle.open_frame.specs.declared.OpenFrame.{OpenFrame}

-- of two crossing OPENs never both are of higher priority
pub never_both : (f g : OpenFrame) → higher_than f g ≡ true → higher_than g f ≡ true → ⊥
never_both f g = order.asym (priority_of f) (priority_of g)

pub trans : (f g h : OpenFrame) → higher_than f g ≡ true → higher_than g h ≡ true → higher_than f h ≡ true
trans f g h = order.trans (priority_of f) (priority_of g) (priority_of h)

-- one is, unless AWT and source agree
pub one_is : (f g : OpenFrame) → Compared (priority_of f) (priority_of g)
one_is f g = compared (priority_of f) (priority_of g) refl

-- and where they agree, neither
pub neither : (f g : OpenFrame) → f.awt.0 ≡ g.awt.0 → f.head.source ≡ g.head.source → higher_than f g ≡ false
neither f g awt source = not-true (higher_than f g) ((unless (itself (higher_than f g))).1 (λ high. irrefl (priority_of f) ((λ i. larger (priority_of f) (awt i ∷ source i ∷ [])) ∙ high)))
