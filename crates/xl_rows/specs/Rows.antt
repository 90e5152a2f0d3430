-- The form of a table: a row has events of one kind and what they do, and an event is looked up among the rows. Assumes nothing.
use Rattle.std.specs.Prelude.{Bool, true, false, not, cond, ◌&&◌, ◌||◌, List, [], ◌∷◌}
use Rattle.xl_parts.specs.declared.Event.{Event}
use Rattle.xl_parts.specs.Parts.{Effect}
use Rattle.xl_parts.specs.Kinds.{Kind, kind_of, same}

-- a row: events of one kind, and what they do while `given` holds
pub record Row : Type 0 where
  pub kind : Kind
  pub given : Bool
  pub does : Effect

infix 10 ◌⇒◌
abbrev pub ◌⇒◌ : Event → Effect → Row
e ⇒ x = record { kind = kind_of e; given = true; does = x }

infix 9 ◌unless◌
abbrev pub ◌unless◌ : Row → Bool → Row
r unless b = record { kind = r.kind; given = not b; does = r.does }

abbrev pub fits : Kind → Row → Bool
fits k r = same k r.kind && r.given

abbrev pub listed : Kind → List Row → Bool
listed k [] = false
listed k (r ∷ rs) = fits k r || listed k rs

-- what the first row that fits does, or else `otherwise`
abbrev pub look : Kind → List Row → Effect → Effect
look k [] otherwise = otherwise
look k (r ∷ rs) otherwise = cond (fits k r) r.does (look k rs otherwise)
