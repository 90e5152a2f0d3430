-- The causes of refusal of a link's calls from C as propositions, in document 01's words and in C's own numbers. Assumes nothing.
use Rattle.std.specs.Prelude.{ℕ, List, [], ◌∷◌, ◌⊎◌, ◌↔◌, ◌≡◌, length}
use Rattle.refusals.specs.Causes.{Ground, ◌if◌, First, None}
use Rattle.refusals.specs.Refusals.{number_of}
use Rattle.refusals.specs.declared.Refusal.{Refusal}
use Rattle.open_lent.specs.Lent.{frame_of}
use Rattle.open_lent.specs.declared.Open.{Open}
use Rattle.xl_parts.specs.declared.Event.{Event}
use Rattle.xl_numbers.specs.declared.codes.Code.{Code}
use Rattle.xl_numbers.specs.Codes.{coded, event_number}
use Rattle.xl_lent.specs.declared.Link.{Link}
use Rattle.xl_lent.specs.declared.Step.{Step}
use Rattle.xl_lent.specs.Lent.{state_of}
use Rattle.xl_lent.specs.Formed.{Formed}
use Rattle.xl_lent.specs.Face.{refused}
use Rattle.claims.specs.Causes.{OpenFields, OpenBytes}
use Rattle.claims.specs.Links.{Rules}

-- the numbers say a state, and it keeps the link's rules
pub record Keeps (l : Link) : Type 0 where
  pub formed : Formed l
  pub rules : Rules (state_of l)

-- kind and detail are no event's
abbrev pub Unnamed : Code → Type 0
Unnamed c = (e : Event) → c ≡ event_number e → ⊥

-- a frame goes with OPEN, SendOpen and BackoffReversePath
abbrev pub Carries : Code → Type 0
Carries c = (c ≡ coded 1 0) ⊎ ((c ≡ coded 16 0) ⊎ (c ≡ coded 23 0))

-- 01 REFUSAL.2 01 REFUSAL.3
abbrev pub event_grounds : Link → Code → Open → List Ground
event_grounds l c o = (Refusal.Unlisted if Unnamed c) ∷ (Refusal.Unlisted if (Carries c × (OpenFields (frame_of o).head → ⊥))) ∷ (Refusal.Rules if (Keeps l → ⊥)) ∷ []

-- 01 XL.6
abbrev pub open_grounds : Link → List ℕ → List Ground
open_grounds l b = (Refusal.Length if (length b ≡ 28 → ⊥)) ∷ (Refusal.Unlisted if (OpenBytes b → ⊥)) ∷ (Refusal.Rules if (Keeps l → ⊥)) ∷ []

abbrev pub lent_grounds : Link → List Ground
lent_grounds l = (Refusal.Rules if (Keeps l → ⊥)) ∷ []

-- what is claimed of a call with these grounds
pub record Refused (gs : List Ground) (l : Link) (r : Step) : Type 1 where
  -- refusal k exactly if k is the first ground that holds, and 0 exactly if none does
  pub exactly : (k : Refusal) → (r.answer ≡ number_of k) ↔ First gs k
  pub otherwise : (r.answer ≡ 0) ↔ None gs
  -- a refusal gives back the link as it was lent, to the last member, and no action
  pub keeps : (k : Refusal) → r.answer ≡ number_of k → r ≡ refused l k
