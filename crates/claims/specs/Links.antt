-- Document 01's causes of refusal of a link's calls as propositions, in its words. Assumes nothing.
use Rattle.std.specs.Prelude.{ℕ, List, [], ◌∷◌, ◌⊎◌, ◌≡◌, length, None, Option, Some}
use Rattle.refusals.specs.Causes.{Ground, ◌if◌}
use Rattle.refusals.specs.declared.Refusal.{Refusal}
use Rattle.open_frame.specs.declared.OpenFrame.{OpenFrame}
use Rattle.xl_parts.specs.declared.Phase.{Phase}
use Rattle.xl_parts.specs.declared.Primitive.{Primitive}
use Rattle.xl_parts.specs.declared.Message.{Message}
use Rattle.xl_parts.specs.declared.Event.{Event}
use Rattle.xl_parts.specs.declared.State.{State}
use Rattle.claims.specs.Causes.{OpenFields, OpenBytes}

-- a frame goes with the event
abbrev pub Brings : Event → Type 0
Brings e = (e ≡ Event.Line Primitive.Open) ⊎ ((e ≡ Event.Router Message.SendOpen) ⊎ (e ≡ Event.Router Message.BackoffReversePath))

-- XL1 to XL6
pub data Working : Phase → Type 0 where
  in1 : Working Phase.Xl1
  in2 : Working Phase.Xl2
  in3 : Working Phase.Xl3
  in4 : Working Phase.Xl4
  in5 : Working Phase.Xl5
  in6 : Working Phase.Xl6

-- a frame, if there is one, has fields as in OPEN
abbrev pub Fields : Option OpenFrame → Type 0
Fields None = Unit {0}
Fields (Some f) = OpenFields f.head

-- 01 XL.4
pub record Rules (s : State) : Type 0 where
  pub held : Fields s.memory.held
  pub remembered : Fields s.memory.heard
  pub holds : Working s.phase → s.memory.held ≡ None → ⊥

-- 01 REFUSAL.2 01 REFUSAL.3
abbrev pub step_grounds : OpenFrame → Event → State → List Ground
step_grounds f e s = (Refusal.Unlisted if (Brings e × (OpenFields f.head → ⊥))) ∷ (Refusal.Rules if (Rules s → ⊥)) ∷ []

-- 01 XL.6
abbrev pub receive_grounds : List ℕ → State → List Ground
receive_grounds b s = (Refusal.Length if (length b ≡ 28 → ⊥)) ∷ (Refusal.Unlisted if (OpenBytes b → ⊥)) ∷ (Refusal.Rules if (Rules s → ⊥)) ∷ []

abbrev pub status_grounds : State → List Ground
status_grounds s = (Refusal.Rules if (Rules s → ⊥)) ∷ []
