-- What C sees of a link's calls: the machine's own step on the state that the numbers say. Assumes nothing.
use Rattle.std.specs.Prelude.{ℕ, Bool, not, ◌&&◌, List, [], ◌∷◌, ◌≡◌, Err, Ok, Result, None, Option, Some}
use Rattle.refusals.specs.Refusals.{number_of}
use Rattle.refusals.specs.Causes.{Cause, ◌when◌, refuse}
use Rattle.refusals.specs.declared.Refusal.{Refusal}
use Rattle.open_frame.specs.Open.{head_listed, read_open}
use Rattle.open_frame.specs.declared.OpenFrame.{OpenFrame}
use Rattle.open_lent.specs.Lent.{frame_of}
use Rattle.open_lent.specs.declared.Open.{Open}
use Rattle.xl_parts.specs.declared.Primitive.{Primitive}
use Rattle.xl_parts.specs.declared.Event.{Event}
use Rattle.xl_parts.specs.declared.Stepped.{Stepped}
use Rattle.xl_numbers.specs.declared.codes.Code.{Code}
use Rattle.xl_numbers.specs.Codes.{event_of}
use Rattle.xl_numbers.specs.States.{status_number}
use Rattle.xl.specs.Rules.{keeps_rules}
use Rattle.xl.specs.Steps.{has_frame, step_of}
use Rattle.xl.specs.Status.{status_of}
use Rattle.xl_lent.specs.declared.Link.{Link}
use Rattle.xl_lent.specs.declared.Step.{Step}
use Rattle.xl_lent.specs.Lent.{state_of, shown, formed, coded, silent}

-- 01 REFUSAL.12
-- a refusal gives back the link as it was lent, to the last member, and does nothing
abbrev pub refused : Link → Refusal → Step
refused l k = record { state = l; actions = silent; answer = number_of k }

-- what C sees of a step from l that gives this answer
abbrev pub answered : Link → Stepped → Result (Unit {0}) Refusal → Step
answered l r (Ok tt) = record { state = shown r.state; actions = coded r.actions; answer = 0 }
answered l r (Err k) = refused l k

abbrev pub told : Link → Stepped → Step
told l r = answered l r r.answer

-- 01 REFUSAL.2 01 REFUSAL.3
-- what is looked at before the machine looks: the frame that goes with the event, then whether the numbers say a state
abbrev pub lent_causes : Link → Event → OpenFrame → List Cause
lent_causes l e f = (Refusal.Unlisted when (has_frame e && not (head_listed f.head))) ∷ (Refusal.Rules when not (formed l)) ∷ []

-- the event e, with the frame f beside it, meets l
unfoldable pub met : Link → Event → OpenFrame → Step
met l e f = refuse (refused l) (lent_causes l e f) (told l (step_of f e (state_of l)))

-- an event as C gives it
abbrev pub heard : Link → Option Event → Open → Step
heard l (Some e) o = met l e (frame_of o)
heard l None o = refused l Refusal.Unlisted

unfoldable pub link_event : Link → Code → Open → Step
link_event l c o = heard l (event_of c) o

-- 01 XL.6
abbrev pub opened : Link → Result OpenFrame Refusal → Step
opened l (Err k) = refused l k
opened l (Ok f) = met l (Event.Line Primitive.Open) f

unfoldable pub link_receive : Link → List ℕ → Step
link_receive l bytes = opened l (read_open bytes)

-- 01 XL.39
abbrev pub status_causes : Link → List Cause
status_causes l = (Refusal.Rules when not (formed l)) ∷ []

unfoldable pub link_status : Link → ℕ
link_status l = refuse number_of (status_causes l) (status_number (status_of (state_of l)))

-- ---- what is claimed of it

-- 0, or the refusal's number
abbrev pub answer_number : Result (Unit {0}) Refusal → ℕ
answer_number (Ok tt) = 0
answer_number (Err k) = number_of k

-- the numbers say a state that keeps the machine's rules
unfoldable pub keeps_lent : Link → Bool
keeps_lent l = formed l && keeps_rules (state_of l)

-- C sees what the machine answers: its answer and its actions number for number, and a link whose numbers say its new state
pub record Sees (m : Stepped) (r : Step) : Type 0 where
  pub answer : r.answer ≡ answer_number m.answer
  pub actions : r.actions ≡ coded m.actions
  pub state : state_of r.state ≡ m.state
