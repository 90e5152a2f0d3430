-- What the claims say of a link after any calls from XL0: the answers in document 01's words, OPENs that cross, and a connection. What was
-- transmitted and received is read from the calls and their answers, not from what the link remembers. Assumes nothing.
use Rattle.std.specs.Prelude.{true, false, List, [], ◌∷◌, ◌≡◌, slice_get, Ok, Option, Some}
use Rattle.open_frame.specs.Open.{head_listed}
use Rattle.open_frame.specs.declared.OpenFrame.{OpenFrame}
use Rattle.xl_parts.specs.declared.Phase.{Phase}
use Rattle.xl_parts.specs.declared.Action.{Action}
use Rattle.xl_parts.specs.declared.State.{State}
use Rattle.xl_parts.specs.declared.Stepped.{Stepped}
use Rattle.xl_parts.specs.Parts.{Actions, Effect, ready}
use Rattle.xl_rows.specs.Sentences.{BacksOff}
use Rattle.xl_calls.specs.Links.{Call, run}
use Rattle.xl_calls.specs.Met.{Met, met}
use Rattle.xl_calls.specs.Memory.{transmitted, open_met, break_sent}

-- the link after some calls from XL0
abbrev pub after : List Call → State
after cs = run cs ready

-- what they met and answered
abbrev pub history : List Call → List Met
history cs = met cs ready []

-- 01 XL.1
-- place by place, and None where there is no action
abbrev pub filled : List Action → Actions
filled acts = slice_get acts 0 ∷ slice_get acts 1 ∷ slice_get acts 2 ∷ slice_get acts 3 ∷ []

-- a step that is done
abbrev pub answers : State → List Action → Stepped
answers s acts = record { answer = Ok tt; state = s; actions = filled acts }

-- it is done, and P holds of the state and the actions
pub record Answers (P : Effect → Type 0) (r : Stepped) : Type 0 where
  pub effect : Effect
  pub does : P effect
  pub is : r ≡ answers effect.state effect.actions

-- 01 XL.31 01 XL.32
-- the OPEN g is received in XL6, where f was transmitted
pub record Crossed (cs : List Call) (f g : OpenFrame) : Type 0 where
  pub phase : (after cs).phase ≡ Phase.Xl6
  pub sent : transmitted (history cs) ≡ Some f
  pub fields : head_listed g.head ≡ true

-- 01 XL.27
-- in XL5, where f is transmitted, the OPEN g was received since, and no BREAK
pub record Remembered (cs : List Call) (f g : OpenFrame) : Type 0 where
  pub phase : (after cs).phase ≡ Phase.Xl5
  pub sent : transmitted (history cs) ≡ Some f
  pub unbroken : break_sent (history cs) ≡ false
  pub received : open_met (history cs) ≡ Some g

-- 01 XL.32
-- behind the actions `lead` g backs off, where f was transmitted and `heard` is the OPEN remembered
abbrev pub Backs : List Call → OpenFrame → OpenFrame → List Action → Option OpenFrame → Stepped → Type 0
Backs cs f g lead heard = Answers (BacksOff f g lead heard (after cs).memory.close (after cs).memory.blocked (after cs).count)

-- a connection
pub data Connected : Phase → Type 0 where
  in7 : Connected Phase.Xl7
  in8 : Connected Phase.Xl8
