-- Events and actions as two numbers, a kind and a detail. What the phy receives and transmits has the kinds below 16, what the router carries
-- those from 16, what the connection manager says and hears those from 32, what the link tells itself those from 48. Assumes nothing.
use Rattle.std.specs.Prelude.{ℕ, ◌-◌, cond, ◌&&◌, List, [], ◌∷◌, eqb, ltb, get_or, None, Option, Some}
use Rattle.std.specs.Option.{option_map}
use Rattle.laws.specs.Names.{flag}
use Rattle.xl_parts.specs.declared.Primitive.{Primitive}
use Rattle.xl_parts.specs.declared.Message.{Message}
use Rattle.xl_parts.specs.declared.Confirmation.{Confirmation}
use Rattle.xl_parts.specs.declared.Notice.{Notice}
use Rattle.xl_parts.specs.declared.BreakEvent.{BreakEvent}
use Rattle.xl_parts.specs.declared.BreakAction.{BreakAction}
use Rattle.xl_parts.specs.declared.Event.{Event}
use Rattle.xl_parts.specs.declared.Event.TheVariants.{Line, Router, Manager, Own, Break, Disable}
use Rattle.xl_parts.specs.declared.Action.{Action}
use Rattle.xl_numbers.specs.declared.codes.Code.{Code}
use Rattle.xl_numbers.specs.Details.{wait_number, wait_of, reject_number, reject_of, denial_number, denial_of, arbitration_number, arbitration_of}

abbrev pub coded : ℕ → ℕ → Code
coded kind detail = record { kind = kind; detail = detail }

abbrev pub primitive_number : Primitive → Code
primitive_number Primitive.Open = coded 1 0
primitive_number Primitive.OpenAccept = coded 2 0
primitive_number (Primitive.OpenReject k) = coded 3 (reject_number k)
primitive_number (Primitive.Aip w) = coded 4 (wait_number w)
primitive_number Primitive.Close = coded 5 0

abbrev pub message_number : Message → Code
message_number Message.SendOpen = coded 16 0
message_number Message.SendClose = coded 17 0
message_number (Message.ArbStatus w) = coded 19 (wait_number w)
message_number Message.OpenAccept = coded 20 0
message_number (Message.OpenReject k) = coded 21 (reject_number k)
message_number Message.BackoffRetry = coded 22 0
message_number Message.BackoffReversePath = coded 23 0

abbrev pub confirmation_number : Confirmation → Code
confirmation_number Confirmation.ArbWon = coded 32 0
confirmation_number Confirmation.ArbLost = coded 33 0
confirmation_number (Confirmation.ArbReject d) = coded 34 (denial_number d)
confirmation_number (Confirmation.Arbitrating a) = coded 35 (arbitration_number a)

abbrev pub notice_number : Notice → Code
notice_number Notice.PathTimer = coded 48 0
notice_number Notice.Sent = coded 49 0
notice_number Notice.Forwarded = coded 50 0

-- BREAK, SendBreak, and the break timeout
abbrev pub break_number : BreakEvent → Code
break_number BreakEvent.Received = coded 6 0
break_number BreakEvent.Routed = coded 18 0
break_number BreakEvent.Timeout = coded 51 0

abbrev pub event_number : Event → Code
event_number (Line p) = primitive_number p
event_number (Router m) = message_number m
event_number (Manager c) = confirmation_number c
event_number (Own n) = notice_number n
event_number (Break b) = break_number b
event_number Disable = coded 63 0

-- the event e, where its kind has so many details
abbrev pub up_to : ℕ → ℕ → Event → Option Event
up_to details detail e = cond (ltb detail details) (Some e) None

-- the events of each group with the detail d, in the order of their kinds
abbrev pub line_events : ℕ → List (Option Event)
line_events d =
    None
    ∷ up_to 1 d (Line Primitive.Open)
    ∷ up_to 1 d (Line Primitive.OpenAccept)
    ∷ up_to 8 d (Line (Primitive.OpenReject (reject_of d)))
    ∷ up_to 4 d (Line (Primitive.Aip (wait_of d)))
    ∷ up_to 1 d (Line Primitive.Close)
    ∷ up_to 1 d (Break BreakEvent.Received)
    ∷ []

abbrev pub router_events : ℕ → List (Option Event)
router_events d =
    up_to 1 d (Router Message.SendOpen)
    ∷ up_to 1 d (Router Message.SendClose)
    ∷ up_to 1 d (Break BreakEvent.Routed)
    ∷ up_to 4 d (Router (Message.ArbStatus (wait_of d)))
    ∷ up_to 1 d (Router Message.OpenAccept)
    ∷ up_to 8 d (Router (Message.OpenReject (reject_of d)))
    ∷ up_to 1 d (Router Message.BackoffRetry)
    ∷ up_to 1 d (Router Message.BackoffReversePath)
    ∷ []

abbrev pub manager_events : ℕ → List (Option Event)
manager_events d =
    up_to 1 d (Manager Confirmation.ArbWon)
    ∷ up_to 1 d (Manager Confirmation.ArbLost)
    ∷ up_to 4 d (Manager (Confirmation.ArbReject (denial_of d)))
    ∷ up_to 3 d (Manager (Confirmation.Arbitrating (arbitration_of d)))
    ∷ []

abbrev pub own_events : ℕ → List (Option Event)
own_events d =
    up_to 1 d (Own Notice.PathTimer) ∷ up_to 1 d (Own Notice.Sent) ∷ up_to 1 d (Own Notice.Forwarded) ∷ up_to 1 d (Break BreakEvent.Timeout) ∷ []

-- the event of a kind, counted from its group's first
abbrev pub from_line : ℕ → ℕ → Option Event
from_line kind detail = get_or (line_events detail) kind None

abbrev pub from_router : ℕ → ℕ → Option Event
from_router kind detail = get_or (router_events detail) kind None

abbrev pub from_manager : ℕ → ℕ → Option Event
from_manager kind detail = get_or (manager_events detail) kind None

abbrev pub own : ℕ → ℕ → Option Event
own kind detail = get_or (own_events detail) kind None

-- 01 REFUSAL.2
-- an event is an enum, so that a link meets none but those listed; of two numbers that name none this says so, and whoever is given
-- numbers refuses them. What a state doesn't list is another thing: it is counted (XL.2)
unfoldable pub event_of : Code → Option Event
event_of c =
    cond (ltb c.kind 16)
    (from_line c.kind c.detail)
    (cond (ltb c.kind 32)
    (from_router (c.kind - 16) c.detail)
    (cond (ltb c.kind 48)
    (from_manager (c.kind - 32) c.detail)
    (cond (eqb c.kind 63)
    (up_to 1 c.detail Disable)
    (own (c.kind - 48) c.detail))))

-- what a link has said when another hears the event
abbrev pub said : Event → Option Action
said (Line p) = Some (Action.Transmit p)
said (Router m) = Some (Action.Send m)
said (Manager c) = None
said (Own n) = None
said (Break BreakEvent.Received) = Some (Action.Break BreakAction.Transmit)
said (Break BreakEvent.Routed) = Some (Action.Break BreakAction.Send)
said (Break BreakEvent.Timeout) = None
said Disable = None

-- 0 is no action
abbrev pub action_number : Option Action → Code
action_number None = coded 0 0
action_number (Some (Action.Transmit p)) = primitive_number p
action_number (Some (Action.Send m)) = message_number m
action_number (Some (Action.RequestPath t)) = coded 40 (flag t)
action_number (Some (Action.Break BreakAction.Transmit)) = break_number BreakEvent.Received
action_number (Some (Action.Break BreakAction.Send)) = break_number BreakEvent.Routed

abbrev pub heard : Option Event → Option (Option Action)
heard (Some e) = option_map Some (said e)
heard None = None

unfoldable pub action_of : Code → Option (Option Action)
action_of c =
    cond (eqb c.kind 0 && eqb c.detail 0)
    (Some None)
    (cond (eqb c.kind 40 && ltb c.detail 2) (Some (Some (Action.RequestPath (eqb c.detail 1)))) (heard (event_of c)))
