-- The numbers of the link a second time, typed: each kind beside its event, with the first of its details, and the details in document
-- 01's order. Assumes nothing.
use Rattle.refusals.specs.declared.Refusal.{Refusal}
use Rattle.std.specs.Prelude.{true, false, List, [], ◌∷◌, None, Ok, Option, Result, Some}
use Rattle.xl_parts.specs.declared.Phase.{Phase}
use Rattle.xl_parts.specs.declared.Wait.{Wait}
use Rattle.xl_parts.specs.declared.Reject.{Reject}
use Rattle.xl_parts.specs.declared.Denial.{Denial}
use Rattle.xl_parts.specs.declared.Arbitration.{Arbitration}
use Rattle.xl_parts.specs.declared.Primitive.{Primitive}
use Rattle.xl_parts.specs.declared.Message.{Message}
use Rattle.xl_parts.specs.declared.Confirmation.{Confirmation}
use Rattle.xl_parts.specs.declared.Notice.{Notice}
use Rattle.xl_parts.specs.declared.BreakEvent.{BreakEvent}
use Rattle.xl_parts.specs.declared.Event.{Event}
use Rattle.xl_parts.specs.declared.Event.TheVariants.{Line, Router, Manager, Own, Break, Disable}
use Rattle.xl_parts.specs.declared.Action.{Action}
use Rattle.xl_parts.specs.declared.LinkStatus.{LinkStatus}
use Rattle.xl_numbers.specs.declared.codes.Code.{Code}
use Rattle.xl_numbers.specs.Codes.{coded}

-- line, router, manager, the link itself, Disable
abbrev pub typed_events : List Event
typed_events =
    Line Primitive.Open ∷ Line Primitive.OpenAccept ∷ Line (Primitive.OpenReject Reject.NoDestination) ∷ Line (Primitive.Aip Wait.Normal)
    ∷ Line Primitive.Close ∷ Break BreakEvent.Received
    ∷ Router Message.SendOpen ∷ Router Message.SendClose ∷ Break BreakEvent.Routed ∷ Router (Message.ArbStatus Wait.Normal)
    ∷ Router Message.OpenAccept ∷ Router (Message.OpenReject Reject.NoDestination) ∷ Router Message.BackoffRetry ∷ Router Message.BackoffReversePath
    ∷ Manager Confirmation.ArbWon ∷ Manager Confirmation.ArbLost ∷ Manager (Confirmation.ArbReject Denial.NoDestination)
    ∷ Manager (Confirmation.Arbitrating Arbitration.WaitingOnPartial)
    ∷ Own Notice.PathTimer ∷ Own Notice.Sent ∷ Own Notice.Forwarded ∷ Break BreakEvent.Timeout
    ∷ Disable ∷ []

abbrev pub typed_codes : List Code
typed_codes =
    coded 1 0 ∷ coded 2 0 ∷ coded 3 0 ∷ coded 4 0 ∷ coded 5 0 ∷ coded 6 0
    ∷ coded 16 0 ∷ coded 17 0 ∷ coded 18 0 ∷ coded 19 0 ∷ coded 20 0 ∷ coded 21 0 ∷ coded 22 0 ∷ coded 23 0
    ∷ coded 32 0 ∷ coded 33 0 ∷ coded 34 0 ∷ coded 35 0
    ∷ coded 48 0 ∷ coded 49 0 ∷ coded 50 0 ∷ coded 51 0
    ∷ coded 63 0 ∷ []

-- what is an action only
abbrev pub typed_actions : List (Option Action)
typed_actions = None ∷ Some (Action.RequestPath false) ∷ Some (Action.RequestPath true) ∷ []

abbrev pub typed_action_codes : List Code
typed_action_codes = coded 0 0 ∷ coded 40 0 ∷ coded 40 1 ∷ []

-- 01 XL.5
abbrev pub typed_rejects : List Reject
typed_rejects =
    Reject.NoDestination ∷ Reject.BadDestination ∷ Reject.WrongDestination ∷ Reject.Rate ∷ Reject.Protocol ∷ Reject.PathwayBlocked ∷ Reject.Busy
    ∷ Reject.Retry ∷ []

abbrev pub typed_waits : List Wait
typed_waits = Wait.Normal ∷ Wait.Partial ∷ Wait.Connection ∷ Wait.Device ∷ []

abbrev pub typed_denials : List Denial
typed_denials = Denial.NoDestination ∷ Denial.BadDestination ∷ Denial.BadLinkRate ∷ Denial.PathwayBlocked ∷ []

abbrev pub typed_arbitrations : List Arbitration
typed_arbitrations = Arbitration.WaitingOnPartial ∷ Arbitration.BlockedOnPartial ∷ Arbitration.WaitingOnConnection ∷ []

-- 01 XL.4
abbrev pub typed_phases : List Phase
typed_phases =
    Phase.Xl0 ∷ Phase.Xl1 ∷ Phase.Xl2 ∷ Phase.Xl3 ∷ Phase.Xl4 ∷ Phase.Xl5 ∷ Phase.Xl6 ∷ Phase.Xl7 ∷ Phase.Xl8 ∷ Phase.Xl9 ∷ Phase.Xl10 ∷ []

abbrev pub typed_aips : List (Option Wait)
typed_aips =
    None ∷ Some Wait.Normal ∷ Some Wait.Partial ∷ Some Wait.Connection ∷ Some Wait.Device ∷ []

abbrev pub typed_statuses : List (Result LinkStatus Refusal)
typed_statuses = (Ok LinkStatus.Ready) ∷ (Ok LinkStatus.Partial) ∷ (Ok LinkStatus.BlockedPartial) ∷ (Ok LinkStatus.Connected) ∷ []
