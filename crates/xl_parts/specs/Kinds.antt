-- Document 01, 'XL': which events are of one kind, and what an event says besides. Assumes nothing.
use Rattle.std.specs.Prelude.{ℕ, Bool, ◌&&◌, eqb}
use Rattle.xl_parts.specs.declared.Wait.{Wait}
use Rattle.xl_parts.specs.declared.Reject.{Reject}
use Rattle.xl_parts.specs.declared.Denial.{Denial}
use Rattle.xl_parts.specs.declared.Arbitration.{Arbitration}
use Rattle.xl_parts.specs.declared.Primitive.{Primitive}
use Rattle.xl_parts.specs.declared.Message.{Message}
use Rattle.xl_parts.specs.declared.Confirmation.{Confirmation}
use Rattle.xl_parts.specs.declared.Notice.{Notice}
use Rattle.xl_parts.specs.declared.BreakEvent.{BreakEvent}
use Rattle.xl_parts.specs.declared.Event.{Event}
use Rattle.xl_parts.specs.declared.Event.TheVariants.{Line, Router, Manager, Own, Break, Disable}

-- where an event comes from, and its number there
pub record Kind : Type 0 where
  pub group : ℕ
  pub place : ℕ

abbrev line_place : Primitive → ℕ
line_place Primitive.Open = 0
line_place Primitive.OpenAccept = 1
line_place (Primitive.OpenReject k) = 2
line_place (Primitive.Aip k) = 3
line_place Primitive.Close = 4

abbrev router_place : Message → ℕ
router_place Message.SendOpen = 0
router_place Message.SendClose = 1
router_place (Message.ArbStatus k) = 2
router_place Message.OpenAccept = 3
router_place (Message.OpenReject k) = 4
router_place Message.BackoffRetry = 5
router_place Message.BackoffReversePath = 6

abbrev manager_place : Confirmation → ℕ
manager_place Confirmation.ArbWon = 0
manager_place Confirmation.ArbLost = 1
manager_place (Confirmation.ArbReject k) = 2
manager_place (Confirmation.Arbitrating k) = 3

abbrev own_place : Notice → ℕ
own_place Notice.PathTimer = 0
own_place Notice.Sent = 1
own_place Notice.Forwarded = 2

abbrev break_place : BreakEvent → ℕ
break_place BreakEvent.Received = 0
break_place BreakEvent.Routed = 1
break_place BreakEvent.Timeout = 2

abbrev pub kind_of : Event → Kind
kind_of (Line p) = record { group = 0; place = line_place p }
kind_of (Router m) = record { group = 1; place = router_place m }
kind_of (Manager c) = record { group = 2; place = manager_place c }
kind_of (Own n) = record { group = 3; place = own_place n }
kind_of (Break b) = record { group = 4; place = break_place b }
kind_of Disable = record { group = 5; place = 0 }

abbrev pub same : Kind → Kind → Bool
same a b = eqb a.group b.group && eqb a.place b.place

-- what an event says besides its kind
pub data Said : Type 0 where
  nothing : Said
  wait : Wait → Said
  reject : Reject → Said
  denial : Denial → Said
  arbitration : Arbitration → Said

abbrev line_said : Primitive → Said
line_said Primitive.Open = nothing
line_said Primitive.OpenAccept = nothing
line_said (Primitive.OpenReject k) = reject k
line_said (Primitive.Aip k) = wait k
line_said Primitive.Close = nothing

abbrev router_said : Message → Said
router_said Message.SendOpen = nothing
router_said Message.SendClose = nothing
router_said (Message.ArbStatus k) = wait k
router_said Message.OpenAccept = nothing
router_said (Message.OpenReject k) = reject k
router_said Message.BackoffRetry = nothing
router_said Message.BackoffReversePath = nothing

abbrev manager_said : Confirmation → Said
manager_said Confirmation.ArbWon = nothing
manager_said Confirmation.ArbLost = nothing
manager_said (Confirmation.ArbReject k) = denial k
manager_said (Confirmation.Arbitrating k) = arbitration k

abbrev pub said_by : Event → Said
said_by (Line p) = line_said p
said_by (Router m) = router_said m
said_by (Manager c) = manager_said c
said_by (Own n) = nothing
said_by (Break b) = nothing
said_by Disable = nothing

-- each of them; where an event says another, no row of its kind looks at it
abbrev pub wait_in : Said → Wait
wait_in nothing = Wait.Normal
wait_in (wait k) = k
wait_in (reject k) = Wait.Normal
wait_in (denial k) = Wait.Normal
wait_in (arbitration k) = Wait.Normal

abbrev pub reject_in : Said → Reject
reject_in nothing = Reject.Retry
reject_in (wait k) = Reject.Retry
reject_in (reject k) = k
reject_in (denial k) = Reject.Retry
reject_in (arbitration k) = Reject.Retry

abbrev pub denial_in : Said → Denial
denial_in nothing = Denial.PathwayBlocked
denial_in (wait k) = Denial.PathwayBlocked
denial_in (reject k) = Denial.PathwayBlocked
denial_in (denial k) = k
denial_in (arbitration k) = Denial.PathwayBlocked

abbrev pub arbitration_in : Said → Arbitration
arbitration_in nothing = Arbitration.WaitingOnConnection
arbitration_in (wait k) = Arbitration.WaitingOnConnection
arbitration_in (reject k) = Arbitration.WaitingOnConnection
arbitration_in (denial k) = Arbitration.WaitingOnConnection
arbitration_in (arbitration k) = k
