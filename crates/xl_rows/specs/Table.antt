-- Document 01, 'XL': its table. Each row of document 01 stands here once, state by state; an event that no row of its state names is
-- unexpected. `Line` is what the phy receives, `Router` and `Manager` what these two say, `Own` what the link tells itself. Assumes nothing.
use Rattle.std.specs.Prelude.{ℕ, ◌+◌, min, Bool, true, false, not, cond, ◌&&◌, List, [], ◌∷◌, eqb, is_some, None, Option, Some}
use Rattle.open_frame.specs.declared.OpenFrame.{OpenFrame}
use Rattle.open_frame.specs.Priority.{higher_than}
use Rattle.xl_parts.specs.declared.Phase.{Phase}
use Rattle.xl_parts.specs.declared.Phase.TheVariants.{Xl0, Xl1, Xl2, Xl3, Xl4, Xl5, Xl6, Xl7, Xl8, Xl9, Xl10}
use Rattle.xl_parts.specs.declared.Wait.{Wait}
use Rattle.xl_parts.specs.declared.Reject.{Reject}
use Rattle.xl_parts.specs.declared.Denial.{Denial}
use Rattle.xl_parts.specs.declared.Arbitration.{Arbitration}
use Rattle.xl_parts.specs.declared.Primitive.{Primitive}
use Rattle.xl_parts.specs.declared.Message.{Message}
use Rattle.xl_parts.specs.declared.Confirmation.{Confirmation}
use Rattle.xl_parts.specs.declared.Notice.{Notice}
use Rattle.xl_parts.specs.declared.BreakEvent.{BreakEvent}
use Rattle.xl_parts.specs.declared.BreakAction.{BreakAction}
use Rattle.xl_parts.specs.declared.Event.{Event}
use Rattle.xl_parts.specs.declared.Event.TheVariants.{Line, Router, Manager, Own, Break, Disable}
use Rattle.xl_parts.specs.declared.Action.{Action}
use Rattle.xl_parts.specs.declared.Action.TheVariants.{Transmit, Send, RequestPath}
use Rattle.xl_parts.specs.declared.Memory.{Memory}
use Rattle.xl_parts.specs.declared.State.{State}
use Rattle.xl_parts.specs.Parts.{Effect, forgets, remembering, holding, hearing, seeing, breaking, closing, blocking, entered, on_entry, stay, to, first}
use Rattle.xl_parts.specs.Kinds.{kind_of, Said, said_by, wait_in, reject_in, denial_in, arbitration_in}
use Rattle.xl_rows.specs.Rows.{Row, ◌⇒◌, ◌unless◌, listed, look}

-- 01 XL.2: An event not listed for the state changes only the unexpected-event count (it stops at 4,294,967,295).
abbrev pub counted : ℕ → ℕ
counted n = min (n + 1) 4294967295

abbrev pub unexpected : State → Effect
unexpected s = stay [] (record { phase = s.phase; memory = s.memory; count = counted s.count })

-- BREAK received with a connection, or with a path to one
abbrev pub broken : State → Effect
broken s = to Xl9 (Action.Break BreakAction.Send ∷ []) s

-- 01 XL.14: ArbReject: OPEN_REJECT of its kind (Bad Link Rate: CONNECTION RATE NOT SUPPORTED), XL4.
abbrev pub reject_for : Denial → Reject
reject_for Denial.NoDestination = Reject.NoDestination
reject_for Denial.BadDestination = Reject.BadDestination
reject_for Denial.BadLinkRate = Reject.Rate
reject_for Denial.PathwayBlocked = Reject.PathwayBlocked

-- 01 XL.15: Arbitrating: AIP(WAITING ON CONNECTION), for the two Partial kinds AIP(WAITING ON PARTIAL).
abbrev pub wait_for : Arbitration → Wait
wait_for Arbitration.WaitingOnPartial = Wait.Partial
wait_for Arbitration.BlockedOnPartial = Wait.Partial
wait_for Arbitration.WaitingOnConnection = Wait.Connection

abbrev pub is_blocked : Arbitration → Bool
is_blocked Arbitration.WaitingOnPartial = false
is_blocked Arbitration.BlockedOnPartial = true
is_blocked Arbitration.WaitingOnConnection = false

-- 01 XL.16: Path timer expired: RequestPath with timeout status if the last Arbitrating in this stay was Blocked On Partial, else nothing.
abbrev pub timed_out : State → Effect
timed_out s = cond s.memory.blocked (stay (RequestPath true ∷ []) s) (stay [] s)

-- 01 XL.19: Forwarded: XL3, or, with BREAK remembered, SendBreak and XL9.
abbrev pub forwarded : State → Effect
forwarded s = cond s.memory.broke (broken s) (to Xl3 [] s)

abbrev pub was_seen : Option Wait → Bool
was_seen a = is_some a

-- g answers f on f's own path: its destination and rate equal source and rate of f
abbrev pub comes_back : OpenFrame → OpenFrame → Bool
comes_back g f = eqb g.head.destination f.head.source && eqb g.head.rate f.head.rate

-- 01 XL.32: Otherwise it is held; if its destination and rate equal source and rate of the frame transmitted: BackoffReversePath of it, XL2 with no SendOpen; else BackoffRetry, XL1.
-- f is the frame transmitted, g the OPEN received
abbrev pub backoff : OpenFrame → OpenFrame → State → Effect
backoff f g s =
    cond (comes_back g f)
    (to Xl2 (Send Message.BackoffReversePath ∷ []) (holding g s))
    (to Xl1 (Send Message.BackoffRetry ∷ []) (holding g s))

-- 01 XL.31: OPEN: if no AIP was seen and it isn't of higher priority than the frame transmitted, nothing.
abbrev pub stands : Option Wait → OpenFrame → OpenFrame → Bool
stands aip f g = not (was_seen aip) && not (higher_than g f)

-- the frame transmitted is the one held; a state that keeps the rules holds one here
abbrev pub crossed : Option OpenFrame → OpenFrame → State → Effect
crossed None g s = stay [] s
crossed (Some f) g s = cond (stands s.memory.aip f g) (stay [] s) (backoff f g s)

abbrev pub heard_in6 : Option OpenFrame → State → Effect
heard_in6 None s = stay [] s
heard_in6 (Some g) s = crossed s.memory.held g s

-- 01 XL.27: Sent: ArbStatus(Waiting On Device), XL6, then a remembered BREAK, or else OPEN, is taken as in XL6 and both are forgotten.
abbrev pub remembered : Memory → State → Effect
remembered m s = cond m.broke (broken s) (heard_in6 m.heard s)

-- XL6, with BREAK and OPEN forgotten
abbrev pub in6 : State → State
in6 s = remembering forgets (entered Xl6 s)

abbrev pub sent_in5 : State → Effect
sent_in5 s = first (on_entry Xl6) (remembered s.memory (in6 s))

-- 01 XL.34: SendClose: transmit CLOSE; XL0 if CLOSE was remembered, else XL8.
abbrev pub send_close_in7 : State → Effect
send_close_in7 s = cond s.memory.close (to Xl0 (Transmit Primitive.Close ∷ []) s) (to Xl8 (Transmit Primitive.Close ∷ []) s)

-- 01 XL.8: XL0: OPEN received: held; to XL1.
-- 01 XL.9: SendOpen(f): hold f, transmit OPEN f, to XL5.
abbrev pub xl0 : OpenFrame → State → List Row
xl0 f s =
    (Line Primitive.Open ⇒ to Xl1 [] (holding f s))
    ∷ (Router Message.SendOpen ⇒ to Xl5 (Transmit Primitive.Open ∷ []) (holding f s))
    ∷ []

-- 01 XL.12: ArbWon: SendOpen, XL2.
-- 01 XL.13: ArbLost: XL0.
-- 01 XL.14
-- 01 XL.15
-- 01 XL.16
abbrev pub xl1 : Denial → Arbitration → State → List Row
xl1 d a s =
    (Manager Confirmation.ArbWon ⇒ to Xl2 (Send Message.SendOpen ∷ []) s)
    ∷ (Manager Confirmation.ArbLost ⇒ to Xl0 [] s)
    ∷ (Manager (Confirmation.ArbReject d) ⇒ to Xl4 (Transmit (Primitive.OpenReject (reject_for d)) ∷ []) s)
    ∷ (Manager (Confirmation.Arbitrating a) ⇒ stay (Transmit (Primitive.Aip (wait_for a)) ∷ []) (blocking (is_blocked a) s))
    ∷ (Own Notice.PathTimer ⇒ timed_out s)
    ∷ []

-- 01 XL.19
abbrev pub xl2 : State → List Row
xl2 s = (Own Notice.Forwarded ⇒ forwarded s) ∷ []

-- 01 XL.20: XL3: ArbStatus: AIP of the same kind, remembered.
-- 01 XL.21: OpenAccept: OPEN_ACCEPT, XL7.
-- 01 XL.22: OpenReject: OPEN_REJECT of its kind, XL0.
-- 01 XL.23: BackoffRetry: XL1.
-- 01 XL.24: BackoffReversePath(f): hold f, transmit it, XL5.
abbrev pub xl3 : OpenFrame → Wait → Reject → State → List Row
xl3 f w k s =
    (Router (Message.ArbStatus w) ⇒ stay (Transmit (Primitive.Aip w) ∷ []) (seeing w s))
    ∷ (Router Message.OpenAccept ⇒ to Xl7 (Transmit Primitive.OpenAccept ∷ []) s)
    ∷ (Router (Message.OpenReject k) ⇒ to Xl0 (Transmit (Primitive.OpenReject k) ∷ []) s)
    ∷ (Router Message.BackoffRetry ⇒ to Xl1 [] s)
    ∷ (Router Message.BackoffReversePath ⇒ to Xl5 (Transmit Primitive.Open ∷ []) (holding f s))
    ∷ []

-- 01 XL.25: XL4: Sent: XL0.
abbrev pub xl4 : State → List Row
xl4 s = (Own Notice.Sent ⇒ to Xl0 [] s) ∷ []

-- 01 XL.26: XL5: OPEN (the latest) and BREAK are remembered.
-- 01 XL.27
abbrev pub xl5 : OpenFrame → State → List Row
xl5 f s = (Line Primitive.Open ⇒ stay [] (hearing f s)) ∷ (Own Notice.Sent ⇒ sent_in5 s) ∷ []

-- 01 XL.28: XL6: OPEN_ACCEPT: OpenAccept, XL7.
-- 01 XL.29: OPEN_REJECT: OpenReject of its kind, XL0.
-- 01 XL.30: AIP: ArbStatus of its kind, remembered.
-- 01 XL.31
-- 01 XL.32
abbrev pub xl6 : OpenFrame → Wait → Reject → State → List Row
xl6 f w k s =
    (Line Primitive.OpenAccept ⇒ to Xl7 (Send Message.OpenAccept ∷ []) s)
    ∷ (Line (Primitive.OpenReject k) ⇒ to Xl0 (Send (Message.OpenReject k) ∷ []) s)
    ∷ (Line (Primitive.Aip w) ⇒ stay (Send (Message.ArbStatus w) ∷ []) (seeing w s))
    ∷ (Line Primitive.Open ⇒ crossed s.memory.held f s)
    ∷ []

-- 01 XL.33: XL7: CLOSE received: SendClose, remembered; a second is unexpected.
-- 01 XL.34
abbrev pub xl7 : State → List Row
xl7 s =
    (Line Primitive.Close ⇒ stay (Send Message.SendClose ∷ []) (closing s) unless s.memory.close)
    ∷ (Router Message.SendClose ⇒ send_close_in7 s)
    ∷ []

-- 01 XL.35: XL8: CLOSE: SendClose, XL0.
abbrev pub xl8 : State → List Row
xl8 s = (Line Primitive.Close ⇒ to Xl0 (Send Message.SendClose ∷ []) s) ∷ []

-- 01 XL.37: XL9, Sent: XL0.
abbrev pub xl9 : State → List Row
xl9 s = (Own Notice.Sent ⇒ to Xl0 [] s) ∷ []

-- each state's rows but those of BREAK and Disable; what an event says besides its kind is x
abbrev pub rows : Phase → OpenFrame → Said → State → List Row
rows Xl0 f x s = xl0 f s
rows Xl1 f x s = xl1 (denial_in x) (arbitration_in x) s
rows Xl2 f x s = xl2 s
rows Xl3 f x s = xl3 f (wait_in x) (reject_in x) s
rows Xl4 f x s = xl4 s
rows Xl5 f x s = xl5 f s
rows Xl6 f x s = xl6 f (wait_in x) (reject_in x) s
rows Xl7 f x s = xl7 s
rows Xl8 f x s = xl8 s
rows Xl9 f x s = xl9 s
rows Xl10 f x s = []

-- what an event does in a state, by these rows
abbrev pub in_state : Phase → OpenFrame → Event → State → Effect
in_state p f e s = look (kind_of e) (rows p f (said_by e) s) (unexpected s)

-- 01 XL.7: In XL3, XL6, XL7 and XL8, BREAK received: SendBreak, XL9; SendBreak: XL10.
abbrev pub joined : State → List Row
joined s = (Break BreakEvent.Received ⇒ broken s) ∷ (Break BreakEvent.Routed ⇒ to Xl10 [] s) ∷ []

-- 01 XL.17: BREAK: XL9.
-- 01 XL.18: XL2: BREAK is remembered.
-- 01 XL.26
-- 01 XL.38: XL10, BREAK or break timeout: XL0.
abbrev pub break_rows : Phase → State → List Row
break_rows Xl0 s = []
break_rows Xl1 s = (Break BreakEvent.Received ⇒ to Xl9 [] s) ∷ []
break_rows Xl2 s = (Break BreakEvent.Received ⇒ stay [] (breaking s)) ∷ []
break_rows Xl3 s = joined s
break_rows Xl4 s = []
break_rows Xl5 s = (Break BreakEvent.Received ⇒ stay [] (breaking s)) ∷ []
break_rows Xl6 s = joined s
break_rows Xl7 s = joined s
break_rows Xl8 s = joined s
break_rows Xl9 s = []
break_rows Xl10 s = (Break BreakEvent.Received ⇒ to Xl0 [] s) ∷ (Break BreakEvent.Timeout ⇒ to Xl0 [] s) ∷ []

abbrev pub on_break : Phase → BreakEvent → State → Effect
on_break p b s = look (kind_of (Break b)) (break_rows p s) (unexpected s)

-- 01 XL.3: Disable: XL0 from any state, no action.
abbrev pub always : State → List Row
always s = (Disable ⇒ to Xl0 [] s) ∷ []

-- the rows among which an event with the frame f is looked up
abbrev pub rows_for : OpenFrame → Event → State → List Row
rows_for f (Line p) s = rows s.phase f (said_by (Line p)) s
rows_for f (Router m) s = rows s.phase f (said_by (Router m)) s
rows_for f (Manager c) s = rows s.phase f (said_by (Manager c)) s
rows_for f (Own n) s = rows s.phase f (said_by (Own n)) s
rows_for f (Break b) s = break_rows s.phase s
rows_for f Disable s = always s

abbrev pub is_listed : OpenFrame → Event → State → Bool
is_listed f e s = listed (kind_of e) (rows_for f e s)

abbrev pub takes : OpenFrame → Event → State → Effect
takes f e s = look (kind_of e) (rows_for f e s) (unexpected s)
