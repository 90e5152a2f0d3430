-- What document 01 has a link remember, a second time: read from what the link met and answered, and not from its memory. Assumes nothing.
use Rattle.xl_parts.specs.declared.Wait.{Wait}
use Rattle.open_frame.specs.declared.OpenFrame.{OpenFrame}
use Rattle.std.specs.Prelude.{Bool, true, false, List, [], ◌∷◌, None, Option, Some}
use Rattle.xl_parts.specs.declared.Phase.{Phase}
use Rattle.xl_parts.specs.declared.Phase.TheVariants.{Xl0, Xl1, Xl2, Xl3, Xl4, Xl5, Xl6, Xl7, Xl8, Xl9, Xl10}
use Rattle.xl_parts.specs.declared.Arbitration.{Arbitration}
use Rattle.xl_parts.specs.declared.Primitive.{Primitive}
use Rattle.xl_parts.specs.declared.Message.{Message}
use Rattle.xl_parts.specs.declared.Confirmation.{Confirmation}
use Rattle.xl_parts.specs.declared.Event.{Event}
use Rattle.xl_parts.specs.declared.Event.TheVariants.{Line, Router, Manager, Own, Break, Disable}
use Rattle.xl_calls.specs.Met.{Met, shown_at, since, came}
use Rattle.xl_calls.specs.Marks.{opens, forwards, accepts, requests, is_break, is_close, is_send_close}

-- the latest OPEN received, after this event with the frame f
abbrev pub open_after : Event → Option OpenFrame → Option OpenFrame → Option OpenFrame
open_after (Line Primitive.Open) f earlier = f
open_after (Line Primitive.OpenAccept) f earlier = earlier
open_after (Line (Primitive.OpenReject k)) f earlier = earlier
open_after (Line (Primitive.Aip w)) f earlier = earlier
open_after (Line Primitive.Close) f earlier = earlier
open_after (Router m) f earlier = earlier
open_after (Manager c) f earlier = earlier
open_after (Own n) f earlier = earlier
open_after (Break b) f earlier = earlier
open_after Disable f earlier = earlier

abbrev pub latest_open : List Met → Option OpenFrame
latest_open [] = None
latest_open (m ∷ ms) = open_after m.event m.frame (latest_open ms)

-- the latest AIP, after this event
abbrev pub aip_after : Event → Option Wait → Option Wait
aip_after (Line Primitive.Open) earlier = earlier
aip_after (Line Primitive.OpenAccept) earlier = earlier
aip_after (Line (Primitive.OpenReject k)) earlier = earlier
aip_after (Line (Primitive.Aip w)) earlier = Some w
aip_after (Line Primitive.Close) earlier = earlier
aip_after (Router m) earlier = earlier
aip_after (Manager c) earlier = earlier
aip_after (Own n) earlier = earlier
aip_after (Break b) earlier = earlier
aip_after Disable earlier = earlier

-- an AIP is seen in XL6; in another state it is unexpected
abbrev pub aip_in : Phase → Event → Option Wait → Option Wait
aip_in Xl0 e earlier = earlier
aip_in Xl1 e earlier = earlier
aip_in Xl2 e earlier = earlier
aip_in Xl3 e earlier = earlier
aip_in Xl4 e earlier = earlier
aip_in Xl5 e earlier = earlier
aip_in Xl6 e earlier = aip_after e earlier
aip_in Xl7 e earlier = earlier
aip_in Xl8 e earlier = earlier
aip_in Xl9 e earlier = earlier
aip_in Xl10 e earlier = earlier

abbrev pub latest_aip : List Met → Option Wait
latest_aip [] = None
latest_aip (m ∷ ms) = aip_in m.phase m.event (latest_aip ms)

-- the latest ArbStatus, after this event
abbrev pub status_after : Event → Option Wait → Option Wait
status_after (Line p) earlier = earlier
status_after (Router Message.SendOpen) earlier = earlier
status_after (Router Message.SendClose) earlier = earlier
status_after (Router (Message.ArbStatus w)) earlier = Some w
status_after (Router Message.OpenAccept) earlier = earlier
status_after (Router (Message.OpenReject k)) earlier = earlier
status_after (Router Message.BackoffRetry) earlier = earlier
status_after (Router Message.BackoffReversePath) earlier = earlier
status_after (Manager c) earlier = earlier
status_after (Own n) earlier = earlier
status_after (Break b) earlier = earlier
status_after Disable earlier = earlier

-- an ArbStatus is listed for XL3 alone
abbrev pub status_in : Phase → Event → Option Wait → Option Wait
status_in Xl0 e earlier = earlier
status_in Xl1 e earlier = earlier
status_in Xl2 e earlier = earlier
status_in Xl3 e earlier = status_after e earlier
status_in Xl4 e earlier = earlier
status_in Xl5 e earlier = earlier
status_in Xl6 e earlier = earlier
status_in Xl7 e earlier = earlier
status_in Xl8 e earlier = earlier
status_in Xl9 e earlier = earlier
status_in Xl10 e earlier = earlier

abbrev pub latest_status : List Met → Option Wait
latest_status [] = None
latest_status (m ∷ ms) = status_in m.phase m.event (latest_status ms)

-- whether the last Arbitrating was Blocked On Partial, after this event
abbrev pub blocked_after : Event → Bool → Bool
blocked_after (Line p) earlier = earlier
blocked_after (Router m) earlier = earlier
blocked_after (Manager Confirmation.ArbWon) earlier = earlier
blocked_after (Manager Confirmation.ArbLost) earlier = earlier
blocked_after (Manager (Confirmation.ArbReject k)) earlier = earlier
blocked_after (Manager (Confirmation.Arbitrating Arbitration.WaitingOnPartial)) earlier = false
blocked_after (Manager (Confirmation.Arbitrating Arbitration.BlockedOnPartial)) earlier = true
blocked_after (Manager (Confirmation.Arbitrating Arbitration.WaitingOnConnection)) earlier = false
blocked_after (Own n) earlier = earlier
blocked_after (Break b) earlier = earlier
blocked_after Disable earlier = earlier

abbrev pub last_blocked : List Met → Bool
last_blocked [] = false
last_blocked (m ∷ ms) = blocked_after m.event (last_blocked ms)

-- 01 XL.16
-- the last Arbitrating in this stay was Blocked On Partial
abbrev pub blocked_met : List Met → Bool
blocked_met ms = last_blocked (since requests ms)

-- the frame transmitted: that of the last OPEN
abbrev pub transmitted : List Met → Option OpenFrame
transmitted ms = shown_at opens ms

-- 01 XL.31: OPEN: if no AIP was seen and it isn't of higher priority than the frame transmitted, nothing.
-- the latest AIP since the OPEN was transmitted
abbrev pub aip_met : List Met → Option Wait
aip_met ms = latest_aip (since opens ms)

-- 01 XL.26
-- the latest OPEN since the link's own was transmitted, and whether BREAK came
abbrev pub open_met : List Met → Option OpenFrame
open_met ms = latest_open (since opens ms)

abbrev pub break_sent : List Met → Bool
break_sent ms = came is_break (since opens ms)

-- 01 XL.18
-- whether BREAK came since an OPEN was forwarded
abbrev pub break_forwarded : List Met → Bool
break_forwarded ms = came is_break (since forwards ms)

-- 01 XL.20
-- the latest ArbStatus since an OPEN was forwarded
abbrev pub status_met : List Met → Option Wait
status_met ms = latest_status (since forwards ms)

-- 01 XL.33 01 XL.34
-- whether CLOSE came in this connection, and SendClose
abbrev pub close_met : List Met → Bool
close_met ms = came is_close (since accepts ms)

abbrev pub send_close_met : List Met → Bool
send_close_met ms = came is_send_close (since accepts ms)
