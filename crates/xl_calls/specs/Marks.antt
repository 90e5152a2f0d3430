-- The actions that begin something, and the events that come since: what document 01 has a link remember reaches back to one of the first.
-- Assumes nothing.
use Rattle.std.specs.Prelude.{Bool, true, false, not}
use Rattle.xl_parts.specs.declared.Primitive.{Primitive}
use Rattle.xl_parts.specs.declared.Message.{Message}
use Rattle.xl_parts.specs.declared.BreakEvent.{BreakEvent}
use Rattle.xl_parts.specs.declared.Event.{Event}
use Rattle.xl_parts.specs.declared.Event.TheVariants.{Line, Router, Manager, Own, Break, Disable}
use Rattle.xl_parts.specs.declared.Action.{Action}

-- OPEN is transmitted
abbrev pub opens : Action → Bool
opens (Action.Transmit Primitive.Open) = true
opens (Action.Transmit Primitive.OpenAccept) = false
opens (Action.Transmit (Primitive.OpenReject k)) = false
opens (Action.Transmit (Primitive.Aip w)) = false
opens (Action.Transmit Primitive.Close) = false
opens (Action.Send m) = false
opens (Action.RequestPath t) = false
opens (Action.Break b) = false

-- an OPEN is forwarded to the router: SendOpen, or BackoffReversePath
abbrev pub forwards : Action → Bool
forwards (Action.Transmit p) = false
forwards (Action.Send Message.SendOpen) = true
forwards (Action.Send Message.SendClose) = false
forwards (Action.Send (Message.ArbStatus w)) = false
forwards (Action.Send Message.OpenAccept) = false
forwards (Action.Send (Message.OpenReject k)) = false
forwards (Action.Send Message.BackoffRetry) = false
forwards (Action.Send Message.BackoffReversePath) = true
forwards (Action.RequestPath t) = false
forwards (Action.Break b) = false

-- a connection begins: OPEN_ACCEPT is transmitted, or OpenAccept sent
abbrev pub accepts : Action → Bool
accepts (Action.Transmit Primitive.Open) = false
accepts (Action.Transmit Primitive.OpenAccept) = true
accepts (Action.Transmit (Primitive.OpenReject k)) = false
accepts (Action.Transmit (Primitive.Aip w)) = false
accepts (Action.Transmit Primitive.Close) = false
accepts (Action.Send Message.SendOpen) = false
accepts (Action.Send Message.SendClose) = false
accepts (Action.Send (Message.ArbStatus w)) = false
accepts (Action.Send Message.OpenAccept) = true
accepts (Action.Send (Message.OpenReject k)) = false
accepts (Action.Send Message.BackoffRetry) = false
accepts (Action.Send Message.BackoffReversePath) = false
accepts (Action.RequestPath t) = false
accepts (Action.Break b) = false

-- a path is requested: a stay in XL1 begins
abbrev pub requests : Action → Bool
requests (Action.Transmit p) = false
requests (Action.Send m) = false
requests (Action.RequestPath timeout) = not timeout
requests (Action.Break b) = false

-- BREAK received
abbrev pub is_break : Event → Bool
is_break (Line p) = false
is_break (Router m) = false
is_break (Manager c) = false
is_break (Own n) = false
is_break (Break BreakEvent.Received) = true
is_break (Break BreakEvent.Routed) = false
is_break (Break BreakEvent.Timeout) = false
is_break Disable = false

-- CLOSE received
abbrev pub is_close : Event → Bool
is_close (Line Primitive.Open) = false
is_close (Line Primitive.OpenAccept) = false
is_close (Line (Primitive.OpenReject k)) = false
is_close (Line (Primitive.Aip w)) = false
is_close (Line Primitive.Close) = true
is_close (Router m) = false
is_close (Manager c) = false
is_close (Own n) = false
is_close (Break b) = false
is_close Disable = false

-- SendClose
abbrev pub is_send_close : Event → Bool
is_send_close (Line p) = false
is_send_close (Router Message.SendOpen) = false
is_send_close (Router Message.SendClose) = true
is_send_close (Router (Message.ArbStatus w)) = false
is_send_close (Router Message.OpenAccept) = false
is_send_close (Router (Message.OpenReject k)) = false
is_send_close (Router Message.BackoffRetry) = false
is_send_close (Router Message.BackoffReversePath) = false
is_send_close (Manager c) = false
is_send_close (Own n) = false
is_send_close (Break b) = false
is_send_close Disable = false
