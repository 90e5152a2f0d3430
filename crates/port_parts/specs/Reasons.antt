-- Document 01, 'Port': the reasons of Open Failed, by number, and what each one does. Assumes nothing.
use Rattle.std.specs.Prelude.{ℕ, Bool, true, false, List, [], ◌∷◌, get_or}
use Rattle.port_parts.specs.declared.Reason.{Reason}
use Rattle.port_parts.specs.declared.Reason.TheVariants.{NoDestination, BadDestination, WrongDestination, LinkRateNotSupported, ProtocolNotSupported, PathwayBlocked, StpResourcesBusy, Retry, OpenTimeOut, BreakReceived, Other}

-- reason 0 is the first, 9 the last
abbrev pub reasons : List Reason
reasons =
    NoDestination ∷ BadDestination ∷ WrongDestination ∷ LinkRateNotSupported ∷ ProtocolNotSupported ∷ PathwayBlocked ∷ StpResourcesBusy ∷ Retry
    ∷ OpenTimeOut ∷ BreakReceived ∷ []

abbrev pub reason_of : ℕ → Reason
reason_of n = get_or reasons n Other

abbrev pub is_listed : Reason → Bool
is_listed NoDestination = true
is_listed BadDestination = true
is_listed WrongDestination = true
is_listed LinkRateNotSupported = true
is_listed ProtocolNotSupported = true
is_listed PathwayBlocked = true
is_listed StpResourcesBusy = true
is_listed Retry = true
is_listed OpenTimeOut = true
is_listed BreakReceived = true
is_listed Other = false

-- 01 PORT.18: Open Failed: phy free; Retry, No Destination, Link Rate Not Supported (CONNECTION RATE NOT SUPPORTED), Pathway Blocked and Open Time Out are retried; the other OPEN_REJECT kinds and Break Received end the request with that reason.
abbrev pub is_retried : Reason → Bool
is_retried NoDestination = true
is_retried BadDestination = false
is_retried WrongDestination = false
is_retried LinkRateNotSupported = true
is_retried ProtocolNotSupported = false
is_retried PathwayBlocked = true
is_retried StpResourcesBusy = false
is_retried Retry = true
is_retried OpenTimeOut = true
is_retried BreakReceived = false
is_retried Other = false

-- the retried reason that keeps the wait running
abbrev pub is_blocked : Reason → Bool
is_blocked NoDestination = false
is_blocked BadDestination = false
is_blocked WrongDestination = false
is_blocked LinkRateNotSupported = false
is_blocked ProtocolNotSupported = false
is_blocked PathwayBlocked = true
is_blocked StpResourcesBusy = false
is_blocked Retry = false
is_blocked OpenTimeOut = false
is_blocked BreakReceived = false
is_blocked Other = false

-- 01 PORT.24: Loss timer, per destination, for confirmations of SSP requests only: started if not running by No Destination or Link Rate Not Supported (000, 8.2.4); stopped by Opened, Protocol Not Supported, Retry, STP Resources Busy.
abbrev pub is_starting : Reason → Bool
is_starting NoDestination = true
is_starting BadDestination = false
is_starting WrongDestination = false
is_starting LinkRateNotSupported = true
is_starting ProtocolNotSupported = false
is_starting PathwayBlocked = false
is_starting StpResourcesBusy = false
is_starting Retry = false
is_starting OpenTimeOut = false
is_starting BreakReceived = false
is_starting Other = false

-- 01 PORT.24
abbrev pub is_stopping : Reason → Bool
is_stopping NoDestination = false
is_stopping BadDestination = false
is_stopping WrongDestination = false
is_stopping LinkRateNotSupported = false
is_stopping ProtocolNotSupported = true
is_stopping PathwayBlocked = false
is_stopping StpResourcesBusy = true
is_stopping Retry = true
is_stopping OpenTimeOut = false
is_stopping BreakReceived = false
is_stopping Other = false
