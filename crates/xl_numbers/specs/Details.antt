-- The kinds within an event or an action, in document 01's order from 0 on. Past the last number the last kind stands in, and nobody asks.
-- Assumes nothing.
use Rattle.std.specs.Prelude.{ℕ, List, [], ◌∷◌, cond, ltb, get_or, None, Option, Some}
use Rattle.xl_parts.specs.declared.Wait.{Wait}
use Rattle.xl_parts.specs.declared.Wait.TheVariants.{Normal, Partial, Connection, Device}
use Rattle.xl_parts.specs.declared.Reject.{Reject}
use Rattle.xl_parts.specs.declared.Denial.{Denial}
use Rattle.xl_parts.specs.declared.Arbitration.{Arbitration}
use Rattle.xl_parts.specs.declared.Arbitration.TheVariants.{WaitingOnPartial, BlockedOnPartial, WaitingOnConnection}

-- the kind k with the number n, where there are so many kinds
abbrev pub named : {K : Type 0} → ℕ → ℕ → K → Option K
named count n k = cond (ltb n count) (Some k) None

abbrev pub wait_number : Wait → ℕ
wait_number Normal = 0
wait_number Partial = 1
wait_number Connection = 2
wait_number Device = 3

abbrev pub waits : List Wait
waits = Normal ∷ Partial ∷ Connection ∷ Device ∷ []

abbrev pub wait_of : ℕ → Wait
wait_of n = get_or waits n Device

-- 01 XL.5: OPEN_REJECT kinds: NO, BAD and WRONG DESTINATION, CONNECTION RATE and PROTOCOL NOT SUPPORTED, PATHWAY BLOCKED, STP RESOURCES BUSY, RETRY.
abbrev pub reject_number : Reject → ℕ
reject_number Reject.NoDestination = 0
reject_number Reject.BadDestination = 1
reject_number Reject.WrongDestination = 2
reject_number Reject.Rate = 3
reject_number Reject.Protocol = 4
reject_number Reject.PathwayBlocked = 5
reject_number Reject.Busy = 6
reject_number Reject.Retry = 7

abbrev pub rejects : List Reject
rejects =
    Reject.NoDestination ∷ Reject.BadDestination ∷ Reject.WrongDestination ∷ Reject.Rate ∷ Reject.Protocol ∷ Reject.PathwayBlocked ∷ Reject.Busy
    ∷ Reject.Retry ∷ []

abbrev pub reject_of : ℕ → Reject
reject_of n = get_or rejects n Reject.Retry

abbrev pub denial_number : Denial → ℕ
denial_number Denial.NoDestination = 0
denial_number Denial.BadDestination = 1
denial_number Denial.BadLinkRate = 2
denial_number Denial.PathwayBlocked = 3

abbrev pub denials : List Denial
denials = Denial.NoDestination ∷ Denial.BadDestination ∷ Denial.BadLinkRate ∷ Denial.PathwayBlocked ∷ []

abbrev pub denial_of : ℕ → Denial
denial_of n = get_or denials n Denial.PathwayBlocked

abbrev pub arbitration_number : Arbitration → ℕ
arbitration_number WaitingOnPartial = 0
arbitration_number BlockedOnPartial = 1
arbitration_number WaitingOnConnection = 2

abbrev pub arbitrations : List Arbitration
arbitrations = WaitingOnPartial ∷ BlockedOnPartial ∷ WaitingOnConnection ∷ []

abbrev pub arbitration_of : ℕ → Arbitration
arbitration_of n = get_or arbitrations n WaitingOnConnection
