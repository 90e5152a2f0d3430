-- The numbers of a link's states, of the AIP that it remembers, and of its status. Assumes nothing.
use Rattle.refusals.specs.declared.Refusal.{Refusal}
use Rattle.std.specs.Prelude.{ℕ, ◌+◌, List, [], ◌∷◌, get_or, Err, None, Ok, Option, Result, Some}
use Rattle.refusals.specs.Refusals.{number_of}
use Rattle.xl_parts.specs.declared.Phase.{Phase}
use Rattle.xl_parts.specs.declared.Wait.{Wait}
use Rattle.xl_parts.specs.declared.LinkStatus.{LinkStatus}
use Rattle.xl_numbers.specs.Details.{wait_number}

abbrev pub phases : List (Option Phase)
phases =
    Some Phase.Xl0
    ∷ Some Phase.Xl1
    ∷ Some Phase.Xl2
    ∷ Some Phase.Xl3
    ∷ Some Phase.Xl4
    ∷ Some Phase.Xl5
    ∷ Some Phase.Xl6
    ∷ Some Phase.Xl7
    ∷ Some Phase.Xl8
    ∷ Some Phase.Xl9
    ∷ Some Phase.Xl10
    ∷ []

abbrev pub phase_of : ℕ → Option Phase
phase_of n = get_or phases n None

-- 0 for none, else one more than the kind
abbrev pub aip_number : Option Wait → ℕ
aip_number None = 0
aip_number (Some w) = 1 + wait_number w

abbrev pub aips : List (Option (Option Wait))
aips =
    Some None
    ∷ Some (Some Wait.Normal)
    ∷ Some (Some Wait.Partial)
    ∷ Some (Some Wait.Connection)
    ∷ Some (Some Wait.Device)
    ∷ []

abbrev pub aip_of : ℕ → Option (Option Wait)
aip_of n = get_or aips n None

-- a refused state's is the refusal's own number
abbrev pub status_number : Result LinkStatus Refusal → ℕ
status_number (Ok LinkStatus.Ready) = 48
status_number (Ok LinkStatus.Partial) = 49
status_number (Ok LinkStatus.BlockedPartial) = 50
status_number (Ok LinkStatus.Connected) = 51
status_number (Err k) = number_of k
