-- Document 01, 'XL': the link status. Assumes nothing.
use Rattle.std.specs.Prelude.{not, List, [], ◌∷◌, Err, None, Ok, Option, Result, Some}
use Rattle.refusals.specs.Causes.{Cause, ◌when◌, refuse}
use Rattle.refusals.specs.declared.Refusal.{Refusal}
use Rattle.xl_parts.specs.declared.Phase.{Phase}
use Rattle.xl_parts.specs.declared.Wait.{Wait}
use Rattle.xl_parts.specs.declared.State.{State}
use Rattle.xl_parts.specs.declared.LinkStatus.{LinkStatus}
use Rattle.xl.specs.Rules.{keeps_rules}

abbrev pub waiting : Option Wait → LinkStatus
waiting None = LinkStatus.Partial
waiting (Some Wait.Normal) = LinkStatus.Partial
waiting (Some Wait.Partial) = LinkStatus.BlockedPartial
waiting (Some Wait.Connection) = LinkStatus.Partial
waiting (Some Wait.Device) = LinkStatus.Partial

-- 01 XL.39: Link status: Ready XL0; Connected XL7, XL8; Blocked Partial XL3, XL6 if the latest AIP or ArbStatus was waiting on partial; else Partial.
abbrev pub in_phase : Phase → Option Wait → LinkStatus
in_phase Phase.Xl0 a = LinkStatus.Ready
in_phase Phase.Xl1 a = LinkStatus.Partial
in_phase Phase.Xl2 a = LinkStatus.Partial
in_phase Phase.Xl3 a = waiting a
in_phase Phase.Xl4 a = LinkStatus.Partial
in_phase Phase.Xl5 a = LinkStatus.Partial
in_phase Phase.Xl6 a = waiting a
in_phase Phase.Xl7 a = LinkStatus.Connected
in_phase Phase.Xl8 a = LinkStatus.Connected
in_phase Phase.Xl9 a = LinkStatus.Partial
in_phase Phase.Xl10 a = LinkStatus.Partial

abbrev pub status_causes : State → List Cause
status_causes s = (Refusal.Rules when not (keeps_rules s)) ∷ []

unfoldable pub status_of : State → Result LinkStatus Refusal
status_of s = refuse Err (status_causes s) (Ok (in_phase s.phase s.memory.aip))
