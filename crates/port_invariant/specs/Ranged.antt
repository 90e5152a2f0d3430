-- Document 01, 'Refusal numbers': refusal 3 is for a setup number out of range, and for a lent state that breaks its rules. Assumes nothing.
use Rattle.port_rules.specs.Kept.{InRange}
use Rattle.port.specs.History.{Call, setup, submit, cancel, choose, opened, open_failed, frame_status, closed, enable, disable}

-- a call has no setup number out of range
abbrev pub Ranged : Call → Type 0
Ranged (setup count loss) = InRange count loss
Ranged (submit x) = Unit {0}
Ranged (cancel x) = Unit {0}
Ranged (choose x) = Unit {0}
Ranged (opened x) = Unit {0}
Ranged (open_failed x) = Unit {0}
Ranged (frame_status x) = Unit {0}
Ranged (closed x) = Unit {0}
Ranged (enable x) = Unit {0}
Ranged (disable x) = Unit {0}
