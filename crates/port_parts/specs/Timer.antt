-- Document 01, 'Port': a destination's loss timer. Assumes nothing.
use Rattle.std.specs.Prelude.{ℕ, ◌+◌, ◌*◌, Bool, not, cond, ◌&&◌, eqb, leb}
use Rattle.port_parts.specs.Parts.{no_stamp, stamped, is_set}
use Rattle.port_parts.specs.declared.Stamp.{Stamp}

-- 01 PORT.24
-- the timer t after a confirmation that stops it, or starts it if it isn't running
abbrev pub timer_by : Bool → Bool → Stamp → ℕ → Stamp
timer_by stops starts t now = cond stops no_stamp (cond (starts && not (is_set t)) (stamped now) t)

-- 01 PORT.25: After that a retried reason with a running timer at or past loss time ends the request with I_T Nexus Loss.
abbrev pub is_lost : Stamp → ℕ → ℕ → Bool
is_lost t loss now = is_set t && (not (eqb loss 65535) && leb (t.at + loss * 1000) now)
