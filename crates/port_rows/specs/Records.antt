-- Document 01, 'Port': what a call leaves of each record of the list. Assumes nothing.
use Rattle.std.specs.Prelude.{ℕ, not, cond, ◌&&◌, eqb, Option, Some, None}
use Rattle.port_parts.specs.Parts.{blank, is_free, is_ssp}
use Rattle.port_parts.specs.declared.Request.{Request}
use Rattle.port_rows.specs.Changed.{timed}
use Rattle.port_rows.specs.declared.Loss.{Loss}
use Rattle.port_rows.specs.declared.Done.{Done}

-- 01 PORT.26: The destination's last SSP request to leave stops it too.
-- every SSP request to the destination of a timer that changes gets it. A timer lies in the records of present requests alone: the last one to leave takes it along, as its
-- record is set free (`ended`), and who comes next finds none (`room_step`)
abbrev pub spread : Option Loss → Request → Request
spread None r = r
spread (Some x) r = cond (not (is_free r) && (is_ssp r.head && eqb r.head.destination x.destination)) (timed r x.timer) r

-- record i after a call
abbrev pub left_step : Request → ℕ → Done → Request
left_step r i d = cond d.cleared blank (cond (eqb i d.answer.slot) d.entry (spread d.loss r))
