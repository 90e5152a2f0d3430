-- Document 01's listing, byte for byte, computed by the definitions. Assumes nothing.
use mathlib.Core.Path.{◌≡◌, refl}
use Rattle.lines.specs.Numbers.{decimal, read_number}
use Rattle.transfer.specs.Rules.{placed, phase_rule, keeps_rules}
use Rattle.transfer.specs.Steps.{settled, drained, acked, nacked, start_step, frame_step, ack_step, nak_step}
use Rattle.transfer.specs.Calls.{step_of}
use Rattle.runs.specs.Commands.{command_of, read_line, obeyed}
use Rattle.runs.specs.Rows.{row_of}
use Rattle.runs.specs.Output.{output_of}
use Rattle.runs.specs.Listing.{listed, printed}

pub listing : output_of listed ≡ printed
unfolding output_of row_of decimal read_number command_of read_line obeyed step_of start_step frame_step ack_step nak_step settled drained acked nacked keeps_rules placed phase_rule
listing = refl
