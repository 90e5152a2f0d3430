-- What document 01 says of readrun's lines, typed as bytes: the definitions compute it. Assumes nothing.
use Rattle.std.specs.Prelude.{Ok, None, Option}
use mathlib.Core.Path.{◌≡◌, refl}
use mathlib.Core.List.{map}
use lib.ListN.{replicate}
use Rattle.lines.specs.Numbers.{decimal, read_number}
use Rattle.transfer.specs.Rules.{placed, phase_rule, keeps_rules}
use Rattle.refusals.specs.declared.Refusal.{Refusal}
use Rattle.transfer.specs.Steps.{limit, refused, settled, drained, acked, nacked, start_step, frame_step, ack_step, nak_step}
use Rattle.transfer.specs.Calls.{Call, step_of}
use Rattle.transfer.specs.declared.Answer.{Answer}
use Rattle.transfer.specs.declared.Transfer.{Transfer}
use Rattle.runs.specs.Commands.{command_of, read_line, obeyed}
use Rattle.runs.specs.Rows.{word_of, row_of}
use Rattle.runs.specs.Output.{output_of}
use Rattle.runs.specs.Typed.{typed_lines, typed_commands, typed_calls, other_lines, typed_words, typed_answers, typed_row, typed_input, typed_output}
use Rattle.runs.specs.declared.Command.{Command}

-- 01 TEXT.1 01 TEXT.4
pub commands : map read_line typed_lines ≡ typed_commands
unfolding read_line command_of read_number
commands = refl

-- what a command does is what its call does
pub calls : (s : Transfer) → map (λ (c : Option Command). obeyed c s) typed_commands ≡ map (λ (c : Call). step_of limit c s) typed_calls
unfolding obeyed
calls s = refl

-- 01 TEXT.4 01 TEXT.5
pub others : map read_line other_lines ≡ replicate 13 None
unfolding read_line command_of read_number
others = refl

pub bad : (s : Transfer) → obeyed None s ≡ refused s Refusal.Unlisted
unfolding obeyed
bad s = refl

-- 01 TEXT.2
pub words : map word_of typed_answers ≡ typed_words
unfolding decimal
words = refl

pub columns : row_of 7 (Ok Answer.Done) 11 12 13 14 ≡ typed_row
unfolding row_of decimal
columns = refl

-- 01 TEXT.6
pub listed : output_of typed_input ≡ typed_output
unfolding output_of row_of decimal read_number command_of read_line obeyed step_of start_step frame_step ack_step nak_step settled drained acked nacked keeps_rules placed phase_rule
listed = refl
