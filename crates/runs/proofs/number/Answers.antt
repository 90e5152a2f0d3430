-- A number that is read is at most `largest`, so that 32 bits hold it. Assumes nothing.
use mathlib.Core.Path.{sym, ◌∙◌}
use native.Mathlib.Omega.{arith}
use Rattle.lines.proofs.Numbers.{written_read}
use Rattle.runs.specs.Commands.{largest}
use Rattle.runs.proofs.number.Goals as goal

pub overflow_cast-result : goal.overflow_cast-result
overflow_cast-result c = omega (arith, (written_read largest _ _ (sym c.read_number.ensures ∙ c.in_ok-n.was)).1)
