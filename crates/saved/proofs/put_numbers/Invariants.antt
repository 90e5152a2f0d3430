-- The loop's invariant: the numbers passed are put, each with its tab, and `next` is the place behind them. Assumes nothing.
use lib.ListN.{take}
use Rattle.lines.specs.Puts.{Put}
use Rattle.saved.specs.Walk.{tabbed}
use Rattle.saved.proofs.put_numbers.Given as goal

abbrev pub invariant-loop-n : goal.invariant-loop-n
invariant-loop-n l = Put l.initial.out l.at (tabbed (take l.n-index l.ns)) l.next l.out
