-- `placed` tests the grid only where its numbers are ordered, and is false elsewhere, as the definition is. Assumes nothing.
use mathlib.Core.Bool.{◌&&◌}
use Rattle.transfer.specs.Rules.{placed}
use Rattle.transfer.proofs.Transfer.placed.Goals as goal

pub returns-then-in_range-ordered : goal.returns-then-in_range-ordered
unfolding placed
returns-then-in_range-ordered c = rw (← c.in_range.ensures, ← c.ordered.ensures, c.if-in_range-ordered.true) (λ i. c.on_grid.ensures i && c.on_grid-then-in_range-ordered.ensures i)

pub returns : goal.returns
unfolding placed
returns c = rw (← c.in_range.ensures, ← c.ordered.ensures, c.if-in_range-ordered.false)
