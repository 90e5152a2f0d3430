-- `acked` goes by whether a NAK was seen and by the frames left, as its definition does. Assumes nothing.
use mathlib.Core.Path.{sym, ◌∙◌}
use borrow.Author.Tests.{eq-eqb, ne_eqb}
use Rattle.transfer.specs.Steps.{acked}
use Rattle.transfer.proofs.Transfer.acked.Goals as goal

pub returns-then-draining : goal.returns-then-draining
unfolding acked
returns-then-draining c = rw (sym c.draining.ensures ∙ c.if-draining.true) c.drained.ensures

pub returns-then-self-eq0 : goal.returns-then-self-eq0
unfolding acked
returns-then-self-eq0 c = rw (sym c.draining.ensures ∙ c.if-draining.false, eq-eqb _ _ c.if-self-eq0.true) c.settled.ensures

pub returns : goal.returns
unfolding acked
returns c = rw (sym c.draining.ensures ∙ c.if-draining.false, ne_eqb _ _ c.if-self-eq0.false)
