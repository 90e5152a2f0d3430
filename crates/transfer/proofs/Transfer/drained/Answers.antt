-- `drained` goes by the frames left, as its definition does. Assumes nothing.
use borrow.Author.Tests.{eq-eqb, ne_eqb}
use Rattle.transfer.specs.Steps.{drained}
use Rattle.transfer.proofs.Transfer.drained.Goals as goal

pub returns-then-self-eq0 : goal.returns-then-self-eq0
unfolding drained
returns-then-self-eq0 c = rw (eq-eqb _ _ c.if-self-eq0.true) c.resent.ensures

pub returns : goal.returns
unfolding drained
returns c = rw (ne_eqb _ _ c.if-self-eq0.false) c.in_phase.ensures
