-- `nacked` goes by the resends used, as its definition does. Assumes nothing.
use borrow.Author.Tests.{le-leb, lt-leb}
use Rattle.transfer.specs.Steps.{nacked}
use Rattle.transfer.proofs.Transfer.nacked.Goals as goal

pub returns-then-self : goal.returns-then-self
unfolding nacked
returns-then-self c = rw (le-leb _ _ c.if-self.true) c.in_phase.ensures

pub returns : goal.returns
unfolding nacked
returns c = rw (lt-leb _ _ c.if-self.false) c.drained.ensures
