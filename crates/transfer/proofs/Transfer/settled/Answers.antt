-- `settled` goes by whether all was sent, as its definition does. Assumes nothing.
use mathlib.Core.Path.{sym, ◌∙◌}
use Rattle.transfer.specs.Steps.{settled}
use Rattle.transfer.proofs.Transfer.settled.Goals as goal

pub returns-then-all : goal.returns-then-all
unfolding settled
returns-then-all c = rw (sym c.all_sent-all.ensures ∙ c.if-all.true) c.in_phase.ensures

pub returns : goal.returns
unfolding settled
returns c = rw (sym c.all_sent-all.ensures ∙ c.if-all.false)
