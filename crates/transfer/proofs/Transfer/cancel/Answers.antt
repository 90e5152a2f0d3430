-- The ways out of `cancel` are its causes of refusal, one by one, and then `ended`. Assumes nothing.
use Rattle.transfer.specs.Steps.{end_step}
use mathlib.Core.Path.{sym, ◌∙◌}
use Rattle.transfer.proofs.Transfer.cancel.Goals as goal

pub returns-then-not-keeps_rules : goal.returns-then-not-keeps_rules
unfolding end_step
returns-then-not-keeps_rules c = rw (sym c.keeps_rules.ensures ∙ c.if-not-keeps_rules.true) c.refused.ensures

pub returns-then-not-unfinished : goal.returns-then-not-unfinished
unfolding end_step
returns-then-not-unfinished c = rw (sym c.keeps_rules.ensures ∙ c.if-not-keeps_rules.false, sym c.unfinished.ensures ∙ c.if-not-unfinished.true) c.refused-then-not-unfinished.ensures

pub returns : goal.returns
unfolding end_step
returns c = rw (sym c.keeps_rules.ensures ∙ c.if-not-keeps_rules.false, sym c.unfinished.ensures ∙ c.if-not-unfinished.false) c.in_phase.ensures
