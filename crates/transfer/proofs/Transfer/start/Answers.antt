-- The ways out of `start` are its causes of refusal, one by one, and then the state that it sets. Assumes nothing.
use mathlib.Core.Path.{sym, ◌∙◌}
use Rattle.transfer.specs.Steps.{start_step}
use Rattle.transfer.proofs.Transfer.start.Goals as goal

pub returns-then-in_range-keeps_rules : goal.returns-then-in_range-keeps_rules
unfolding start_step
returns-then-in_range-keeps_rules c = rw (← c.in_range.ensures, ← c.keeps_rules.ensures, c.if-in_range-keeps_rules.true) c.refused.ensures

pub returns-then-unfinished : goal.returns-then-unfinished
unfolding start_step
returns-then-unfinished c = rw (← c.in_range.ensures, ← c.keeps_rules.ensures, c.if-in_range-keeps_rules.false, sym c.unfinished.ensures ∙ c.if-unfinished.true) c.refused-then-unfinished.ensures

pub returns : goal.returns
unfolding start_step
returns c = rw (← c.in_range.ensures, ← c.keeps_rules.ensures, c.if-in_range-keeps_rules.false, sym c.unfinished.ensures ∙ c.if-unfinished.false) (rw c.unstarted.ensures at c.in_phase.ensures)
