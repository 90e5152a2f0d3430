-- Each arm of `phase_rule` is a row of `phase_rule`. Assumes nothing.
use Rattle.transfer.specs.Rules.{phase_rule}
use Rattle.transfer.proofs.Transfer.phase_rule.Goals as goal

pub returns-in-New : goal.returns-in-New
unfolding phase_rule
returns-in-New c = rw c.in-New.is

pub returns-in-Run : goal.returns-in-Run
unfolding phase_rule
returns-in-Run c = rw c.in-Run.is c.run_rule.ensures

pub returns-in-Drain : goal.returns-in-Drain
unfolding phase_rule
returns-in-Drain c = rw c.in-Drain.is c.drain_rule.ensures

pub returns-in-Done : goal.returns-in-Done
unfolding phase_rule
returns-in-Done c = rw c.in-Done.is c.done_rule.ensures

pub returns-in-Fail : goal.returns-in-Fail
unfolding phase_rule
returns-in-Fail c = rw c.in-Fail.is c.fail_rule.ensures

pub returns-in-End : goal.returns-in-End
unfolding phase_rule
returns-in-End c = rw c.in-End.is c.end_rule.ensures
