-- `timeout` is refused by its check, or goes on to `dropped`. Assumes nothing.
use borrow.Author.Tests.{le-leb, lt-leb}
use Rattle.transfer.specs.Steps.{limit, refused, dropped, answer_causes, drop_step}
use Rattle.refusals.proofs.Causes.{goes_on, stops}
use Rattle.transfer.proofs.Transfer.timeout.Goals as goal

pub returns-in-Err : goal.returns-in-Err
unfolding drop_step dropped
returns-in-Err c = let s = c.args.self in
    stops (refused s) (dropped s) (answer_causes limit s) c.answer_checked.ensures c.in-Err.is c.refused.ensures

pub returns-then-self : goal.returns-then-self
unfolding drop_step dropped
returns-then-self c =
    let s = c.args.self in
    goes_on (refused s) (dropped s) (answer_causes limit s) c.answer_checked.ensures c.in_default.is (rw (le-leb _ _ c.if-self.true) c.in_phase.ensures)

pub returns : goal.returns
unfolding drop_step dropped
returns c =
    let s = c.args.self in
    goes_on (refused s) (dropped s) (answer_causes limit s) c.answer_checked.ensures c.in_default.is (rw (lt-leb _ _ c.if-self.false) c.resent.ensures)
