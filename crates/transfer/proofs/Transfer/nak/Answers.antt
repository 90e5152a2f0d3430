-- `nak` is refused by its check, or goes on to `nacked`. Assumes nothing.
use Rattle.transfer.specs.Steps.{limit, refused, answered, nacked, answer_causes, nak_step}
use Rattle.refusals.proofs.Causes.{goes_on, stops}
use Rattle.transfer.proofs.Transfer.nak.Goals as goal

pub returns-in-Err : goal.returns-in-Err
unfolding nak_step
returns-in-Err c = let s = c.args.self in
    stops (refused s) (nacked (answered s)) (answer_causes limit s) c.answer_checked.ensures c.in-Err.is c.refused.ensures

pub returns : goal.returns
unfolding nak_step
returns c = let s = c.args.self in
    goes_on (refused s) (nacked (answered s)) (answer_causes limit s) c.answer_checked.ensures c.in_default.is c.nacked.ensures
