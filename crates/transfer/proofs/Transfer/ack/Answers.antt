-- `ack` is refused by its check, or goes on to `acked`. Assumes nothing.
use Rattle.transfer.specs.Steps.{limit, refused, answered, acked, answer_causes, ack_step}
use Rattle.refusals.proofs.Causes.{goes_on, stops}
use Rattle.transfer.proofs.Calls.{answerable, again}
use Rattle.transfer.proofs.Transfer.ack.Goals as goal

pub returns-in-Err : goal.returns-in-Err
unfolding ack_step
returns-in-Err c = let s = c.args.self in
    stops (refused s) (acked (answered s)) (answer_causes limit s) c.answer_checked.ensures c.in-Err.is c.refused.ensures

pub acked-requires : goal.acked-requires
acked-requires c = let h = answerable limit c.args.self c.answer_checked.ensures c.in_default.is in
    again limit c.args.self h.kept h.underway

pub returns : goal.returns
unfolding ack_step
returns c = let s = c.args.self in
    goes_on (refused s) (acked (answered s)) (answer_causes limit s) c.answer_checked.ensures c.in_default.is c.acked.ensures
