-- `got` is refused by its check; else DATA that is awaited goes on to `taken`, and other DATA is late. Assumes nothing.
use Rattle.std.proofs.Common.{arith, rules}
use Rattle.refusals.proofs.Causes.{none_given, stops}
use Rattle.write.specs.Steps.{limit, refused, got, got_causes, got_step}
use Rattle.write.proofs.Calls.{Taken, takeable}
use Rattle.write.proofs.Write.got.Goals as goal

pub returns-in-Err : goal.returns-in-Err
unfolding got_step
returns-in-Err c =
    let a = c.args in
    stops (refused a.self) (got a.transfer a.offset a.length a.self) (got_causes limit a.transfer a.offset a.length a.self) c.data_checked.ensures c.in-Err.is c.refused.ensures

pub overflow_add-offset : goal.overflow_add-offset
overflow_add-offset c =
    let a = c.args in
    let passed : Taken limit a.offset a.length a.self = takeable limit a.transfer a.offset a.length a.self (search rules) (none_given (got_causes limit a.transfer a.offset a.length a.self) c.data_checked.ensures c.in_default.is) in
    let to = passed.ends in
    omega arith

pub invariant_of-taken : goal.invariant_of-taken
invariant_of-taken c =
    let a = c.args in
    let passed : Taken limit a.offset a.length a.self = takeable limit a.transfer a.offset a.length a.self (search rules) (none_given (got_causes limit a.transfer a.offset a.length a.self) c.data_checked.ensures c.in_default.is) in
    record { holds = passed.placed }
