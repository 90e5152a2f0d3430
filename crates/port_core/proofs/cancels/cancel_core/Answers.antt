-- `cancel_checked` refuses by the causes of `cancel_core`; what it passes is left as `cancelled` says. Assumes nothing.
use Rattle.port_rows.specs.Calls.{cancel_causes, cancelled, cancel_core}
use Rattle.port_core.proofs.Checks.{refused, passed}
use Rattle.port_core.proofs.cancels.cancel_core.Goals as goal

pub returns-in-Err : goal.returns-in-Err
unfolding cancel_core
returns-in-Err c = let a = c.args in
    refused (cancel_causes a.p a.r a.kept a.s a.x) a.p (cancelled a.p a.r a.s a.x.now) c.cancel_checked.ensures c.in-Err.is c.refused_by.ensures

pub returns : goal.returns
unfolding cancel_core
returns c = let a = c.args in
    passed (cancel_causes a.p a.r a.kept a.s a.x) a.p (cancelled a.p a.r a.s a.x.now) c.cancel_checked.ensures c.in_default.is c.cancelled.ensures
