-- What the pass finds, the record there, and what the core leaves of both, is what `cancel_call` speaks of. Assumes nothing.
use Rattle.std.proofs.Common.{◌≡◌}
use Rattle.port_rows.specs.Finds.{key_step, slot_of}
use Rattle.port_rows.specs.Calls.{cancel_core}
use Rattle.port.specs.Calls.{short, cancel_call}
use Rattle.port.proofs.Scanned.{cancel_is}
use Rattle.port.proofs.Steps.{looked}
use Rattle.port.proofs.cancel.Goals as goal

pub returns : goal.returns
returns c =
    let a = c.args in
    let slot : c.survey-kept.result.1 ≡ slot_of c.in-Ok.records.now a.x.key = c.survey-kept.ensures.found (λ f r i. key_step f r i a.x.key) (λ f r i g is. cc) in
    looked (λ l p x. slot_of l x.key) (λ f x. f.1) (λ p r f x. cancel_core p r f.0 f.1 x) cancel_call cancel_is a.list.now a.p a.x (short a.p)
    c.in-Ok.ensures.1 c.survey-kept.ensures.kept slot c.load-r.ensures c.cancel_core.ensures c.left.ensures
