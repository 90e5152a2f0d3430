-- What the pass picks, the record there, and what the core leaves of both, is what `choose_call` speaks of. Assumes nothing.
use Rattle.std.proofs.Common.{◌≡◌, ap, ◌∙◌}
use Rattle.laws.specs.Folds.{fold_to}
use Rattle.port_parts.specs.Parts.{blank}
use Rattle.port_parts.specs.Choice.{chosen_step}
use Rattle.port_parts.specs.declared.Pick.{Pick}
use Rattle.port_rows.specs.Calls.{choose_core}
use Rattle.port.specs.Calls.{short, pick_at, choose_call}
use Rattle.port.proofs.Scanned.{choose_is}
use Rattle.port.proofs.Steps.{looked}
use Rattle.port.proofs.choose.Goals as goal

pub returns : goal.returns
returns c =
    let a = c.args in
    let pick : c.survey-kept.result.1 ≡ pick_at c.in-Ok.records.now a.p a.x.now =
    c.survey-kept.ensures.found (λ f r i. chosen_step f r i (record { phys = a.p.phys; now = a.x.now })) (λ f r i g is. cc)
    ∙ ap (λ (f : Pick). fold_to blank (λ f r i. chosen_step f r i (record { phys = a.p.phys; now = a.x.now })) f c.in-Ok.records.now 32) c.no_pick.ensures in
    looked (λ l p x. pick_at l p x.now) (λ f x. f.1.slot) (λ p r f x. choose_core p r f.0 f.1 x.now) choose_call choose_is a.list.now a.p a.x (short a.p)
    c.in-Ok.ensures.1 c.survey-kept.ensures.kept pick c.load-r.ensures c.choose_core.ensures c.left.ensures
