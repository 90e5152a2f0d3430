-- What the pass finds, and what the core leaves of it, is what `submit_call` speaks of. Assumes nothing.
use Rattle.std.proofs.Common.{◌≡◌, refl, ap, ◌∙◌}
use Rattle.laws.specs.Folds.{fold_to}
use Rattle.port_parts.specs.Parts.{blank}
use Rattle.port_rows.specs.declared.Room.{Room}
use Rattle.port_rows.specs.Finds.{room_step, room_of}
use Rattle.port_rows.specs.Calls.{submit_core}
use Rattle.port.specs.Calls.{short, submit_call}
use Rattle.port.proofs.Scanned.{submit_is}
use Rattle.port.proofs.Steps.{looked}
use Rattle.port.proofs.submit.Goals as goal

pub returns : goal.returns
returns c =
    let a = c.args in
    let room : c.survey-kept.result.1 ≡ room_of c.in-Ok.records.now a.x.head =
    c.survey-kept.ensures.found (λ f r i. room_step f r i a.x.head) (λ f r i g is. cc)
    ∙ ap (λ (f : Room). fold_to blank (λ f r i. room_step f r i a.x.head) f c.in-Ok.records.now 32) c.no_room.ensures in
    looked (λ l p x. room_of l x.head) (λ f x. f.1.free) (λ p r f x. submit_core p f.0 f.1 x) submit_call submit_is a.list.now a.p a.x (short a.p)
    c.in-Ok.ensures.1 c.survey-kept.ensures.kept room refl c.submit_core.ensures c.left.ensures
