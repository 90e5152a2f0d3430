-- `submit_checked` refuses as `submit_core` does; else the new record goes to the free slot that was found. Assumes nothing.
use Rattle.std.specs.Prelude.{Ok}
use Rattle.port_parts.specs.Parts.{no_phy}
use Rattle.port_parts.specs.declared.Port.{Port}
use Rattle.port_rows.specs.Answers.{said, later, no_loss, stored}
use Rattle.port_rows.specs.declared.Done.{Done}
use Rattle.port_rows.specs.declared.Room.{Room}
use Rattle.port_rows.specs.declared.Submission.{Submission}
use Rattle.port_rows.specs.declared.Word.TheVariants.{Submitted}
use Rattle.port_rows.specs.Calls.{submit_causes, submitted, submit_core}
use Rattle.port_core.proofs.Checks.{refused, passed}
use Rattle.port_core.proofs.submits.submit_core.Goals as goal

abbrev taken : Port → Room → Submission → Done
taken p v x = stored (later p x.now) (said (Ok Submitted) v.free no_phy (submitted v x)) (submitted v x) no_loss

pub returns-in-Err : goal.returns-in-Err
unfolding submit_core
returns-in-Err c = let a = c.args in
    refused (submit_causes a.p a.kept a.v a.x) a.p (taken a.p a.v a.x) c.submit_checked.ensures c.in-Err.is c.refused_by.ensures

pub returns : goal.returns
unfolding submit_core
returns c =
    let a = c.args in
    passed (submit_causes a.p a.kept a.v a.x) a.p (taken a.p a.v a.x) c.submit_checked.ensures c.in_default.is
    (rw (c.stored.ensures, c.said-answer.ensures, c.later.ensures, c.submitted-r.ensures))
