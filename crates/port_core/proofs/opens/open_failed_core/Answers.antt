-- `failed_checked` refuses by the causes of `open_failed_core`; what it passes is left as `failed` says. Assumes nothing.
use mathlib.Core.Bool.{Bool, not}
use Rattle.std.specs.Prelude.{List}
use Rattle.refusals.specs.Causes.{Cause}
use Rattle.port_parts.specs.Reasons.{reason_of}
use Rattle.port_parts.specs.Parts.{is_opening}
use Rattle.port_parts.specs.declared.Port.{Port}
use Rattle.port_parts.specs.declared.Request.{Request}
use Rattle.port_rows.specs.Calls.{failed, failed_causes, phy_at, open_failed_core}
use Rattle.port_rows.specs.declared.Done.{Done}
use Rattle.port_rows.specs.declared.Failure.{Failure}
use Rattle.port_core.proofs.Checks.{refused, passed}
use Rattle.port_core.proofs.opens.open_failed_core.Goals as goal

abbrev causes : Port → Bool → Failure → List Cause
causes p kept x = failed_causes p kept x (not (is_opening (phy_at p x.phy)))

abbrev taken : Port → Request → Failure → Done
taken p r x = failed p (phy_at p x.phy) r (reason_of x.why) x.phy x.now

pub returns-in-Err : goal.returns-in-Err
unfolding open_failed_core
returns-in-Err c = let a = c.args in
    refused (causes a.p a.kept a.x) a.p (taken a.p a.r a.x) (rw (← c.phy_at-f.ensures) c.failed_checked.ensures) c.in-Err.is c.refused_by.ensures

pub returns : goal.returns
unfolding open_failed_core
returns c = let a = c.args in
    passed (causes a.p a.kept a.x) a.p (taken a.p a.r a.x) (rw (← c.phy_at-f.ensures) c.failed_checked.ensures) c.in_default.is
    (rw (← c.phy_at-f.ensures, ← c.reason_of.ensures) c.failed.ensures)
