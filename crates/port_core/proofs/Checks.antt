-- What was checked against some causes is refused by the first that is given, or goes on: the check and the call read the same
-- causes. Assumes nothing.
use Rattle.refusals.specs.declared.Refusal.{Refusal}
use Rattle.std.specs.Prelude.{Err, Ok, Result}
use mathlib.Core.Path.{◌≡◌, refl, sym, ap, ◌∙◌}
use mathlib.Core.List.{List}
use Rattle.refusals.specs.Causes.{Cause, refuse, by_check}
use Rattle.refusals.proofs.Causes.{settled}
use Rattle.port_parts.specs.declared.Port.{Port}
use Rattle.port_rows.specs.Answers.{refused_by}
use Rattle.port_rows.specs.declared.Done.{Done}

module _ (cs : List Cause) (p : Port) (d : Done) {c : Result (Unit {0}) Refusal} {r : Done} (is : c ≡ refuse Err cs (Ok tt)) where
  -- what a call leaves whose check refused, and one whose check passed
  pub refused : {k : Refusal} → c ≡ Err k → r ≡ refused_by p k → r ≡ refuse (refused_by p) cs d
  refused e by = settled (refused_by p) d cs (by ∙ ap (by_check (refused_by p) d) (sym e)) is refl

  pub passed : {u : Unit {0}} → c ≡ Ok u → r ≡ d → r ≡ refuse (refused_by p) cs d
  passed e by = settled (refused_by p) d cs (by ∙ ap (by_check (refused_by p) d) (sym e)) is refl
