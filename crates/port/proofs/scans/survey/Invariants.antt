-- Before a turn the test has come as far as place i, and what is found is the fold of the records before it, by whatever step joins
-- them. Assumes nothing.
use Rattle.std.proofs.Common.{ℕ, ◌≡◌}
use Rattle.laws.specs.Folds.{fold_to}
use Rattle.port_parts.specs.Parts.{blank}
use Rattle.port_parts.specs.declared.Request.{Request}
use Rattle.port.specs.Scans.{kept_to}
use Rattle.port.proofs.scans.survey.Given as goal

abbrev pub invariant-loop-i : goal.invariant-loop-i
invariant-loop-i g l = record {
  callable : goal.F-IsAlwaysCallable g l.join;
  kept : l.kept ≡ kept_to l.p l.fn.list l.i;
  found : (step : _ → Request → ℕ → _) → ((a : _) (r : Request) (i : ℕ) (b : _) → goal.F-post g l.join a r i b → b ≡ step a r i) → l.found ≡ fold_to blank step l.fn.start l.fn.list l.i;
}
