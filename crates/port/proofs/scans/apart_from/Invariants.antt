-- Before a turn the accumulator is the fold of the requests behind the one that is looked at, up to place i. Assumes nothing.
use Rattle.std.proofs.Common.{◌-◌, ◌≡◌, ◌≤◌}
use mathlib.Core.Bool.{true}
use Rattle.port_rules.specs.Rules.{apart_step}
use Rattle.port_list.proofs.FoldFrom.{folded}
use Rattle.port.proofs.scans.apart_from.Given as goal

abbrev pub invariant-loop-i : goal.invariant-loop-i
invariant-loop-i l = record {
  behind : l.x.from ≤ l.i;
  within : l.i - l.x.from ≤ 32 - l.x.from;
  so_far : l.kept ≡ folded (λ x. true) (λ x. x.from) apart_step l.list l.x (l.i - l.x.from);
}
