-- The loop's invariant: from `at` on stands what is behind the tabs passed. Assumes nothing.
use Rattle.std.proofs.Common.{◌≡◌, ◌≤◌, length, drop}
use Rattle.lines.specs.Parts.{behind_tabs}
use Rattle.lines.proofs.start.Given as goal

abbrev pub invariant-loop : goal.invariant-loop
invariant-loop l = (l.at ≤ length l.s) × (drop l.at l.s ≡ behind_tabs l.counter l.s)
