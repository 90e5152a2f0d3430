-- Before a turn the records before place i are as the call leaves them, and those from it on as they were. Assumes nothing.
use Rattle.std.proofs.Common.{◌≡◌, ◌≤◌}
use Rattle.port_rows.specs.Records.{left_step}
use Rattle.port_list.proofs.Leave.{folded}
use Rattle.port.specs.Walk.{walk_from, walk_to}
use Rattle.port.proofs.leaves.left.Given as goal

abbrev pub invariant-loop-i : goal.invariant-loop-i
invariant-loop-i l = record {
  from : walk_from l.d ≤ l.i;
  ordered : l.i ≤ walk_to l.d;
  so_far : l.list ≡ folded left_step l.fn.list l.d l.i;
}
