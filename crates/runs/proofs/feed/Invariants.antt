-- The loop's invariant: the run stands as it does after the first `i` bytes of the block, and what it said of them is put into
-- out. A turn takes a line and its LF, and stops where `takes` does: at the block's end, or before an LF whose row might not fit.
-- Assumes nothing.
use Prim.Native.Nat.{◌-◌}
use lib.ListN.{length}
use Rattle.runs.proofs.Turns.{carry, Loop}
use Rattle.runs.proofs.feed.Given as goal

abbrev pub invariant-loop-i : goal.invariant-loop-i
invariant-loop-i l = Loop (carry l.initial.line l.initial.len l.initial.keep l.initial.state) l.block l.initial.out l.out l.line l.len l.keep l.state l.at l.i

abbrev pub decreases-loop-i : goal.decreases-loop-i
decreases-loop-i l = length l.block - l.i
