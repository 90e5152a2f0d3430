-- What the run carries, and has still to say, after the whole input is that of `now` after the bytes left, of which `feed` takes at
-- least one, since out has room for a row. What was said before, the output holds. Assumes nothing.
use Rattle.std.proofs.Common.{length, ◌≡◌, ◌≤◌, ℕ, List, ◌++◌}
use Rattle.std.specs.Io.KnownBytes.{Appends, Keeps}
use Rattle.runs.specs.Rows.{longest_row}
use Rattle.runs.specs.Feed.{run_of, carry_of, after, said}
use Rattle.readrun.proofs.block.Given as goal

abbrev pub invariant-loop-rest : goal.invariant-loop-rest
invariant-loop-rest g l = record {
  room : longest_row ≤ length l.out;
  carries : after (carry_of l.initial.now) l.initial.rest ≡ after (carry_of l.now) l.rest;
  says : (done : List ℕ) × (said (carry_of l.initial.now) l.initial.rest ≡ done ++ said (carry_of l.now) l.rest) × Appends (g.W.Write.contents l.initial.to) (g.W.Write.contents l.to) done;
  kept : l.initial.now ≡ run_of (carry_of l.initial.now) → l.now ≡ run_of (carry_of l.now);
  silent : Keeps (g.E.Write.contents l.initial.err) (g.E.Write.contents l.err);
}

abbrev pub decreases-loop-rest : goal.decreases-loop-rest
decreases-loop-rest g l = length l.rest
