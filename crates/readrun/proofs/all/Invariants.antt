-- What came so far is what the run carries, and what it says of it is what the output holds; while the loop goes on, nothing has said
-- that the input ends. Assumes nothing.
use Rattle.std.proofs.Common.{length, false, ◌≡◌, ◌≤◌, ℕ, List}
use Rattle.std.specs.Io.KnownBytes.{Appends, Consumes, Keeps}
use Rattle.runs.specs.Rows.{longest_row}
use Rattle.runs.specs.Feed.{run_of, after, fresh, said}
use Rattle.readrun.proofs.all.Given as goal

abbrev pub invariant-loop : goal.invariant-loop
invariant-loop g l = record {
  room : longest_row ≤ length l.out;
  sized : length l.input ≡ length l.initial.input;
  ran : (xs : List ℕ) × Consumes (g.R.Read.remaining l.initial.from) (g.R.Read.remaining l.from) xs × (l.run ≡ run_of (after fresh xs)) × Appends (g.W.Write.contents l.initial.to) (g.W.Write.contents l.to) (said fresh xs);
  going : l.ended ≡ false;
  silent : Keeps (g.E.Write.contents l.initial.err) (g.E.Write.contents l.err);
}
