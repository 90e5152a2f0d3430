-- A turn that is made again moved nothing: the reader has left what it had, the buffer keeps its length, and nothing is said.
-- Assumes nothing.
use Rattle.std.proofs.Common.{◌≡◌, length}
use Rattle.std.specs.Io.KnownBytes.{Keeps}
use Rattle.streams.proofs.read.Given as goal

abbrev pub invariant-loop : goal.invariant-loop
invariant-loop g l = record {
  sized : length l.buf ≡ length l.initial.buf;
  kept : Keeps (g.R.Read.remaining l.initial.from) (g.R.Read.remaining l.from);
  silent : Keeps (g.E.Write.contents l.initial.said) (g.E.Write.contents l.said);
}
