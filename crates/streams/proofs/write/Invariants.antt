-- What is behind `from` is still to be written, what is before it the writer holds, and nothing is said. Assumes nothing.
use Rattle.std.proofs.Common.{◌≤◌, length, take}
use Rattle.std.specs.Io.KnownBytes.{Appends, Keeps}
use Rattle.streams.proofs.write.Given as goal

abbrev pub invariant-loop : goal.invariant-loop
invariant-loop g l = record {
  within : l.from ≤ length l.bytes;
  wrote : Appends (g.W.Write.contents l.initial.to) (g.W.Write.contents l.to) (take l.from l.bytes);
  silent : Keeps (g.E.Write.contents l.initial.said) (g.E.Write.contents l.said);
}
