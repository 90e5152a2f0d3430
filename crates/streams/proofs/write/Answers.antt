-- A write takes some of what is left, or none and is made again, and nothing is said. Assumes nothing.
use Rattle.std.proofs.Common.{rules}
use Rattle.streams.proofs.Writes.{within, holds}
use Rattle.streams.proofs.write.Goals as goal

pub loop-preserved : goal.loop-preserved
loop-preserved g c = let i = c.loop.invariant in let h = c.write-answer.ensures in let k = c.taken-took.ensures in record {
  within = within c.taken-took.result c.loop.from c.args.bytes.now i.within c.write-answer.result h.bound k.ok k.err;
  wrote = holds c.taken-took.result c.loop.from c.args.bytes.now i.within _ _ _ i.wrote c.write-answer.result h.bytes k.ok k.err;
  silent = search rules;
}
