-- One number more is put with its tab. Assumes nothing.
use Rattle.std.proofs.Common.{arith}
use Rattle.saved.proofs.Puts.{one_number}
use Rattle.saved.proofs.put_numbers.Goals as goal

pub loop-n-preserved : goal.loop-n-preserved
loop-n-preserved c =
    one_number c.args.ns.now c.loop-n.n-index (omega arith) c.loop-n.invariant (rw c.from.ensures at c.put_number-next.ensures) c.put_byte-next.ensures
