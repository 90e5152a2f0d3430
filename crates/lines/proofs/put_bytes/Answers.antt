-- Past the end nothing is stored; else as many bytes as there is room for are copied at once. Assumes nothing.
use Rattle.std.proofs.Common.{◌≡◌, ◌+◌, ◌-◌, arith}
use Rattle.lines.proofs.Puts.{copied, none_stored}
use Rattle.lines.proofs.put_bytes.Goals as goal

pub returns-then-out-at : goal.returns-then-out-at
returns-then-out-at c = none_stored c.args.out.now c.args.s.now c.args.at c.if-out-at.true

pub returns : goal.returns
returns c =
    let a = c.args in
    let size : a.at + c.min-n.result - a.at ≡ c.min-n.result = omega arith in
    rw c.copy_from_slice.ensures.after (copied a.out.now a.s.now a.at c.min-n.result (a.at + c.min-n.result - a.at) (omega arith) c.min-n.ensures size)
