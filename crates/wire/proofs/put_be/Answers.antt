-- Where the field fits, the digits of the number's low bytes are stored in its place. Assumes nothing.
use Rattle.std.proofs.Common.{refl, ◌∙◌, arith, ◌+◌, ◌≤◌, length}
use Rattle.wire.proofs.Laws.{fit, put_in, placed}
use Rattle.wire.proofs.put_be.Goals as goal

pub returns : goal.returns
returns c =
    let a = c.args in
    let s = a.s.now in
    let room : a.at + a.n ≤ length s = omega arith in
    let stored = c.copy_from_slice.ensures.after ∙ c.digits-number.ensures in
    placed s _ a.at a.n (a.at + a.n) a.v refl stored ∙ put_in s a.at a.n a.v (fit s a.at a.n c.if-n-gt8.false room)
