-- The loop's invariant: n's digits are those of `rest` and behind them the bytes of `digits` from `i` on; there is room in front
-- of `i` for those of `rest`, since a number of 64 bits has at most 20 digits. Assumes nothing.
use Rattle.lines.proofs.Numbers.{Spelled}
use Rattle.lines.proofs.put_number.Given as goal

abbrev pub invariant-loop-rest : goal.invariant-loop-rest
invariant-loop-rest l = Spelled l.n l.digits l.i l.rest

abbrev pub decreases-loop-rest : goal.decreases-loop-rest
decreases-loop-rest l = l.rest
