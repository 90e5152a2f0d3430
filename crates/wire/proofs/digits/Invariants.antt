-- The loop's invariant: what is left to store leads to the same list, which at the end is the digits with zeros behind them.
-- Assumes nothing.
use Prim.Native.Nat.{◌≤◌}
use mathlib.Core.Path.{◌≡◌}
use lib.ListN.{length}
use Rattle.wire.proofs.Laws.{stores}
use Rattle.wire.proofs.digits.Given as goal

abbrev pub invariant-loop-i : goal.invariant-loop-i
invariant-loop-i l = (l.i ≤ l.n) × ((length l.bytes ≡ 8) × (stores l.bytes l.i l.rest ≡ stores l.initial.bytes l.n l.v))
