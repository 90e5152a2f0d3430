-- The loop's invariant: n's digits are those of `rest` and behind them the bytes of `digits` from `i` on; there is room in front
-- of `i` for those of `rest`, since a number of 64 bits has at most 20 digits. Assumes nothing.
use mathlib.Core.Path.{refl, subst}
use native.Mathlib.Omega.{arith}
use Rattle.lines.specs.Puts.{Put}
use Rattle.lines.proofs.Numbers.{spelled_none, room_left, spelled_more, spelled_all}
use Rattle.lines.proofs.put_number.Goals as goal

pub loop-rest-init : goal.loop-rest-init
loop-rest-init c = spelled_none _ _ (omega arith) refl

pub overflow_sub-i : goal.overflow_sub-i
overflow_sub-i c = room_left c.loop-rest.invariant

pub loop-rest-preserved : goal.loop-rest-preserved
loop-rest-preserved c = spelled_more c.loop-rest.invariant c.loop-rest-test.true _ refl

pub overflow_sub-i-2 : goal.overflow_sub-i-2
overflow_sub-i-2 c = room_left c.loop-rest.invariant

pub returns : goal.returns
returns c =
    subst (λ xs. Put c.args.out.now c.args.at xs c.put_bytes.result c.put_bytes.new.out) (spelled_all c.loop-rest.invariant c.loop-rest-test.false _ refl) c.put_bytes.ensures
