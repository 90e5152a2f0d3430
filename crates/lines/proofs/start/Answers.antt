-- Where no tab is left, nothing stands behind it, nor behind any tab after it. Assumes nothing.
use Rattle.std.proofs.Common.{refl, arith}
use Rattle.lines.proofs.Parts.{next_field, no_field}
use Rattle.lines.proofs.start.Goals as goal

pub loop-init : goal.loop-init
loop-init c = (omega arith, refl)

pub returns-then-s-tab : goal.returns-then-s-tab
returns-then-s-tab c =
    (omega arith, no_field c.args.s.now c.loop.at c.loop.counter c.place_from-tab.result c.loop.invariant.0 c.loop.invariant.1 c.place_from-tab.ensures c.if-s-tab.true c.args.k c.loop-test.true)

pub loop-preserved : goal.loop-preserved
loop-preserved c =
    (omega (arith, c.if-s-tab.false), next_field c.args.s.now c.loop.at c.loop.counter c.place_from-tab.result c.loop.invariant.0 c.loop.invariant.1 c.place_from-tab.ensures)
