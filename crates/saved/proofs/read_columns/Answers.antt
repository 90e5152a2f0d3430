-- A turn passes one column more or ends the walk, since no tab is left or since the column is no number. Assumes nothing.
use Rattle.std.proofs.Common.{sym, subst, arith}
use Rattle.lines.proofs.Numbers.{written_read}
use Rattle.saved.specs.Saved.{largest}
use Rattle.saved.specs.Walk.{ColumnsRead}
use Rattle.saved.proofs.Walk.{end_inside, walk_short, walk_other, walk_on, walk_end}
use Rattle.saved.proofs.read_columns.Goals as goal

pub returns-then-end-line : goal.returns-then-end-line
returns-then-end-line c = walk_short c.loop-i.invariant c.place_from-end.ensures c.if-end-line.true c.loop-i-test.true

pub slice_bounds-read_number-end : goal.slice_bounds-read_number-end
slice_bounds-read_number-end c = end_inside c.loop-i.invariant c.place_from-end.ensures

pub returns-in_err-numbers : goal.returns-in_err-numbers
returns-in_err-numbers c =
    subst (ColumnsRead c.args.line.now) (sym c.from_residual.ensures)
    (walk_other c.loop-i.invariant c.place_from-end.ensures c.if-end-line.false c.loop-i-test.true (sym c.in_err-numbers.ensures))

pub overflow_cast-numbers : goal.overflow_cast-numbers
overflow_cast-numbers c = omega (arith, (written_read largest _ _ (sym c.in_ok-numbers.ensures)).1)

pub loop-i-preserved : goal.loop-i-preserved
loop-i-preserved c = walk_on c.loop-i.invariant c.place_from-end.ensures c.if-end-line.false c.loop-i-test.true (sym c.in_ok-numbers.ensures)

pub returns : goal.returns
returns c = walk_end c.loop-i.invariant c.loop-i-test.false
