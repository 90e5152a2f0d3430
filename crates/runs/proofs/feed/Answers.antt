-- The loop's invariant: the run stands as it does after the first `i` bytes of the block, and what it said of them is put into
-- out. A turn takes a line and its LF, and stops where `takes` does: at the block's end, or before an LF whose row might not fit.
-- Assumes nothing.
use Prim.Native.Nat.{◌-◌}
use mathlib.Core.List.{◌++◌}
use mathlib.Core.Path.{ap, ◌∙◌}
use native.Mathlib.Omega.{arith}
use lib.ListN.{length, take, drop}
use Rattle.runs.specs.Feed.{enough, run_of}
use Rattle.runs.proofs.Carry.{end_inside}
use Rattle.runs.proofs.Turns.{carry, loop_line, loop_stop, loop_end}
use Rattle.runs.proofs.feed.Goals as goal

pub slice_bounds-hold-end : goal.slice_bounds-hold-end
slice_bounds-hold-end c =
    end_inside c.loop-i.invariant.going c.place_from-end.ensures

pub returns-then-end-block : goal.returns-then-end-block
returns-then-end-block c =
    loop_stop c.loop-i.invariant c.place_from-end.ensures c.if-end-block.true c.args.run (ap (λ k. carry c.args.run.line c.args.run.len k c.args.run.state) c.places-keep.ensures.0) (c.hold.ensures ∙ ap (λ b. run_of (record { line = c.loop-i.line; begun = take enough (b ++ take (c.place_from-end.result - c.loop-i.i) (drop c.loop-i.i c.args.block.now)); state = c.loop-i.state })) c.front.ensures)

pub slice_bounds-end_line-end-in-loop-i : goal.slice_bounds-end_line-end-in-loop-i
slice_bounds-end_line-end-in-loop-i c =
    end_inside c.loop-i.invariant.going c.place_from-end.ensures

pub loop-i-preserved : goal.loop-i-preserved
loop-i-preserved c =
    loop_line c.loop-i.invariant c.place_from-end.ensures c.if-end-block.false c.next_line-line.ensures (omega (arith, c.end_line-taken.auto, c.loop-i.invariant.size)) c.end_line-taken.ensures

pub returns : goal.returns
returns c =
    loop_end c.loop-i.invariant c.loop-i-test.false c.args.run (ap (λ k. carry c.args.run.line c.args.run.len k c.args.run.state) c.places-keep.ensures.0) (c.hold-2.ensures ∙ ap (λ b. run_of (record { line = c.loop-i.line; begun = take enough (b ++ take (length c.args.block.now - c.loop-i.i) (drop c.loop-i.i c.args.block.now)); state = c.loop-i.state })) c.front-2.ensures)
