-- `frame` is refused by its check, or goes on to `framed`. Assumes nothing.
use native.Mathlib.Omega.{arith}
use borrow.Author.Tests.{not-false}
use Rattle.transfer.specs.Steps.{limit, refused, frame_length, framed, frame_causes, frame_step}
use Rattle.refusals.proofs.Causes.{none_given, goes_on, stops}
use Rattle.transfer.proofs.Calls.{frame_fits}
use Rattle.transfer.proofs.Transfer.frame.Goals as goal

pub returns-in-Err : goal.returns-in-Err
unfolding frame_step
returns-in-Err c = let s = c.args.self in
    stops (refused s) (framed (frame_length s) s) (frame_causes limit s) c.frame_checked.ensures c.in-Err.is c.refused.ensures

pub overflow_add-self : goal.overflow_add-self
overflow_add-self c =
    let off = none_given (frame_causes limit c.args.self) c.frame_checked.ensures c.in_default.is in
    let fits = frame_fits limit c.args.self (not-false _ off.0) (not-false _ off.1.0) in
    omega (arith, c.frame_length.ensures)

pub returns : goal.returns
unfolding frame_step
returns c =
    let s = c.args.self in
    goes_on (refused s) (framed (frame_length s) s) (frame_causes limit s) c.frame_checked.ensures c.in_default.is
    (rw c.frame_length.ensures)
