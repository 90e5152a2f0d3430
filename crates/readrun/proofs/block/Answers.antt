-- Each turn feeds what is left and writes what comes, and what is left to say is said of what is left then. Assumes nothing.
use Rattle.std.proofs.Common.{◌++◌, length, take, arith, sym, ap, ◌∙◌, append_assoc}
use Rattle.std.proofs.KnownBytes.{Appends-trans, Keeps-trans}
use borrow.Author.Tests.{eqb-false}
use Rattle.runs.proofs.Output.{turn_moves, turn_carries, turn_says, turn_kept}
use Rattle.readrun.proofs.block.Goals as goal

pub loop-rest-smaller : goal.loop-rest-smaller
loop-rest-smaller g c =
    let l = c.loop-rest in
    let fed = c.feed-fed in
    let some = eqb-false (length l.rest.now) 0 (sym c.loop-rest-test.ensures) in
    turn_moves l.now l.rest.now l.out fed.result fed.new.out fed.ensures l.invariant.room (omega (arith, some))

pub loop-rest-preserved : goal.loop-rest-preserved
loop-rest-preserved g c =
    let l = c.loop-rest in
    let fed = c.feed-fed in
    let i = l.invariant in
    let (done, says, holds) = i.says in
    record {
      room = omega arith;
      carries = i.carries ∙ turn_carries l.now l.rest.now l.out fed.result fed.new.out fed.ensures;
      says = (
        done ++ take fed.result.wrote fed.new.out,
        says ∙ ap (λ s. done ++ s) (turn_says l.now l.rest.now l.out fed.result fed.new.out fed.ensures) ∙ sym (append_assoc done _ _),
        Appends-trans _ _ _ _ _ holds (c.put.ensures.all c.if-not-put.false),
      );
      kept = λ _. turn_kept l.now l.rest.now l.out fed.result fed.new.out fed.ensures;
      silent = Keeps-trans _ _ _ i.silent (c.put.ensures.silent c.if-not-put.false);
    }
