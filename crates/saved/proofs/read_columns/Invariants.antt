-- The loop's invariant is `Walked`: the columns passed so far are numbers and stand in front. Assumes nothing.
use Rattle.saved.proofs.Walk.{Walked}
use Rattle.saved.proofs.read_columns.Given as goal

abbrev pub invariant-loop-i : goal.invariant-loop-i
invariant-loop-i l = Walked l.line l.numbers l.next l.i
