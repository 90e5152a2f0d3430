-- Each turn takes and says what came, and the end of the input what is left to say. Assumes nothing.
use Rattle.std.proofs.Common.{◌≡◌, true, [], ◌++◌, take, refl, sym, ap, ◌∙◌, arith, Some}
use Rattle.std.proofs.KnownBytes.{Appends-nil, Consumes-nil, Consumes-trans, Keeps-refl, Keeps-trans}
use Rattle.laws.proofs.Bools.{never, and_left, and_right}
use Rattle.readrun.proofs.Program.{given, own, goes_on, says_on, ends}
use Rattle.readrun.proofs.all.Goals as goal
use Rattle.readrun.proofs.all.Goals.{else-loop-test, then-loop-test+in-Some+then-n-eq0}

pub loop-init : goal.loop-init
loop-init g c = record {
  room = c.requires;
  sized = refl;
  ran = ([], Consumes-nil _, c.fresh-run.ensures, Appends-nil _);
  going = refl;
  silent = Keeps-refl _;
}

pub loop-preserved : goal.loop-preserved
loop-preserved g c =
    let i = c.loop.invariant in
    let (xs, came, runs, holds) = i.ran in
    let got = c.in-Some.ensures in
    let went = c.in-Some-block.ensures in
    let ys = take c.in-Some.n c.get.new.input in
    record {
      room = omega arith;
      sized = omega arith;
      ran = (
        xs ++ ys,
        Consumes-trans _ _ _ _ _ came got.taken,
        goes_on xs runs ys (went.kept (own xs runs)) went.carries,
        says_on xs runs _ _ _ holds ys went.says,
      );
      going = i.going;
      silent = Keeps-trans _ _ _ i.silent (Keeps-trans _ _ _ got.silent went.silent);
    }

pub returns-clause-prints : goal.returns-clause-prints
returns-clause-prints g c = λ e some.
    let i = c.loop.invariant in
    let (xs, came, runs, holds) = i.ran in
    let put : c.put.result ≡ true = and_left _ _ e in
    let ended : c.loop-test.ended ≡ true = and_right c.put.result _ e in
    let printed = ends xs runs _ _ _ holds i.room c.close-last.ensures (c.put.ensures.all put) in
    elim c.loop-test.branch [
      | else-loop-test w ↦ absurd (never (sym (w.ended-is ∙ i.going) ∙ ended))
      | then-loop-test+in-Some+then-n-eq0 w ↦
          given _ _ _ xs w.get.new.input came w.in-Some.ensures.taken w.if-n-eq0.true (w.in-Some.ensures.ended (ap Some w.if-n-eq0.true) (omega arith)) _ printed
    ]
