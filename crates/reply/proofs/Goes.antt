-- What any calls leave of what passes the test of a state passes it: a call that is taken leaves it, since it was in the phase that its causes ask for. Assumes nothing.
use mathlib.Core.List.{List, [], ◌∷◌}
use native.Mathlib.Omega.{arith}
use borrow.Author.Tests.{leb-true, not-false}
use Rattle.refusals.proofs.Causes.{NoneGiven, by_causes}
use Rattle.reply.specs.Steps.{refused}
use Rattle.reply.specs.Calls.{Call, start, respond, ack, nak, timeout, lost, nexus, cancel, causes_of, goes_on, step_of, run}
use Rattle.reply.specs.declared.Reply.{Reply}
use Rattle.reply.specs.declared.Phase.{Phase}
use Rattle.reply.proofs.Facts.{PhaseRule, in_ask, in_wait}
use Rattle.reply.proofs.Fails.{Good, in_phase, underway, fails}

module _ (s : Reply) (rule : PhaseRule s.phase s) where
  goes : (c : Call) → NoneGiven (causes_of c s) → Good (goes_on c s)
  goes (start r) off = (leb-true r 255 (not-false _ off.0), omega arith)
  goes respond off = in_phase s rule Phase.Ask (in_ask s.phase (not-false _ off.1.0))
  goes ack off = in_phase s rule Phase.Wait (in_wait s.phase (not-false _ off.1.0))
  goes nak off = fails s rule (not-false _ off.1.0)
  goes timeout off = fails s rule (not-false _ off.1.0)
  goes lost off = fails s rule (not-false _ off.1.0)
  goes nexus off = underway s rule (not-false _ off.1.0)
  goes cancel off = underway s rule (not-false _ off.1.0)

  pub step_good : (c : Call) → Good (step_of c s)
  step_good c = by_causes Good (refused s) (λ k. rule) (causes_of c s) (goes_on c s) (goes c)

pub run_good : (cs : List Call) (s : Reply) → PhaseRule s.phase s → PhaseRule (run cs s).phase (run cs s)
run_good [] s rule = rule
run_good (c ∷ cs) s rule = run_good cs (step_of c s).state (step_good s rule c)
