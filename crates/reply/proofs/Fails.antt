-- A failure leaves what passes the test of a state: it is a retry only while fewer than R resends are used, and else R are. Assumes nothing.
use mathlib.Core.Bool.{true}
use mathlib.Core.Logic.{⊎_elim}
use mathlib.Core.Path.{◌≡◌, subst}
use native.Mathlib.Omega.{arith}
use lib.Dec.{ltb}
use borrow.Author.Tests.{ltb-true, ltb-false}
use Rattle.laws.proofs.Bools.{by_test}
use Rattle.reply.specs.Steps.{unfinished, waits, failed}
use Rattle.reply.specs.declared.Reply.{Reply}
use Rattle.reply.specs.declared.Stepped.{Stepped}
use Rattle.reply.specs.declared.Phase.{Phase}
use Rattle.reply.proofs.Facts.{Counted, PhaseRule, in_wait, unfinished_says}

-- what passes the test of a state
abbrev pub Good : Stepped → Type 0
Good st = PhaseRule st.state.phase st.state

module _ (s : Reply) (rule : PhaseRule s.phase s) where
  pub in_phase : (p : Phase) → s.phase ≡ p → PhaseRule p s
  in_phase p e = subst (λ (q : Phase). PhaseRule q s) e rule

  pub underway : unfinished s.phase ≡ true → Counted s
  underway e = ⊎_elim (in_phase Phase.Ask) (in_phase Phase.Wait) ((unfinished_says s.phase).0 e)

  pub fails : waits s.phase ≡ true → Good (failed s)
  unfolding failed
  fails e =
      let n = in_phase Phase.Wait (in_wait s.phase e) in
      by_test Good (ltb s.used s.resends)
      (λ t. let l = ltb-true s.used s.resends t in (n.0, omega arith))
      (λ t. let l = ltb-false s.used s.resends t in let m = n.1 in (n, omega arith))
