-- An unfinished reply is never stuck: a RESPONSE that is due goes, and the ACK of one that is out delivers it. Assumes nothing.
use Prim.Native.Nat.{ℕ}
use mathlib.Core.Bool.{true}
use mathlib.Core.List.{[], ◌∷◌}
use mathlib.Core.Path.{◌≡◌, ap, ◌∙◌}
use Rattle.laws.proofs.Bools.{impossible}
use Rattle.reply.specs.Rules.{keeps_rules}
use Rattle.reply.specs.Steps.{unfinished}
use Rattle.reply.specs.Calls.{respond, ack, step_of, Finishes}
use Rattle.reply.specs.declared.Reply.{Reply}
use Rattle.reply.specs.declared.Phase.{Phase}
use Rattle.reply.proofs.Facts.{PhaseRule, rules_say}
use Rattle.reply.proofs.Exact.{at}

module _ (r u : ℕ) where
  kept : (p : Phase) → PhaseRule p (at r u p) → keeps_rules (at r u p) ≡ true
  kept p rule = (rules_say (at r u p)).1 rule

  goes : PhaseRule Phase.Ask (at r u Phase.Ask) → (step_of respond (at r u Phase.Ask)).state ≡ at r u Phase.Wait
  goes rule = rw (kept Phase.Ask rule)

  arrives : PhaseRule Phase.Wait (at r u Phase.Wait) → (step_of ack (at r u Phase.Wait)).state.phase ≡ Phase.Done
  arrives rule = rw (kept Phase.Wait rule)

  finishes : (p : Phase) → PhaseRule p (at r u p) → unfinished p ≡ true → Finishes (at r u p)
  finishes Phase.New rule e = impossible e
  finishes Phase.Ask rule e = (respond ∷ ack ∷ [], ap (λ (s : Reply). (step_of ack s).state.phase) (goes rule) ∙ arrives rule)
  finishes Phase.Wait rule e = (ack ∷ [], arrives rule)
  finishes Phase.Done rule e = impossible e
  finishes Phase.Fail rule e = impossible e
  finishes Phase.End rule e = impossible e

pub unstuck : (s : Reply) → keeps_rules s ≡ true → unfinished s.phase ≡ true → Finishes s
unstuck s kept = finishes s.resends s.used s.phase ((rules_say s).0 kept)
