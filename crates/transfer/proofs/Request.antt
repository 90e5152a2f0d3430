-- B, N, M and R: each call leaves them as the history has them, since START alone sets them and sets them to what it was called with.
-- Assumes nothing.
use Rattle.std.specs.Prelude.{Ok}
use Prim.Native.Nat.{ℕ, ◌-◌}
use mathlib.Core.Path.{◌≡◌, refl, sym}
use lib.Dec.{leb, eqb}
use Rattle.laws.proofs.Bools.{by_test}
use Rattle.refusals.proofs.Causes.{by_causes}
use Rattle.transfer.specs.Steps.{draining, started, frame_length, framed, answered, all_sent, settled, drained, acked, nacked, dropped}
use Rattle.transfer.specs.Steps.{ended, refused, say, start_causes, frame_causes, answer_causes, end_causes, start_step, frame_step, ack_step, nak_step}
use Rattle.transfer.specs.Steps.{drop_step, end_step}
use Rattle.transfer.specs.Calls.{Call, start, frame, ack, nak, timeout, lost, nexus, cancel, step_of}
use Rattle.transfer.specs.Log.{asked_of}
use Rattle.transfer.specs.Words.{asked_after, asked_by}
use Rattle.transfer.specs.declared.Transfer.{Transfer}
use Rattle.transfer.specs.declared.Stepped.{Stepped}
use Rattle.transfer.specs.declared.Answer.{Answer}

-- a call that did st leaves them as the history has them
abbrev pub Asks : Transfer → Call → Stepped → Type 0
Asks s c st = asked_of st.state ≡ asked_after c st.answer (asked_of s)

module _ (bound : ℕ) (s : Transfer) where
  asks_drain : (c : Call) → asked_by c (asked_of s) ≡ asked_of s → Asks s c (drained (answered s))
  unfolding drained
  asks_drain c e = by_test (Asks s c) (eqb (s.unanswered - 1) 0) (λ t. sym e) (λ t. sym e)

  asks_ack : Asks s ack (acked (answered s))
  unfolding acked settled
  asks_ack =
      by_test (Asks s ack) (draining s.phase) (λ d. asks_drain ack refl)
      (λ d. by_test (Asks s ack) (eqb (s.unanswered - 1) 0) (λ t. by_test (Asks s ack) (all_sent s) (λ q. refl) (λ q. refl)) (λ t. refl))

  asks_nak : Asks s nak (nacked (answered s))
  unfolding nacked
  asks_nak = by_test (Asks s nak) (leb s.resends s.used) (λ t. refl) (λ t. asks_drain nak refl)

  asks_drop : (c : Call) → asked_by c (asked_of s) ≡ asked_of s → Asks s c (dropped s)
  unfolding dropped
  asks_drop c e = by_test (Asks s c) (leb s.resends s.used) (λ t. sym e) (λ t. sym e)

  pub asks : (c : Call) → Asks s c (step_of bound c s)
  unfolding step_of start_step frame_step ack_step nak_step drop_step end_step
  asks (start b n m r) = by_causes (Asks s (start b n m r)) (refused s) (λ k. refl) (start_causes bound b n m r s) (say (Ok Answer.Ok) (started b n m r)) (λ off. refl)
  asks frame = by_causes (Asks s frame) (refused s) (λ k. refl) (frame_causes bound s) (framed (frame_length s) s) (λ off. refl)
  asks ack = by_causes (Asks s ack) (refused s) (λ k. refl) (answer_causes bound s) (acked (answered s)) (λ off. asks_ack)
  asks nak = by_causes (Asks s nak) (refused s) (λ k. refl) (answer_causes bound s) (nacked (answered s)) (λ off. asks_nak)
  asks timeout = by_causes (Asks s timeout) (refused s) (λ k. refl) (answer_causes bound s) (dropped s) (λ off. asks_drop timeout refl)
  asks lost = by_causes (Asks s lost) (refused s) (λ k. refl) (answer_causes bound s) (dropped s) (λ off. asks_drop lost refl)
  asks nexus = by_causes (Asks s nexus) (refused s) (λ k. refl) (end_causes bound s) (ended s) (λ off. refl)
  asks cancel = by_causes (Asks s cancel) (refused s) (λ k. refl) (end_causes bound s) (ended s) (λ off. refl)
