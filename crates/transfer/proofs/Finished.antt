-- A call that finishes the transfer moves neither the read offset nor the resends used: each way to done, fail and end changes the
-- unanswered count, the balance point and the phase alone. Assumes nothing.
use Rattle.std.specs.Prelude.{Ok}
use Prim.Native.Nat.{ℕ, ◌-◌}
use mathlib.Core.Bool.{true, false}
use mathlib.Core.Path.{◌≡◌, refl, sym}
use lib.Dec.{leb, eqb}
use borrow.Author.Tests.{not-false}
use Rattle.laws.proofs.Bools.{clash, impossible, by_test}
use Rattle.refusals.proofs.Causes.{by_causes}
use Rattle.transfer.specs.Steps.{unfinished, draining, started, frame_length, framed, answered, all_sent, settled, drained, acked, nacked, dropped}
use Rattle.transfer.specs.Steps.{ended, refused, say, start_causes, frame_causes, answer_causes, end_causes, start_step, frame_step, ack_step, nak_step}
use Rattle.transfer.specs.Steps.{drop_step, end_step}
use Rattle.transfer.specs.Calls.{Call, start, frame, ack, nak, timeout, lost, nexus, cancel, step_of}
use Rattle.transfer.specs.declared.Transfer.{Transfer}
use Rattle.transfer.specs.declared.Stepped.{Stepped}
use Rattle.transfer.specs.declared.Answer.{Answer}
use Rattle.transfer.proofs.Calls.{some_left}

-- a call that leaves the transfer finished moves neither the read offset nor the resends used
abbrev pub Stays : Transfer → Stepped → Type 0
Stays s st = unfinished st.state.phase ≡ false → (st.state.read ≡ s.read) × (st.state.used ≡ s.used)

module _ (bound : ℕ) (s : Transfer) where
  -- it is not finished
  goes_on : {A : Type 0} → unfinished s.phase ≡ true → unfinished s.phase ≡ false → A
  goes_on u e = absurd (clash (unfinished s.phase) u e)

  stays_drain : Stays s (drained (answered s))
  unfolding drained
  stays_drain = by_test (Stays s) (eqb (s.unanswered - 1) 0) (λ t e. impossible (sym e)) (λ t e. impossible (sym e))

  stays_ack : unfinished s.phase ≡ true → Stays s (acked (answered s))
  unfolding acked settled
  stays_ack u =
      by_test (Stays s) (draining s.phase) (λ d. stays_drain)
      (λ d. by_test (Stays s) (eqb (s.unanswered - 1) 0) (λ t. by_test (Stays s) (all_sent s) (λ q e. (refl, refl)) (λ q. goes_on u)) (λ t. goes_on u))

  stays_nak : Stays s (nacked (answered s))
  unfolding nacked
  stays_nak = by_test (Stays s) (leb s.resends s.used) (λ t e. (refl, refl)) (λ t. stays_drain)

  stays_drop : Stays s (dropped s)
  unfolding dropped
  stays_drop = by_test (Stays s) (leb s.resends s.used) (λ t e. (refl, refl)) (λ t e. impossible (sym e))

  pub stays : (c : Call) → Stays s (step_of bound c s)
  unfolding step_of start_step frame_step ack_step nak_step drop_step end_step
  stays (start b n m r) = by_causes (Stays s) (refused s) (λ k e. (refl, refl)) (start_causes bound b n m r s) (say (Ok Answer.Ok) (started b n m r)) (λ off e. impossible (sym e))
  stays frame = by_causes (Stays s) (refused s) (λ k e. (refl, refl)) (frame_causes bound s) (framed (frame_length s) s) (λ off. goes_on (not-false _ off.1.0))
  stays ack = by_causes (Stays s) (refused s) (λ k e. (refl, refl)) (answer_causes bound s) (acked (answered s)) (λ off. stays_ack (some_left s off.1.0).0)
  stays nak = by_causes (Stays s) (refused s) (λ k e. (refl, refl)) (answer_causes bound s) (nacked (answered s)) (λ off. stays_nak)
  stays timeout = by_causes (Stays s) (refused s) (λ k e. (refl, refl)) (answer_causes bound s) (dropped s) (λ off. stays_drop)
  stays lost = by_causes (Stays s) (refused s) (λ k e. (refl, refl)) (answer_causes bound s) (dropped s) (λ off. stays_drop)
  stays nexus = by_causes (Stays s) (refused s) (λ k e. (refl, refl)) (end_causes bound s) (ended s) (λ off e. (refl, refl))
  stays cancel = by_causes (Stays s) (refused s) (λ k e. (refl, refl)) (end_causes bound s) (ended s) (λ off e. (refl, refl))
