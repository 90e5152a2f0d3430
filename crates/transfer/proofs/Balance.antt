-- Any call keeps the balance point's invariant with the history, refused ones among them, and it holds before any call, so it holds
-- after all. Assumes nothing.
use Rattle.std.specs.Prelude.{Ok}
use Prim.Native.Nat.{ℕ, ◌-◌, ◌<◌}
use mathlib.Core.Bool.{true, cond}
use mathlib.Core.List.{List, [], ◌∷◌, ◌++◌}
use mathlib.Core.Logic.{inr}
use mathlib.Core.Path.{◌≡◌, refl, ap}
use native.Mathlib.Omega.{arith}
use lib.Dec.{leb, eqb}
use lib.ListN.{length}
use borrow.Author.Tests.{eqb-true, eqb-false, leb-false, not-false}
use Rattle.laws.proofs.Bools.{by_test}
use Rattle.refusals.specs.Causes.{refuse}
use Rattle.refusals.specs.declared.Refusal.{Refusal}
use Rattle.transfer.specs.Rules.{unstarted}
use Rattle.transfer.specs.Steps.{unfinished, draining, started, frame_length, framed, answered, all_sent, settled}
use Rattle.transfer.specs.Steps.{drained, acked, nacked, dropped, ended, refused, say, start_causes, frame_causes, answer_causes}
use Rattle.transfer.specs.Steps.{end_causes, start_step, frame_step, ack_step, nak_step, drop_step, end_step}
use Rattle.transfer.specs.Calls.{Call, start, frame, ack, nak, timeout, lost, nexus, cancel, step_of, run}
use Rattle.transfer.specs.History.{Frame, Entry, entries, anew, view}
use Rattle.transfer.specs.Log.{next_frame, entries_of, history}
use Rattle.transfer.specs.declared.Transfer.{Transfer}
use Rattle.transfer.specs.declared.Stepped.{Stepped}
use Rattle.transfer.specs.declared.Answer.{Answer}
use Rattle.transfer.specs.declared.Phase.{Phase}
use Rattle.refusals.proofs.Causes.{by_causes}
use Rattle.transfer.proofs.Calls.{run_phase, drain_phase, work, some_left}
use Rattle.transfer.proofs.Invariant.{Inv, Settled, no_frame, running, drains, count, tally, settled_now}
use Rattle.transfer.proofs.Effects.{acked_to, nacked_to, begins, sends, anews, overs, more_run, more_drain, more_nak, last_run, last_done}

-- the invariant after a call c of s that is answered st, with the history h before it
abbrev pub After : ℕ → Transfer → List Entry → Call → Stepped → Type 0
After bound s h c st = Inv bound st.state (view (entries c (next_frame s) st.answer ++ h))

module _ (bound : ℕ) (s : Transfer) (h : List Entry) (i : Inv bound s (view h)) where
  stays : (c : Call) (k : Refusal) → After bound s h c (refused s k)
  stays c k = i

  module _ (u : unfinished s.phase ≡ true) (some : 0 < s.unanswered) where
    as_many : length (view h).waiting ≡ s.unanswered
    as_many = count bound s h i (work s.phase u)

    one_left : (f : Frame) → (view h).waiting ≡ f ∷ [] → s.unanswered - 1 ≡ 0
    one_left f e = let l = ap length e in let c = as_many in omega arith

    more_left : (f g : Frame) (gs : List Frame) → (view h).waiting ≡ f ∷ (g ∷ gs) → 1 < s.unanswered
    more_left f g gs e = let l = ap length e in let c = as_many in omega arith

    -- an ACK after a NAK
    drain_acks : s.phase ≡ Phase.Drain → (w : List Frame) → (view h).waiting ≡ w → After bound s h ack (drained (answered s))
    unfolding drained
    drain_acks p [] e = absurd (let l = ap length e in let c = as_many in omega arith)
    drain_acks p (f ∷ []) e =
        by_test (After bound s h ack) (eqb (s.unanswered - 1) 0)
        (λ t. rw (e, (drains bound s (view h) i p).seen) (anews bound s (view h) i (s.unanswered - 1) (acked_to f [] (view h)) (one_left f e) (λ x c. inr c)))
        (λ t. absurd (eqb-false (s.unanswered - 1) 0 t (one_left f e)))
    drain_acks p (f ∷ (g ∷ gs)) e =
        by_test (After bound s h ack) (eqb (s.unanswered - 1) 0)
        (λ t. absurd (let one = eqb-true (s.unanswered - 1) 0 t in let more = more_left f g gs e in omega arith))
        (λ t. rw e (more_drain bound s (view h) i f (g ∷ gs) e p (more_left f g gs e)))

    run_acks : s.phase ≡ Phase.Run → (w : List Frame) → (view h).waiting ≡ w
        → After bound s h ack (cond (eqb (s.unanswered - 1) 0) (settled (answered s)) (say (Ok Answer.Ok) (answered s)))
    unfolding settled
    run_acks p [] e = absurd (let l = ap length e in let c = as_many in omega arith)
    run_acks p (f ∷ []) e =
        let calm = (running bound s (view h) i p).calm in
        by_test (After bound s h ack) (eqb (s.unanswered - 1) 0)
        (λ t. by_test (After bound s h ack) (all_sent s)
        (λ q. rw (e, calm) (rw calm at (last_done bound s (view h) i f e p (one_left f e) (eqb-true _ _ q))))
        (λ q. rw (e, calm) (rw calm at (last_run bound s (view h) i f e p (one_left f e)))))
        (λ t. absurd (eqb-false (s.unanswered - 1) 0 t (one_left f e)))
    run_acks p (f ∷ (g ∷ gs)) e =
        by_test (After bound s h ack) (eqb (s.unanswered - 1) 0)
        (λ t. absurd (let one = eqb-true (s.unanswered - 1) 0 t in let more = more_left f g gs e in omega arith))
        (λ t. rw e (more_run bound s (view h) i f (g ∷ gs) e p (more_left f g gs e)))

    acks : After bound s h ack (acked (answered s))
    unfolding acked
    acks =
        by_test (After bound s h ack) (draining s.phase)
        (λ d. drain_acks (drain_phase s.phase d) (view h).waiting refl)
        (λ d. run_acks (run_phase s.phase u d) (view h).waiting refl)

    -- a NAK that fails the transfer: not every frame of the attempt was ACKed
    nak_fails : (f : Frame) (fs : List Frame) → (view h).waiting ≡ f ∷ fs → Settled s (nacked_to fs (view h))
    nak_fails f fs e g gs a same =
        let l = tally bound s h i (work s.phase u) in
        let q : length (view h).good ≡ length (view h).attempt = ap length same in
        absurd (omega arith)

    naks : (w : List Frame) → (view h).waiting ≡ w → After bound s h nak (nacked (answered s))
    unfolding nacked drained
    naks [] e = absurd (let l = ap length e in let c = as_many in omega arith)
    naks (f ∷ []) e =
        by_test (After bound s h nak) (leb s.resends s.used)
        (λ t. rw e (overs bound s (view h) i (Ok Answer.Fail) Phase.Fail (anew (nacked_to [] (view h))) (λ x c. c) (omega arith) (λ o. o) (λ g gs a same. no_frame g gs a)))
        (λ t. by_test (After bound s h nak) (eqb (s.unanswered - 1) 0)
        (λ z. rw e (anews bound s (view h) i (s.unanswered - 1) (nacked_to [] (view h)) (one_left f e) (λ x c. c)))
        (λ z. absurd (eqb-false (s.unanswered - 1) 0 z (one_left f e))))
    naks (f ∷ (g ∷ gs)) e =
        let b = i.few in
        let l = ap length e in
        by_test (After bound s h nak) (leb s.resends s.used)
        (λ t. rw e (overs bound s (view h) i (Ok Answer.Fail) Phase.Fail (nacked_to (g ∷ gs) (view h)) (λ x c. c) (omega arith) (λ o. o) (nak_fails f (g ∷ gs) e)))
        (λ t. by_test (After bound s h nak) (eqb (s.unanswered - 1) 0)
        (λ z. absurd (let one = eqb-true (s.unanswered - 1) 0 z in let more = more_left f g gs e in omega arith))
        (λ z. rw e (more_nak bound s (view h) i f (g ∷ gs) e as_many (tally bound s h i (work s.phase u)) (more_left f g gs e))))

  -- TIMEOUT and LOST alike
  drops : (c : Call) → view (entries c (next_frame s) (Ok Answer.Retry) ++ h) ≡ anew (view h)
      → view (entries c (next_frame s) (Ok Answer.Fail) ++ h) ≡ anew (view h) → After bound s h c (dropped s)
  unfolding dropped
  drops c r f =
      by_test (After bound s h c) (leb s.resends s.used)
      (λ t. rw f (overs bound s (view h) i (Ok Answer.Fail) Phase.Fail (anew (view h)) (λ x c. c) (omega arith) (λ o. o) (λ g gs a same. no_frame g gs a)))
      (λ t. rw r (anews bound s (view h) i 0 (view h) refl (λ x c. c)))

  answer : (c : Call) (a : Stepped) → (unfinished s.phase ≡ true → 0 < s.unanswered → After bound s h c a)
      → After bound s h c (refuse (refused s) (answer_causes bound s) a)
  answer c a next = by_causes (After bound s h c) (refused s) (stays c) (answer_causes bound s) a (λ off. let l = some_left s off.1.0 in next l.0 l.1)

  finish : (c : Call) → view (entries c (next_frame s) (Ok Answer.End) ++ h) ≡ view h → After bound s h c (end_step bound s)
  unfolding end_step
  finish c e =
      by_causes (After bound s h c) (refused s) (stays c) (end_causes bound s) (ended s)
      (λ off. let u = not-false _ off.1.0 in
      rw e (overs bound s (view h) i (Ok Answer.End) Phase.End (view h) (λ x c. c) i.few (λ o. o) (settled_now bound s h i (work s.phase u))))

  goes : After bound s h frame (frame_step bound s)
  unfolding frame_step
  goes =
      by_causes (After bound s h frame) (refused s) (stays frame) (frame_causes bound s) (framed (frame_length s) s)
      (λ off.
      let p = run_phase s.phase (not-false _ off.1.0) off.1.1.0 in
      let inside = (running bound s (view h) i p).inside in
      sends bound s (view h) i (frame_length s) p (omega arith) (leb-false _ _ off.1.1.1.1.0))

  -- any call keeps the invariant
  pub keeps : (c : Call) → After bound s h c (step_of bound c s)
  unfolding step_of start_step ack_step nak_step drop_step
  keeps (start b n m r) =
      by_causes (After bound s h (start b n m r)) (refused s) (stays (start b n m r)) (start_causes bound b n m r s) (say (Ok Answer.Ok) (started b n m r)) (λ off. begins bound b n m r)
  keeps frame = goes
  keeps ack = answer ack (acked (answered s)) (λ u some. acks u some)
  keeps nak = answer nak (nacked (answered s)) (λ u some. naks u some (view h).waiting refl)
  keeps timeout = answer timeout (dropped s) (λ u some. drops timeout refl refl)
  keeps lost = answer lost (dropped s) (λ u some. drops lost refl refl)
  keeps nexus = finish nexus refl
  keeps cancel = finish cancel refl

-- it holds before any call, and so after any
pub at_first : (bound : ℕ) → Inv bound unstarted (view [])
at_first bound =
    record {
      first = omega arith;
      last = omega arith;
      sure = λ x h k. absurd (omega arith);
      few = omega arith;
      live = record { none = refl; last = λ f fs a same. no_frame f fs a };
    }

pub all_keep : (bound : ℕ) (cs : List Call) (s : Transfer) (h : List Entry) → Inv bound s (view h)
    → Inv bound (run bound cs s) (view (history bound cs s h))
all_keep bound [] s h i = i
all_keep bound (c ∷ cs) s h i = all_keep bound cs (step_of bound c s).state (entries_of bound c s ++ h) (keeps bound s h i c)
