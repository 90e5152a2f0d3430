-- Sending ends: an attempt sends no more frames than lie from B to its read offset, and so no more than the request has, and each
-- attempt but the first uses a resend. Assumes nothing.
use Rattle.std.specs.Prelude.{Ok}
use Prim.Native.Nat.{ℕ, ◌+◌, ◌-◌, ◌*◌, ◌≤◌, ◌<◌}
use mathlib.Core.List.{List, [], ◌∷◌, ◌++◌}
use mathlib.Core.Logic.{inl, inr}
use mathlib.Core.Path.{◌≡◌, refl, sym, ap, subst⁻¹, ◌∙◌}
use native.Mathlib.Omega.{arith}
use native.Mathlib.Nat.{mul-le-mul_right, lt_of_mul-lt-mul_right}
use lib.Dec.{leb, eqb}
use borrow.Author.Tests.{eqb-false, not-false}
use Rattle.laws.proofs.Bools.{by_test}
use Rattle.refusals.specs.Causes.{refuse}
use Rattle.transfer.specs.Rules.{end_of, unstarted, frames}
use Rattle.transfer.specs.Steps.{draining, started, frame_length, framed, answered, all_sent, settled, drained, acked, nacked, dropped, ended}
use Rattle.transfer.specs.Steps.{refused, say, start_causes, frame_causes, answer_causes, end_causes, start_step, frame_step, ack_step, nak_step}
use Rattle.transfer.specs.Steps.{drop_step, end_step}
use Rattle.transfer.specs.Calls.{Call, start, frame, ack, nak, timeout, lost, nexus, cancel, step_of, run}
use Rattle.transfer.specs.History.{Entry, entries, frames_sent}
use Rattle.transfer.specs.Log.{next_frame, entries_of, history}
use Rattle.transfer.specs.declared.Transfer.{Transfer}
use Rattle.transfer.specs.declared.Stepped.{Stepped}
use Rattle.transfer.specs.declared.Answer.{Answer}
use Rattle.refusals.proofs.Causes.{by_causes}
use Rattle.transfer.proofs.Calls.{some_left}
use Rattle.transfer.proofs.Shape.{BaseOf, Live, Good, frames_is, frames_reach}
use Rattle.transfer.proofs.Sound.{live, step_good}

-- the frames of the whole request, and those from B to the read offset
abbrev all : Transfer → ℕ
all s = frames s.count s.size

abbrev behind : Transfer → ℕ
behind s = frames (s.read - s.offset) s.size

abbrev Few : Transfer → List Entry → Type 0
Few s h = frames_sent h ≤ s.used * all s + behind s

module _ (s : Transfer) (k f : ℕ) (h : BaseOf s k f) where
  behind_is : behind s ≡ k + f
  behind_is =
      let a = h.read_is in
      let c = h.real in
      let four = h.setup.1.1.1.0 in
      frames_is (s.read - s.offset) s.size (k + f) (omega arith) (omega arith) (omega arith)

  behind_most : behind s ≤ all s
  behind_most =
      let c = h.real in
      let four = h.setup.1.1.1.0 in
      let up : s.count ≤ all s * s.size = frames_reach s.count s.size (omega arith) in
      let l : k + f < all s + 1 = lt_of_mul-lt-mul_right s.size {m = k + f} {n = all s + 1} (omega arith) in
      let e = behind_is in
      omega arith

  -- a frame more is one place more
  behind_next : (s.read ≡ end_of s → ⊥) → behind (framed (frame_length s) s).state ≡ behind s + 1
  behind_next ne =
      let a = h.read_is in
      let c = h.real in
      let four = h.setup.1.1.1.0 in
      let near : (k + f) * s.size < s.count = omega arith in
      let e = behind_is in
      frames_is (s.read + frame_length s - s.offset) s.size (k + f + 1) (omega arith) (omega arith) (omega arith) ∙ ap (λ (x : ℕ). x + 1) (sym e)

-- what a call c of s, answered st, leaves of the count, with the history h before it
abbrev After : Transfer → List Entry → Call → Stepped → Type 0
After s h c st = Few st.state (entries c (next_frame s) st.answer ++ h)

module _ (bound : ℕ) (s : Transfer) (h : List Entry) (i : Good bound s) (few : Few s h) where
  -- a resend pays for the frames of the attempt
  paid : Live bound s → frames_sent h ≤ (s.used + 1) * all s
  paid w = let l = behind_most s w.k w.f w.base in omega arith

  again : (b : ℕ) → Live bound s → frames_sent h ≤ (s.used + 1) * all s + b
  again b w = let l = paid w in omega arith

  drains : (c : Call) → frames_sent (entries c (next_frame s) (Ok Answer.Retry) ++ h) ≡ frames_sent h
      → frames_sent (entries c (next_frame s) (Ok Answer.Drain) ++ h) ≡ frames_sent h → Live bound s → After s h c (drained (answered s))
  unfolding drained
  drains c r d w = by_test (After s h c) (eqb (s.unanswered - 1) 0) (λ t. rw r (again _ w)) (λ t. rw d few)

  acks : Live bound s → After s h ack (acked (answered s))
  unfolding acked settled
  acks w =
      by_test (After s h ack) (draining s.phase) (λ d. drains ack refl refl w)
      (λ d. by_test (After s h ack) (eqb (s.unanswered - 1) 0) (λ t. by_test (After s h ack) (all_sent s) (λ q. few) (λ q. few)) (λ t. few))

  naks : Live bound s → After s h nak (nacked (answered s))
  unfolding nacked
  naks w = by_test (After s h nak) (leb s.resends s.used) (λ t. few) (λ t. drains nak refl refl w)

  -- TIMEOUT and LOST alike
  drops : (c : Call) → frames_sent (entries c (next_frame s) (Ok Answer.Retry) ++ h) ≡ frames_sent h
      → frames_sent (entries c (next_frame s) (Ok Answer.Fail) ++ h) ≡ frames_sent h → Live bound s → After s h c (dropped s)
  unfolding dropped
  drops c r f w = by_test (After s h c) (leb s.resends s.used) (λ t. rw f few) (λ t. rw r (again _ w))

  answer : (c : Call) (a : Stepped) → (Live bound s → After s h c a) → After s h c (refuse (refused s) (answer_causes bound s) a)
  answer c a next = by_causes (After s h c) (refused s) (λ k. few) (answer_causes bound s) a (λ off. next (live bound s i (some_left s off.1.0).0))

  goes : After s h frame (frame_step bound s)
  unfolding frame_step
  goes =
      by_causes (After s h frame) (refused s) (λ k. few) (frame_causes bound s) (framed (frame_length s) s)
      (λ off.
      let w = live bound s i (not-false _ off.1.0) in
      let e = behind_next s w.k w.f w.base (eqb-false _ _ off.1.1.1.0) in
      let l : frames_sent h ≤ s.used * all s + behind s = few in
      omega arith)

  few_step : (c : Call) → After s h c (step_of bound c s)
  unfolding step_of start_step ack_step nak_step drop_step end_step
  few_step (start b n m r) = by_causes (After s h (start b n m r)) (refused s) (λ k. few) (start_causes bound b n m r s) (say (Ok Answer.Ok) (started b n m r)) (λ off. omega arith)
  few_step frame = goes
  few_step ack = answer ack (acked (answered s)) acks
  few_step nak = answer nak (nacked (answered s)) naks
  few_step timeout = answer timeout (dropped s) (drops timeout refl refl)
  few_step lost = answer lost (dropped s) (drops lost refl refl)
  few_step nexus = by_causes (After s h nexus) (refused s) (λ k. few) (end_causes bound s) (ended s) (λ off. few)
  few_step cancel = by_causes (After s h cancel) (refused s) (λ k. few) (end_causes bound s) (ended s) (λ off. few)

all_few : (bound : ℕ) (cs : List Call) (s : Transfer) (h : List Entry) → Good bound s → Few s h
    → Good bound (run bound cs s) × Few (run bound cs s) (history bound cs s h)
all_few bound [] s h i few = (i, few)
all_few bound (c ∷ cs) s h i few = all_few bound cs (step_of bound c s).state (entries_of bound c s ++ h) (step_good bound s i c) (few_step bound s h i few c)

-- resends used, and then all frames once more
at_most : (bound : ℕ) (s : Transfer) (h : List Entry) → Good bound s → Few s h → frames_sent h ≤ (s.resends + 1) * all s
at_most bound s h (inl z) few = subst⁻¹ (λ (t : Transfer). Few t h → frames_sent h ≤ (t.resends + 1) * all t) z (λ none. omega arith) few
at_most bound s h (inr w) few =
    let l = behind_most s w.k w.f w.base in
    let u : s.used * all s ≤ s.resends * all s = mul-le-mul_right (all s) w.base.tried in
    omega arith

-- over any calls at most (R+1) times ⌈N/M⌉ frames are sent for one START
pub ends : (bound : ℕ) (cs : List Call)
    → let s = run bound cs unstarted in frames_sent (history bound cs unstarted []) ≤ (s.resends + 1) * frames s.count s.size
ends bound cs = let w = all_few bound cs unstarted [] (inl refl) (omega arith) in at_most bound (run bound cs unstarted) (history bound cs unstarted []) w.0 w.1
