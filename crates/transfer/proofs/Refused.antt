-- Refusals against the history: a transfer is unfinished exactly if the history says so, and then each test by which a call is refused is
-- one of the history. Assumes nothing.
use Rattle.refusals.specs.declared.Refusal.{Refusal}
use Rattle.std.specs.Prelude.{Err, Ok, Result}
use Prim.Native.Nat.{ℕ, ◌-◌, ◌<◌}
use mathlib.Core.Bool.{Bool, true, false, not, cond, ◌||◌}
use mathlib.Core.List.{List, [], ◌∷◌, ◌++◌}
use mathlib.Core.Path.{◌≡◌, refl, sym, ap, subst, ◌∙◌}
use native.Mathlib.Omega.{arith}
use lib.Dec.{leb, eqb}
use lib.ListN.{length}
use borrow.Author.Tests.{ne_eqb, not-false}
use Rattle.laws.proofs.Bools.{never, by_test, on_false}
use Rattle.refusals.specs.Causes.{refuse}
use Rattle.refusals.specs.Refusals.{number_of}
use Rattle.refusals.proofs.Causes.{by_causes, through}
use Rattle.transfer.specs.Rules.{end_of, in_range, unstarted, frames_out, keeps_rules}
use Rattle.transfer.specs.Steps.{unfinished, draining, started, frame_length, framed, answered, all_sent, settled, drained, acked, nacked, dropped, ended}
use Rattle.transfer.specs.Steps.{refused, say, start_causes, frame_causes, answer_causes, end_causes, start_step, frame_step, ack_step, nak_step}
use Rattle.transfer.specs.Steps.{drop_step, end_step}
use Rattle.transfer.specs.Calls.{Call, start, frame, ack, nak, timeout, lost, nexus, cancel, step_of, run}
use Rattle.transfer.specs.History.{Frame, Entry, entry_of, entries, is_refused, view}
use Rattle.transfer.specs.Log.{next_frame, entries_of, history, asked_of}
use Rattle.transfer.specs.Words.{last_end, spent, whole, underway, refusal_of, frame_refusal, answer_refusal, end_refusal, refusal_by}
use Rattle.transfer.specs.declared.Transfer.{Transfer}
use Rattle.transfer.specs.declared.Stepped.{Stepped}
use Rattle.transfer.specs.declared.Answer.{Answer}
use Rattle.transfer.specs.declared.Phase.{Phase}
use Rattle.transfer.proofs.Facts.{PhaseRule}
use Rattle.transfer.proofs.Calls.{run_phase, work, some_left}
use Rattle.transfer.proofs.Calls as known
use Rattle.transfer.proofs.Invariant.{Inv, EndsAt, count}
use Rattle.transfer.proofs.Balance.{keeps, at_first}
use Rattle.transfer.proofs.Demand.{unsent}
use Rattle.transfer.proofs.Refusals.{causes_of, goes_on, step_is, taken}
use Rattle.transfer.proofs.Words.{Tally, tallies, nak_seen, spent_is, due_is, whole_is, at_start}

-- the transfer is unfinished, by its phase and by the history
abbrev pub Lives : Transfer → List Entry → Type 0
Lives s h = unfinished s.phase ≡ underway (asked_of s) h

-- after a call c of s, answered st
abbrev pub Lasts : Transfer → List Entry → Call → Stepped → Type 0
Lasts s h c st = Lives st.state (entries c (next_frame s) st.answer ++ h)

-- an answer that is no refusal has no number
none : (a : Result Answer Refusal) → is_refused a ≡ false → refusal_of a ≡ 0
none (Ok Answer.Ok) e = refl
none (Ok Answer.Sent) e = refl
none (Ok Answer.Drain) e = refl
none (Ok Answer.Retry) e = refl
none (Ok Answer.Done) e = refl
none (Ok Answer.Fail) e = refl
none (Ok Answer.End) e = refl
none (Err k) e = absurd (never (sym e))

module _ (bound : ℕ) (s : Transfer) (h : List Entry) (i : Inv bound s (view h)) (w : Tally s h) (l : Lives s h) where
  module _ (u : unfinished s.phase ≡ true) (some : 0 < s.unanswered) where
    drain_lasts : draining s.phase ≡ true → Lasts s h ack (drained (answered s))
    unfolding drained
    drain_lasts d = by_test (Lasts s h ack) (eqb (s.unanswered - 1) 0) (λ t. rw (sym (nak_seen bound s h i w u) ∙ d)) (λ t. rw (sym (nak_seen bound s h i w u) ∙ d))

    run_lasts : draining s.phase ≡ false → Lasts s h ack (cond (eqb (s.unanswered - 1) 0) (settled (answered s)) (say (Ok Answer.Ok) (answered s)))
    unfolding settled
    run_lasts d =
        let calm = sym (nak_seen bound s h i w u) ∙ d in
        by_test (Lasts s h ack) (eqb (s.unanswered - 1) 0)
        (λ t. by_test (Lasts s h ack) (all_sent s)
        (λ q. rw (calm, sym (due_is bound s h i w u some) ∙ t, sym (whole_is bound s h i w u some) ∙ q))
        (λ q. rw (calm, sym (due_is bound s h i w u some) ∙ t, sym (whole_is bound s h i w u some) ∙ q) u))
        (λ t. rw (calm, sym (due_is bound s h i w u some) ∙ t) u)

    ack_lasts : Lasts s h ack (acked (answered s))
    unfolding acked
    ack_lasts = by_test (Lasts s h ack) (draining s.phase) drain_lasts run_lasts

    nak_lasts : Lasts s h nak (nacked (answered s))
    unfolding nacked drained
    nak_lasts =
        by_test (Lasts s h nak) (leb s.resends s.used) (λ q. rw (sym (spent_is bound s h i w u) ∙ q))
        (λ q. by_test (Lasts s h nak) (eqb (s.unanswered - 1) 0) (λ t. rw (sym (spent_is bound s h i w u) ∙ q)) (λ t. rw (sym (spent_is bound s h i w u) ∙ q)))

    -- TIMEOUT and LOST alike
    drop_lasts : (c : Call) → underway (asked_of s) (entry_of c (next_frame s) ∷ h) ≡ not (spent (asked_of s) h) → Lasts s h c (dropped s)
    unfolding dropped
    drop_lasts c e =
        by_test (Lasts s h c) (leb s.resends s.used) (λ q. sym (e ∙ ap not (sym (spent_is bound s h i w u) ∙ q))) (λ q. sym (e ∙ ap not (sym (spent_is bound s h i w u) ∙ q)))

  answers : (c : Call) (a : Stepped) → (unfinished s.phase ≡ true → 0 < s.unanswered → Lasts s h c a) → Lasts s h c (refuse (refused s) (answer_causes bound s) a)
  answers c a next = by_causes (Lasts s h c) (refused s) (λ k. l) (answer_causes bound s) a (λ off. let x = some_left s off.1.0 in next x.0 x.1)

  pub lasts : (c : Call) → Lasts s h c (step_of bound c s)
  unfolding step_of start_step frame_step ack_step nak_step drop_step end_step
  lasts (start b n m r) = by_causes (Lasts s h (start b n m r)) (refused s) (λ k. l) (start_causes bound b n m r s) (say (Ok Answer.Ok) (started b n m r)) (λ off. refl)
  lasts frame = by_causes (Lasts s h frame) (refused s) (λ k. l) (frame_causes bound s) (framed (frame_length s) s) (λ off. not-false _ off.1.0)
  lasts ack = answers ack (acked (answered s)) ack_lasts
  lasts nak = answers nak (nacked (answered s)) nak_lasts
  lasts timeout = answers timeout (dropped s) (λ u some. drop_lasts u some timeout refl)
  lasts lost = answers lost (dropped s) (λ u some. drop_lasts u some lost refl)
  lasts nexus = by_causes (Lasts s h nexus) (refused s) (λ k. l) (end_causes bound s) (ended s) (λ off. refl)
  lasts cancel = by_causes (Lasts s h cancel) (refused s) (λ k. l) (end_causes bound s) (ended s) (λ off. refl)

  -- of a state that keeps its rules
  module _ (kept : keeps_rules bound s ≡ true) where
    -- in run every byte was sent in the attempt exactly if its last frame ends at B+N
    all_sent_is : s.phase ≡ Phase.Run → unfinished s.phase ≡ true → all_sent s ≡ whole (asked_of s) h
    all_sent_is p u = by (view h).attempt refl
      where
        by : (fs : List Frame) → (view h).attempt ≡ fs → all_sent s ≡ eqb (last_end s.offset fs) (end_of s)
        by [] e =
            let begun = known.underway bound s kept u in
            let some = begun.0.0.0.0 in
            let short = (subst (λ (q : Phase). PhaseRule bound (end_of s) (frames_out s) q s) p begun.1).0 in
            let at = unsent bound s h i p e in
            ne_eqb s.read (end_of s) (λ z. absurd (omega arith)) ∙ sym (ne_eqb s.offset (end_of s) (λ z. absurd (omega arith)))
        by (f ∷ fs) e = ap (λ (x : ℕ). eqb x (end_of s)) (sym (subst (λ (m : List Frame). EndsAt m s.read) e (w.ends u)))

    pub frame_refused : (x : ℕ) → refuse number_of (frame_causes bound s) x ≡ frame_refusal bound (asked_of s) h x
    frame_refused x =
        ap (λ (t : Bool). cond (not t) 3 (cond (not (unfinished s.phase)) 6 (cond (draining s.phase) 7 (cond (all_sent s) 8 (cond (leb bound s.unanswered) 10 x))))) kept
        ∙ on_false (not (unfinished s.phase)) 6 _ (cond (view h).nak 7 (cond (whole (asked_of s) h) 8 (cond (leb bound (length (view h).waiting)) 10 x)))
        (λ off. let u = not-false (unfinished s.phase) off in
        on_false (draining s.phase) 7 _ (cond (whole (asked_of s) h) 8 (cond (leb bound (length (view h).waiting)) 10 x))
        (λ d. λ j. cond (all_sent_is (run_phase s.phase u d) u j) 8 (cond (leb bound (sym (count bound s h i (work s.phase u)) j)) 10 x))
        ∙ (λ j. cond (nak_seen bound s h i w u j) 7 (cond (whole (asked_of s) h) 8 (cond (leb bound (length (view h).waiting)) 10 x))))
        ∙ ap (λ (t : Bool). cond (not t) 6 (cond (view h).nak 7 (cond (whole (asked_of s) h) 8 (cond (leb bound (length (view h).waiting)) 10 x)))) l

    answer_refused : refuse number_of (answer_causes bound s) 0 ≡ answer_refusal (asked_of s) h
    answer_refused = ap (λ (t : Bool). cond (not t) 3 (cond (not (unfinished s.phase) || eqb s.unanswered 0) 6 0)) kept ∙ by (unfinished s.phase) refl
      where
        by : (t : Bool) → unfinished s.phase ≡ t → cond (not (unfinished s.phase) || eqb s.unanswered 0) 6 0 ≡ answer_refusal (asked_of s) h
        by true u = rw (u, sym l ∙ u) (ap (λ (n : ℕ). cond (eqb n 0) 6 0) (sym (count bound s h i (work s.phase u))))
        by false u = rw (u, sym l ∙ u)

    end_refused : refuse number_of (end_causes bound s) 0 ≡ end_refusal (asked_of s) h
    end_refused = rw (kept, l)

    start_refused : (b n m r : ℕ) → refuse number_of (start_causes bound b n m r s) 0 ≡ refusal_by bound (asked_of s) h (start b n m r)
    start_refused b n m r = rw (kept, l) (by (in_range b n m r))
      where
        by : (t : Bool) → ◌≡◌ {A = ℕ} (cond (not t || false) 3 (cond (underway (asked_of s) h) 6 0)) (cond (not t) 3 (cond (underway (asked_of s) h) 6 0))
        by true = refl
        by false = refl

    causes_refuse : (c : Call) → refuse number_of (causes_of bound c s) 0 ≡ refusal_by bound (asked_of s) h c
    unfolding causes_of
    causes_refuse (start b n m r) = start_refused b n m r
    causes_refuse frame = frame_refused 0
    causes_refuse ack = answer_refused
    causes_refuse nak = answer_refused
    causes_refuse timeout = answer_refused
    causes_refuse lost = answer_refused
    causes_refuse nexus = end_refused
    causes_refuse cancel = end_refused

    -- the number that a call answers is the history's
    pub refuses : (c : Call) → refusal_of (step_of bound c s).answer ≡ refusal_by bound (asked_of s) h c
    refuses c =
        ap (λ (st : Stepped). refusal_of st.answer) (step_is bound c s)
        ∙ through (λ (st : Stepped). refusal_of st.answer) (refused s) (causes_of bound c s) (goes_on c s)
        ∙ ap (refuse number_of (causes_of bound c s)) (none (goes_on c s).answer (taken c s))
        ∙ causes_refuse c

-- over any calls from the state before START
all_last : (bound : ℕ) (cs : List Call) (s : Transfer) (h : List Entry) → Inv bound s (view h) → Tally s h → Lives s h → Lives (run bound cs s) (history bound cs s h)
all_last bound [] s h i w l = l
all_last bound (c ∷ cs) s h i w l =
    all_last bound cs (step_of bound c s).state (entries_of bound c s ++ h) (keeps bound s h i c) (tallies bound s h i w c) (lasts bound s h i w l c)

pub lived : (bound : ℕ) (cs : List Call) → Lives (run bound cs unstarted) (history bound cs unstarted [])
lived bound cs = all_last bound cs unstarted [] (at_first bound) at_start refl
