-- Demand 3 follows from what every call keeps: of the state and its history, and of one call more. Assumes nothing.
use Rattle.refusals.specs.declared.Refusal.{Refusal}
use Rattle.std.specs.Prelude.{Err, Ok, Result}
use Prim.Native.Nat.{ℕ, ◌-◌, ◌≤◌, ◌<◌}
use mathlib.Core.Bool.{Bool, true, false, not, ◌&&◌}
use mathlib.Core.List.{List, [], ◌∷◌, ◌++◌}
use mathlib.Core.Path.{◌≡◌, refl, sym, ap, subst, ◌∙◌}
use native.Mathlib.Omega.{arith}
use lib.Dec.{ltb, leb, eqb}
use lib.ListN.{length}
use borrow.Author.Tests.{not-false}
use Rattle.laws.proofs.Bools.{never, by_test, impossible}
use Rattle.transfer.specs.Rules.{end_of, unstarted}
use Rattle.transfer.specs.Steps.{unfinished, draining, started, frame_length, framed, answered, all_sent, settled, drained, acked, nacked, dropped}
use Rattle.transfer.specs.Steps.{ended, refused, say, start_causes, frame_causes, answer_causes, end_causes, start_step, frame_step, ack_step, nak_step}
use Rattle.transfer.specs.Steps.{drop_step, end_step}
use Rattle.transfer.specs.Calls.{Call, start, frame, ack, nak, timeout, lost, nexus, cancel, step_of, run}
use Rattle.transfer.specs.History.{Frame, Entry, sent, entry_of, is_refused, entries, view, first_resent, Covered}
use Rattle.transfer.specs.Log.{next_frame, entries_of, history}
use Rattle.transfer.specs.Demand.{Demand3}
use Rattle.transfer.specs.declared.Transfer.{Transfer}
use Rattle.transfer.specs.declared.Stepped.{Stepped}
use Rattle.transfer.specs.declared.Answer.{Answer}
use Rattle.transfer.specs.declared.Phase.{Phase}
use Rattle.refusals.proofs.Causes.{by_causes}
use Rattle.transfer.proofs.Calls.{run_phase, work}
use Rattle.transfer.proofs.Invariant.{Inv, Live, Over, Settled, onto, onto_length, running, settled_now, count}
use Rattle.transfer.proofs.Balance.{keeps, all_keep, at_first}

abbrev pub is_done : Result Answer Refusal → Bool
is_done (Ok Answer.Ok) = false
is_done (Ok Answer.Sent) = false
is_done (Ok Answer.Drain) = false
is_done (Ok Answer.Retry) = false
is_done (Ok Answer.Done) = true
is_done (Ok Answer.Fail) = false
is_done (Ok Answer.End) = false
is_done (Err k) = false

-- "delivered" leaves the transfer done, its request as it was
pub record Done (s t : Transfer) : Type 0 where
  pub phase : t.phase ≡ Phase.Done
  pub offset : t.offset ≡ s.offset
  pub end : end_of t ≡ end_of s

abbrev pub Says : Transfer → Stepped → Type 0
Says s st = is_done st.answer ≡ true → Done s st.state

module _ (bound : ℕ) (s : Transfer) where
  says_drain : Says s (drained (answered s))
  unfolding drained
  says_drain = by_test (Says s) (eqb (s.unanswered - 1) 0) (λ t. impossible) (λ t. impossible)

  says_ack : Says s (acked (answered s))
  unfolding acked settled
  says_ack =
      by_test (Says s) (draining s.phase) (λ d. says_drain)
      (λ d. by_test (Says s) (eqb (s.unanswered - 1) 0)
      (λ t. by_test (Says s) (all_sent s) (λ q e. record { phase = refl; offset = refl; end = refl }) (λ q. impossible)) (λ t. impossible))

  says_nak : Says s (nacked (answered s))
  unfolding nacked
  says_nak = by_test (Says s) (leb s.resends s.used) (λ t. impossible) (λ t. says_drain)

  says_drop : Says s (dropped s)
  unfolding dropped
  says_drop = by_test (Says s) (leb s.resends s.used) (λ t. impossible) (λ t. impossible)

  says : (c : Call) → Says s (step_of bound c s)
  unfolding step_of start_step frame_step ack_step nak_step drop_step end_step
  says (start b n m r) = by_causes (Says s) (refused s) (λ k. impossible) (start_causes bound b n m r s) (say (Ok Answer.Ok) (started b n m r)) (λ off. impossible)
  says frame = by_causes (Says s) (refused s) (λ k. impossible) (frame_causes bound s) (framed (frame_length s) s) (λ off. impossible)
  says ack = by_causes (Says s) (refused s) (λ k. impossible) (answer_causes bound s) (acked (answered s)) (λ off. says_ack)
  says nak = by_causes (Says s) (refused s) (λ k. impossible) (answer_causes bound s) (nacked (answered s)) (λ off. says_nak)
  says timeout = by_causes (Says s) (refused s) (λ k. impossible) (answer_causes bound s) (dropped s) (λ off. says_drop)
  says lost = by_causes (Says s) (refused s) (λ k. impossible) (answer_causes bound s) (dropped s) (λ off. says_drop)
  says nexus = by_causes (Says s) (refused s) (λ k. impossible) (end_causes bound s) (ended s) (λ off. impossible)
  says cancel = by_causes (Says s) (refused s) (λ k. impossible) (end_causes bound s) (ended s) (λ off. impossible)

-- a frame that a call adds to the history went in run, at the read offset
abbrev pub Goes : Transfer → List Entry → Type 0
Goes s es = (f : Frame) → es ≡ sent f ∷ [] → (s.phase ≡ Phase.Run) × (f.at ≡ s.read)

pub apart : ◌≡◌ {A = ℕ} 0 1 → ⊥
apart z = omega arith

nothing_goes : (s : Transfer) → Goes s []
nothing_goes s f e = absurd (apart (cc))

-- a call that is no frame call adds none
no_frame_goes : (s : Transfer) (c : Call) (a : Result Answer Refusal) → ((f : Frame) → entry_of c (next_frame s) ≡ sent f → ⊥) → Goes s (entries c (next_frame s) a)
no_frame_goes s c a off = by_test (Goes s) (is_refused a) (λ _. nothing_goes s) (λ _ f e. absurd (off f (cc)))

module _ (bound : ℕ) (s : Transfer) where
  frame_goes : Goes s (entries_of bound frame s)
  unfolding step_of frame_step
  frame_goes =
      by_causes (λ (st : Stepped). Goes s (entries frame (next_frame s) st.answer)) (refused s) (λ k. nothing_goes s) (frame_causes bound s) (framed (frame_length s) s)
      (λ off f e. (run_phase s.phase (not-false _ off.1.0) off.1.1.0, (cc)))

  pub goes : (c : Call) → Goes s (entries_of bound c s)
  goes (start b n m r) = no_frame_goes s (start b n m r) (step_of bound (start b n m r) s).answer (λ f e. apart (cc))
  goes frame = frame_goes
  goes ack = no_frame_goes s ack (step_of bound ack s).answer (λ f e. apart (cc))
  goes nak = no_frame_goes s nak (step_of bound nak s).answer (λ f e. apart (cc))
  goes timeout = no_frame_goes s timeout (step_of bound timeout s).answer (λ f e. apart (cc))
  goes lost = no_frame_goes s lost (step_of bound lost s).answer (λ f e. apart (cc))
  goes nexus = no_frame_goes s nexus (step_of bound nexus s).answer (λ f e. apart (cc))
  goes cancel = no_frame_goes s cancel (step_of bound cancel s).answer (λ f e. apart (cc))

-- what is over, by its phase
module _ (s : Transfer) (h : List Entry) where
  live_over : (p : Phase) → unfinished p ≡ false → Live p s (view h) → Over s (view h)
  live_over Phase.New e l = l
  live_over Phase.Run e l = absurd (never (sym e))
  live_over Phase.Drain e l = absurd (never (sym e))
  live_over Phase.Done e l = l.over
  live_over Phase.Fail e l = l
  live_over Phase.End e l = l

module _ (bound : ℕ) (s : Transfer) (h : List Entry) (i : Inv bound s (view h)) where
  settles : (t : Bool) → unfinished s.phase ≡ t → Settled s (view h)
  settles true u = settled_now bound s h i (work s.phase u)
  settles false u = (live_over s h s.phase u i.live).last

  -- with no frame sent in the attempt the read offset is the balance point
  pub unsent : s.phase ≡ Phase.Run → (view h).attempt ≡ [] → s.read ≡ s.balance
  unsent p none =
      let r = running bound s (view h) i p in
      let l = onto_length (view h).waiting (view h).good in
      let j : 0 ≡ length (onto (view h).waiting (view h).good) = ap length (sym none ∙ r.joined) in
      let c = r.count in
      r.idle (omega arith)

  -- a frame that goes now is the first of a resend exactly if a resend was used and no frame sent
  pub first_again : s.phase ≡ Phase.Run → (ltb 0 s.used && not s.sent) ≡ first_resent (view h)
  first_again p = let r = running bound s (view h) i p in λ j. r.again j && r.begun j

  all_acked : s.phase ≡ Phase.Run → s.unanswered ≡ 0 → (view h).good ≡ (view h).attempt
  all_acked p z =
      let r = running bound s (view h) i p in
      sym (r.joined ∙ none_wait (view h).waiting (r.count ∙ z))
    where
      none_wait : (w : List Frame) → length w ≡ 0 → onto w (view h).good ≡ (view h).good
      none_wait [] e = refl
      none_wait (f ∷ w) e = absurd (omega arith)

  -- done after this step: every requested byte is sure
  all_sure : (t : Transfer) (es : List Entry) → Inv bound t (view (es ++ h)) → Done s t → (x : ℕ) → s.offset ≤ x → x < end_of s
      → Covered x (view (es ++ h)).acked
  all_sure t es j d x l u =
      let all = (subst (λ (p : Phase). Live p t (view (es ++ h))) d.phase j.live).all in
      let o = d.offset in
      let e = d.end in
      j.sure x (omega arith) (omega arith)

  -- of any call that adds es to the history, keeps the invariant, and says "delivered" only when done
  pub demand_of : (es : List Entry) (next : Stepped) → Goes s es → Says s next → Inv bound next.state (view (es ++ h)) → Demand3 bound s h es next
  demand_of es next goes says j =
      record {
        within = (i.first, i.last);
        sure = i.sure;
        resend = λ f e none. let g = goes f e in g.1 ∙ unsent g.0 none;
        settled = settles (unfinished s.phase) refl;
        delivered = λ e. all_sure next.state es j (says (ap is_done e));
        few = i.few;
        counted = λ u. sym (count bound s h i (work s.phase u));
        over = λ u. (live_over s h s.phase u i.live).none;
        all_acked = all_acked;
        all_done = λ p. (subst (λ (q : Phase). Live q s (view h)) p i.live).same;
      }

  pub demand : (c : Call) → Demand3 bound s h (entries_of bound c s) (step_of bound c s)
  demand c = demand_of (entries_of bound c s) (step_of bound c s) (goes bound s c) (says bound s c) (keeps bound s h i c)

-- DEMAND 3, over any calls from the state before START, and one call more
pub demand_3 : (bound : ℕ) (cs : List Call) (c : Call) →
    let s = run bound cs unstarted in
    let h = history bound cs unstarted [] in
    Demand3 bound s h (entries_of bound c s) (step_of bound c s)
demand_3 bound cs c = demand bound _ _ (all_keep bound cs unstarted [] (at_first bound)) c

-- the same of a transfer that was saved after some calls and is taken back, with any calls after that
pub demand_3_saved : (bound : ℕ) (cs ds : List Call) (c : Call) (saved : Transfer) → run bound cs unstarted ≡ saved →
    let s = run bound ds saved in
    let h = history bound ds saved (history bound cs unstarted []) in
    Demand3 bound s h (entries_of bound c s) (step_of bound c s)
demand_3_saved bound cs ds c saved e =
    demand bound _ _ (all_keep bound ds saved _ (subst (λ (t : Transfer). Inv bound t (view (history bound cs unstarted []))) e (all_keep bound cs unstarted [] (at_first bound)))) c
