-- Numbers that C lends are those that some calls gave back exactly if they say a reply that passes the exact test: what is shown is read back, each of the
-- reply's own calls is one of C's, and numbers that aren't formed say a reply that breaks its rules. Assumes nothing.
use Prim.Native.Nat.{◌≤◌}
use mathlib.Core.Bool.{Bool, true, false, not, cond, ◌&&◌}
use mathlib.Core.List.{List, [], ◌∷◌, map}
use mathlib.Core.Logic.{inl, inr, ◌↔◌}
use mathlib.Core.Path.{◌≡◌, refl, sym, ap, subst, ◌∙◌}
use native.Mathlib.Omega.{arith}
use lib.ListN.{replicate}
use borrow.Author.Tests.{lt-ltb}
use lib.Dec.{ltb}
use Rattle.laws.proofs.Names.{flag_back}
use Rattle.refusals.specs.Causes.{refuse}
use Rattle.refusals.specs.declared.Refusal.{Refusal}
use Rattle.reply.specs.Rules.{unstarted, keeps_rules}
use Rattle.reply.specs.Steps.{refused, responded, retransmit_of}
use Rattle.reply.specs.Calls as plainly
use Rattle.reply.specs.Calls.{causes_of}
use Rattle.reply.specs.declared.Phase.{Phase}
use Rattle.reply.specs.declared.Reply.{Reply}
use Rattle.reply.specs.declared.Stepped.{Stepped}
use Rattle.reply.proofs.Exact.{exact}
use Rattle.reply.proofs.Facts.{PhaseRule, rules_say}
use Rattle.reply.proofs.Stuck.{unstuck}
use Rattle.take.specs.Respond.{respond_step}
use Rattle.take_history.specs.Replies as machine
use Rattle.take_history.proofs.Replies.{all_rules}
use Rattle.reply_lent.specs.Numbers.{phase_number, answer_number}
use Rattle.reply_lent.specs.Lent.{formed, excess, state_of, shown}
use Rattle.reply_lent.specs.Face.{Call, start, ack, nak, timeout, lost, nexus, cancel, respond, call_of}
use Rattle.reply_lent.specs.History.{zeros, run, Reached, Finishes}
use Rattle.reply_lent.specs.Demand.{Unfinished}
use Rattle.reply_lent.specs.declared.State.{State}
use Rattle.reply_lent.specs.declared.Step.{Step}
use Rattle.reply_lent.proofs.Members.{shown_back, formed_back}
use Rattle.reply_lent.proofs.Runs.{step_shown, run_shown}
use Rattle.reply_lent.proofs.Demand.{unfinished_shown}

-- ---- the reply's own calls are C's

-- RESPONSE without data, with room for its frame
abbrev by_c : plainly.Call → Call
by_c (plainly.Call.start r) = start r
by_c plainly.Call.respond = respond 0 0 0 0 0 [] (replicate 48 0)
by_c plainly.Call.ack = ack
by_c plainly.Call.nak = nak
by_c plainly.Call.timeout = timeout
by_c plainly.Call.lost = lost
by_c plainly.Call.nexus = nexus
by_c plainly.Call.cancel = cancel

-- it is refused by the reply alone: retransmit is 0 or 1
own_step : (c : plainly.Call) (t : Reply) → machine.step_of (call_of (by_c c)) t ≡ plainly.step_of c t
unfolding respond_step
own_step (plainly.Call.start r) t = refl
own_step plainly.Call.respond t =
    ap (λ (b : Bool). cond (not (b && true)) (refused t Refusal.Unlisted) (refuse (refused t) (causes_of plainly.Call.respond t) (responded t)))
    (lt-ltb (retransmit_of t) 2 (flag_back (ltb 0 t.used)).0)
own_step plainly.Call.ack t = refl
own_step plainly.Call.nak t = refl
own_step plainly.Call.timeout t = refl
own_step plainly.Call.lost t = refl
own_step plainly.Call.nexus t = refl
own_step plainly.Call.cancel t = refl

own_run : (cs : List plainly.Call) (t : Reply) → run (map by_c cs) (shown t) ≡ shown (plainly.run cs t)
own_run [] t = refl
own_run (c ∷ cs) t =
    ap (λ (r : Step). run (map by_c cs) r.state) (step_shown (by_c c) t)
    ∙ ap (λ (st : Stepped). run (map by_c cs) (shown st.state)) (own_step c t)
    ∙ own_run cs (plainly.step_of c t).state

reached_shown : (t : Reply) → plainly.Reachable t → Reached (shown t)
reached_shown t (inl e) = inl (ap shown e)
reached_shown t (inr l) =
    let started = step_shown (start l.r) unstarted in
    inr
    (record {
      r = l.r;
      taken = ap (λ (q : Step). q.answer) started ∙ ap answer_number l.taken;
      calls = map by_c l.calls;
      leave =
          ap (λ (q : Step). run (map by_c l.calls) q.state) started
          ∙ own_run l.calls (plainly.step_of (plainly.Call.start l.r) unstarted).state
          ∙ ap shown l.leave;
    })

-- ---- which numbers calls give back

abbrev Kept : State → Type 0
Kept s = keeps_rules (state_of s) ≡ true

run_kept : (cs : List Call) → Kept (run cs zeros)
run_kept cs =
    let t = machine.run (map call_of cs) unstarted in
    subst Kept (sym (run_shown cs unstarted)) (ap keeps_rules (shown_back t) ∙ all_rules (map call_of cs))

pub reached_kept : (s : State) → Reached s → Kept s
reached_kept s (inl e) = subst Kept (sym e) (run_kept [])
reached_kept s (inr l) = subst Kept l.leave (run_kept (start l.r ∷ l.calls))

-- R is 255 at most in every reply that keeps its rules
few_resends : (p : Phase) (t : Reply) → PhaseRule p t → t.resends ≤ 255
few_resends Phase.New t h = let none = h.0 in omega arith
few_resends Phase.Ask t h = h.0
few_resends Phase.Wait t h = h.0
few_resends Phase.Done t h = h.0
few_resends Phase.Fail t h = h.0.0
few_resends Phase.End t h = h.0

kept_formed : (s : State) → Kept s → formed s ≡ true
kept_formed s e = by (formed s) refl
  where
    by : (t : Bool) → formed s ≡ t → formed s ≡ true
    by true on = on
    by false off =
        let few = few_resends (state_of s).phase (state_of s) ((rules_say (state_of s)).0 e) in
        let all : (state_of s).resends ≡ excess = ap (λ (t : Bool). cond t s.resends excess) off in
        absurd (omega (arith, few, all))

kept_shown : (s : State) → Kept s → shown (state_of s) ≡ s
kept_shown s e = formed_back s (kept_formed s e)

-- the test of the reply that the numbers say is exact: they are all zeros, or some START and calls after it gave them back
pub exact_seen : (s : State) → (keeps_rules (state_of s) ≡ true) ↔ Reached s
exact_seen s = (λ e. subst Reached (kept_shown s e) (reached_shown (state_of s) ((exact (state_of s)).0 e)), reached_kept s)

-- from every state that calls leave unfinished some calls of C reach done
pub unstuck_seen : (s : State) → Reached s → Unfinished s → Finishes s
unstuck_seen s r u =
    let kept = reached_kept s r in
    let t = state_of s in
    let same = kept_shown s kept in
    let f = unstuck t kept ((unfinished_shown t).1 (subst Unfinished (sym same) u)) in (
      map by_c f.0,
      ap (λ (q : State). (run (map by_c f.0) q).phase) (sym same) ∙ ap (λ (q : State). q.phase) (own_run f.0 t) ∙ ap phase_number f.1,
    )
