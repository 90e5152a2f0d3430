-- What is asked of a reply, down to the bytes: a call with bytes is refused or is the plain one, and the history that is read from the bytes has the
-- reply's own bit; so what every plain call keeps every call keeps. Assumes nothing.
use Prim.Native.Nat.{ℕ}
use mathlib.Core.Bool.{Bool, true, false, not, cond, ◌&&◌}
use mathlib.Core.List.{List, [], ◌∷◌, ◌++◌}
use mathlib.Core.Path.{◌≡◌, refl, sym, ap, subst⁻¹, ◌∙◌}
use lib.Dec.{ltb}
use lib.ListN.{length}
use borrow.Author.Tests.{lt-ltb}
use Rattle.laws.proofs.Bools.{impossible}
use Rattle.laws.proofs.Names.{flag_back}
use Rattle.refusals.specs.Causes.{refuse}
use Rattle.refusals.specs.Refusals.{number_of}
use Rattle.refusals.specs.declared.Refusal.{Refusal}
use Rattle.refusals.proofs.Causes.{through, refuse_append}
use Rattle.ssp_frame.specs.Response.{response_sized, present_listed, response_listed, write_causes}
use Rattle.reply.specs.Rules.{unstarted, keeps_rules}
use Rattle.reply.specs.Steps.{refused, responded, retransmit_of}
use Rattle.reply.specs.Calls as plainly
use Rattle.reply.specs.Calls.{causes_of}
use Rattle.reply.specs.Demand.{Replies}
use Rattle.reply.specs.History.{entries, is_refused}
use Rattle.reply.specs.Words.{refusal_of}
use Rattle.reply.specs.Words as words
use Rattle.reply.specs.declared.Reply.{Reply}
use Rattle.reply.specs.declared.Stepped.{Stepped}
use Rattle.reply.proofs.Demand.{unmoved, demand}
use Rattle.reply.proofs.Exact.{keeps_rules_lem}
use Rattle.reply.proofs.Invariant.{Inv, keeps, at_first}
use Rattle.reply.proofs.Refusals.{refused_kept}
use Rattle.reply.proofs.Words.{number_is, refuses}
use Rattle.take.specs.Respond.{response_head, respond_causes, respond_step}
use Rattle.take_history.specs.Replies.{Call, plain, respond, plain_of, step_of, run, Typed, Entry, bit_of, response_by, entries_of, history, Carries, given, refusal_by}
use Rattle.take_history.proofs.Responds as responding

-- a call is refused, or it is the plain one and sends a RESPONSE with the reply's bit
pub data Made (c : Call) (s : Reply) : Type 0 where
  stays : (k : Refusal) → step_of c s ≡ refused s k → Made c s
  goes : step_of c s ≡ plainly.step_of (plain_of c) s → (Typed c → bit_of (response_by c s) ≡ retransmit_of s) → Made c s

pub made : (c : Call) (s : Reply) → Made c s
made (plain c) s = goes refl (λ typed. refl)
made (respond destination source tag present status body out) s = by (responding.outcome s destination source tag present status body out)
  where
    by : responding.Outcome s destination source tag present status body out → Made (respond destination source tag present status body out) s
    by (responding.kept r) = stays r.why r.step
    by (responding.passed p) = goes p.step (λ typed. responding.bit_is s destination source tag present status body out typed p)

-- so a refusal leaves the reply
pub kept : (c : Call) (s : Reply) → is_refused (step_of c s).answer ≡ true → (step_of c s).state ≡ s
kept c s e = by (made c s)
  where
    by : Made c s → (step_of c s).state ≡ s
    by (stays k is) = ap (λ (st : Stepped). st.state) is
    by (goes is _) =
        ap (λ (st : Stepped). st.state) is ∙ refused_kept s (plain_of c) (ap (λ (st : Stepped). is_refused st.answer) (sym is) ∙ e)

-- ---- the demand

module _ (s : Reply) (h : List Entry) (i : Inv s h) (c : Call) where
  -- what is said of the plain call's step and of one that is refused is said of the call's
  by_made : (P : Stepped → Type 0) → ((k : Refusal) → P (refused s k)) → ((Typed c → bit_of (response_by c s) ≡ retransmit_of s) → P (plainly.step_of (plain_of c) s)) → P (step_of c s)
  by_made P refuses does = by (made c s)
    where
      by : Made c s → P (step_of c s)
      by (stays k e) = subst⁻¹ P e (refuses k)
      by (goes e is) = subst⁻¹ P e (does is)

  pub keeps_on : Inv (step_of c s).state (entries_of c s ++ h)
  keeps_on =
      by_made (λ (st : Stepped). Inv st.state (entries (plain_of c) (response_by c s) st.answer ++ h)) (λ k. i)
      (λ is. keeps s h i (plain_of c) (response_by c s))

  pub demands : Typed c → Replies bit_of s h (entries_of c s) (step_of c s)
  demands typed =
      by_made (λ (st : Stepped). Replies bit_of s h (entries (plain_of c) (response_by c s) st.answer) st) (unmoved s h i bit_of)
      (λ is. demand s h i bit_of (plain_of c) (response_by c s) (is typed))

pub all_keep : (cs : List Call) (s : Reply) (h : List Entry) → Inv s h → Inv (run cs s) (history cs s h)
all_keep [] s h i = i
all_keep (c ∷ cs) s h i = all_keep cs (step_of c s).state (entries_of c s ++ h) (keeps_on s h i c)

-- over any calls from the state before START, with bytes and without, and one call more
pub demand_bytes : (cs : List Call) (c : Call) → Typed c → let s = run cs unstarted in Replies bit_of s (history cs unstarted []) (entries_of c s) (step_of c s)
demand_bytes cs c typed = demands (run cs unstarted) (history cs unstarted []) (all_keep cs unstarted [] at_first) c typed

-- ---- the rules

-- some plain calls leave what these leave
pub plainly_run : (cs : List Call) (s : Reply) → (ds : List plainly.Call) × (plainly.run ds s ≡ run cs s)
plainly_run [] s = ([], refl)
plainly_run (c ∷ cs) s = by (made c s) (plainly_run cs (step_of c s).state)
  where
    by : Made c s → (ds : List plainly.Call) × (plainly.run ds (step_of c s).state ≡ run cs (step_of c s).state) → (ds : List plainly.Call) × (plainly.run ds s ≡ run cs (step_of c s).state)
    by (stays k e) rest = (rest.0, ap (λ (st : Stepped). plainly.run rest.0 st.state) (sym e) ∙ rest.1)
    by (goes e is) rest = (plain_of c ∷ rest.0, ap (λ (st : Stepped). plainly.run rest.0 st.state) (sym e) ∙ rest.1)

pub all_rules : (cs : List Call) → keeps_rules (run cs unstarted) ≡ true
all_rules cs = let p = plainly_run cs unstarted in ap keeps_rules (sym p.1) ∙ keeps_rules_lem p.0

-- ---- what the bytes of a RESPONSE say

pub carries_by : (s : Reply) (destination source tag present status : ℕ) (body out : List ℕ) → Typed (respond destination source tag present status body out)
    → is_refused (step_of (respond destination source tag present status body out) s).answer ≡ false
    → Carries (responding.wrote s destination source tag present status body out) destination source tag present status body
carries_by s destination source tag present status body out typed went = by (responding.outcome s destination source tag present status body out)
  where
    by : responding.Outcome s destination source tag present status body out
        → Carries (responding.wrote s destination source tag present status body out) destination source tag present status body
    by (responding.kept r) = impossible (sym went ∙ ap (λ (st : Stepped). is_refused st.answer) r.step)
    by (responding.passed p) = responding.carries s destination source tag present status body out typed p

-- ---- refusals

-- retransmit is 0 or 1, so it is the fields that the call is given that are listed or not
pub given_listed : (s : Reply) (destination source tag present status : ℕ)
    → response_listed (response_head s destination source tag present status) ≡ response_listed (given destination source tag present status)
given_listed s destination source tag present status =
    ap (λ (t : Bool). ltb destination 16777216 && (ltb source 16777216 && (t && present_listed present status)))
    (lt-ltb (retransmit_of s) 2 (flag_back (ltb 0 s.used)).0)

module _ (s : Reply) (h : List Entry) (i : Inv s h) (kept : keeps_rules s ≡ true) where
  pub refused_on : (c : Call) → refusal_of (step_of c s).answer ≡ refusal_by h c
  unfolding respond_step
  refused_on (plain c) = refuses s h i kept c
  refused_on (respond destination source tag present status body out) =
      let head = response_head s destination source tag present status in
      let before = write_causes head body out in
      let own = causes_of plainly.Call.respond s in
      through (λ (st : Stepped). refusal_of st.answer) (refused s) (respond_causes s head body out) (responded s)
      ∙ refuse_append number_of before own 0
      ∙ ap (refuse number_of before) (sym (number_is s plainly.Call.respond) ∙ refuses s h i kept plainly.Call.respond)
      ∙ ap (λ (t : Bool). cond (not (response_sized present (length body) (length out))) 1 (cond (not t) 2 (words.refusal_by h plainly.Call.respond)))
      (given_listed s destination source tag present status)

-- over any calls from the state before START
pub refused_bytes : (cs : List Call) (c : Call) → refusal_of (step_of c (run cs unstarted)).answer ≡ refusal_by (history cs unstarted []) c
refused_bytes cs c = refused_on (run cs unstarted) (history cs unstarted []) (all_keep cs unstarted [] at_first) (all_rules cs) c
