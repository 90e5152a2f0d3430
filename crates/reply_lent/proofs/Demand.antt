-- What is asked of a reply is said of the numbers by which the reply is shown. Assumes nothing.
use Rattle.refusals.specs.declared.Refusal.{Refusal}
use Rattle.std.specs.Prelude.{Err, Ok, Result}
use Prim.Native.Nat.{ℕ}
use mathlib.Core.Bool.{Bool, false, cond}
use mathlib.Core.List.{List, [], ◌∷◌, ◌++◌, map}
use mathlib.Core.Logic.{◌↔◌, inl, inr}
use mathlib.Core.Path.{◌≡◌, refl, sym, ap, transport⁻¹, ◌∙◌}
use lib.ListN.{length, take}
use Rattle.refusals.specs.Refusals.{number_of}
use Rattle.laws.specs.Tests.{Says}
use Rattle.laws.proofs.Tests.{means}
use Rattle.ssp_frame.specs.Response.{response_end}
use Rattle.reply.specs.Rules.{unstarted}
use Rattle.reply.specs.Steps.{unfinished}
use Rattle.reply.specs.Demand.{Replies}
use Rattle.reply.specs.Grounds as grounds
use Rattle.reply.specs.History.{EntryOf, sent, Went, view}
use Rattle.reply.specs.Words.{refusal_of}
use Rattle.reply.specs.declared.Answer.{Answer}
use Rattle.reply.specs.declared.Phase.{Phase}
use Rattle.reply.specs.declared.Reply.{Reply}
use Rattle.reply.specs.declared.Stepped.{Stepped}
use Rattle.reply.proofs.Facts.{unfinished_says}
use Rattle.take_history.specs.Replies as machine
use Rattle.take_history.specs.Replies.{Response, Entry, bit_of, Carries, SameBytes, refusal_by}
use Rattle.take_history.proofs.Replies.{demand_bytes, carries_by, refused_bytes}
use Rattle.take_history.proofs.SameReplies as bytes
use Rattle.reply_lent.specs.Numbers.{phase_number, answer_number}
use Rattle.reply_lent.specs.Lent.{state_of, shown, told, is_refusal}
use Rattle.reply_lent.specs.Face.{Call, respond, call_of, face_of, bytes_of}
use Rattle.reply_lent.specs.History.{zeros, run, Typed, AllTyped, refusal_in, entries_of, history}
use Rattle.reply_lent.specs.Demand.{Unfinished, RepliesSeen}
use Rattle.reply_lent.specs.declared.State.{State}
use Rattle.reply_lent.specs.declared.Step.{Step}
use Rattle.reply_lent.proofs.Trips.{one_phase, one_answer}
use Rattle.reply_lent.proofs.Runs.{step_shown, run_shown, refusal_told, entries_shown, history_shown}

-- Ask and Wait are told by their numbers
pub unfinished_shown : (t : Reply) → Says (unfinished t.phase) (Unfinished (shown t))
unfinished_shown t = means (unfinished_says t.phase) (there, back)
  where
    there : grounds.Unfinished t.phase → Unfinished (shown t)
    there (inl e) = inl (ap phase_number e)
    there (inr e) = inr (ap phase_number e)

    back : Unfinished (shown t) → grounds.Unfinished t.phase
    back (inl e) = inl (one_phase t.phase Phase.Ask e)
    back (inr e) = inr (one_phase t.phase Phase.Wait e)

-- an answer is told by its number
told_is : (a b : Result Answer Refusal) {P : Type 0} → (a ≡ b) ↔ P → (answer_number a ≡ answer_number b) ↔ P
told_is a b is = (λ e. is.0 (one_answer a b e), λ p. ap answer_number (is.1 p))

pub demand_shown : {F : Type 0} (bit : F → ℕ) (t : Reply) (h es : List (EntryOf F)) (st : Stepped)
    → Replies bit t h es st → RepliesSeen bit (shown t) h es (told st)
demand_shown bit t h es st d =
    let said = unfinished_shown t in
    record {
      delivered = λ e. d.delivered (one_answer st.answer (Ok Answer.Done) e);
      sure = λ e. d.sure (one_phase t.phase Phase.Done e);
      retransmit = d.retransmit;
      goes = d.goes;
      few = d.few;
      awaited = d.awaited;
      asked = d.asked;
      used = λ u. d.used (said.1 u);
      fails = told_is st.answer (Ok Answer.Fail) d.fails;
      lives = (λ u. sym d.lives ∙ said.1 u, λ e. said.0 (d.lives ∙ e));
      word = λ e q. ap answer_number (d.word e q);
    }

refusal_is : (a : Result Answer Refusal) → refusal_in (answer_number a) ≡ refusal_of a
refusal_is (Ok Answer.Ok) = refl
refusal_is (Ok Answer.Sent) = refl
refusal_is (Ok Answer.Retry) = refl
refusal_is (Ok Answer.Done) = refl
refusal_is (Ok Answer.Fail) = refl
refusal_is (Ok Answer.End) = refl
refusal_is (Err k) = ap (λ (t : Bool). cond t (number_of k) 0) (refusal_told (Err k))

all_typed : (cs : List Call) → AllTyped cs → machine.AllTyped (map call_of cs)
all_typed [] typed = tt
all_typed (c ∷ cs) typed = (typed.0, all_typed cs typed.1)

-- over any calls of C from all zeros, and one call more, refused ones and later STARTs among them
module _ (cs : List Call) (c : Call) where
  abbrev s : State
  s = run cs zeros

  abbrev before : Reply
  before = machine.run (map call_of cs) unstarted

  state_is : s ≡ shown before
  state_is = run_shown cs unstarted

  past_is : history cs zeros [] ≡ machine.history (map call_of cs) unstarted []
  past_is = history_shown cs unstarted []

  added_is : entries_of c s ≡ machine.entries_of (call_of c) before
  added_is = ap (entries_of c) state_is ∙ entries_shown c before

  answer_is : face_of c s ≡ told (machine.step_of (call_of c) before)
  answer_is = ap (face_of c) state_is ∙ step_shown c before

  pub demand_seen : Typed c → RepliesSeen bit_of s (history cs zeros []) (entries_of c s) (face_of c s)
  demand_seen typed =
      transport⁻¹ (λ i. RepliesSeen bit_of (state_is i) (past_is i) (added_is i) (answer_is i))
      (demand_shown bit_of before (machine.history (map call_of cs) unstarted []) (machine.entries_of (call_of c) before) (machine.step_of (call_of c) before)
      (demand_bytes (map call_of cs) (call_of c) typed))

  -- the number of each refusal is the history's
  pub refused_seen : refusal_in (face_of c s).answer ≡ refusal_by (history cs zeros []) (call_of c)
  refused_seen =
      ap (λ (q : Step). refusal_in q.answer) answer_is
      ∙ refusal_is (machine.step_of (call_of c) before).answer
      ∙ refused_bytes (map call_of cs) (call_of c)
      ∙ ap (λ (h : List Entry). refusal_by h (call_of c)) (sym past_is)

  -- and the bytes of a RESPONSE beside those of any that went before it since START
  pub same_seen : AllTyped cs → Typed c → (x : Response) → entries_of c s ≡ sent x ∷ []
      → (newer older : List (Went Response)) (w : Went Response) → view (history cs zeros []) ≡ newer ++ (w ∷ older) → SameBytes x.bytes w.response.bytes
  same_seen typed one x es newer older w is =
      bytes.same (map call_of cs) (call_of c) (all_typed cs typed) one x (sym added_is ∙ es) newer older w (ap view (sym past_is) ∙ is)

-- in the bytes that a respond call wrote the RESPONSE reader finds what the call was given
pub carries_seen : (s : State) (destination source tag present status : ℕ) (body out : List ℕ) → let c = respond destination source tag present status body out in
    Typed c → is_refusal (face_of c s).answer ≡ false
    → Carries (take (response_end (length body)) (bytes_of destination source tag present status body out s)) destination source tag present status body
carries_seen s destination source tag present status body out typed went =
    let c = respond destination source tag present status body out in
    carries_by (state_of s) destination source tag present status body out typed (sym (refusal_told (machine.step_of (call_of c) (state_of s)).answer) ∙ went)
