-- C's calls are the reply's calls on what is shown: a state that was shown is read back as it was, and a refusal leaves it, so each call gives back the
-- next one shown, and its answer, its bytes and its entry say the same. Assumes nothing.
use Rattle.refusals.specs.declared.Refusal.{Refusal}
use Rattle.std.specs.Prelude.{Err, Ok, Result}
use mathlib.Core.Bool.{true, cond}
use mathlib.Core.List.{List, [], ◌∷◌, ◌++◌, map}
use mathlib.Core.Path.{◌≡◌, refl, sym, ap, ◌∙◌}
use lib.ListN.{length, take}
use Rattle.laws.proofs.Bools.{by_test}
use Rattle.ssp_frame.specs.Response.{response_end}
use Rattle.reply.specs.History.{is_refused, sent}
use Rattle.reply.specs.History as entry
use Rattle.reply.specs.declared.Answer.{Answer}
use Rattle.reply.specs.declared.Reply.{Reply}
use Rattle.reply.specs.declared.Stepped.{Stepped}
use Rattle.take.specs.Respond.{response_head, respond_bytes}
use Rattle.take_history.specs.Replies as machine
use Rattle.take_history.specs.Replies.{Entry, response_in}
use Rattle.take_history.proofs.Replies.{kept}
use Rattle.reply_lent.specs.Numbers.{answer_number}
use Rattle.reply_lent.specs.Lent.{shown, told, is_refusal, seen}
use Rattle.reply_lent.specs.Face.{Call, start, ack, nak, timeout, lost, nexus, cancel, respond, call_of, face_of}
use Rattle.reply_lent.specs.History.{run, entry_of, entries_of, history}
use Rattle.reply_lent.specs.declared.State.{State}
use Rattle.reply_lent.specs.declared.Step.{Step}
use Rattle.reply_lent.proofs.Told.{within}
use Rattle.reply_lent.proofs.Members.{shown_back}

-- a refusal is told by its number
pub refusal_told : (a : Result Answer Refusal) → is_refusal (answer_number a) ≡ is_refused a
refusal_told (Ok Answer.Ok) = refl
refusal_told (Ok Answer.Sent) = refl
refusal_told (Ok Answer.Retry) = refl
refusal_told (Ok Answer.Done) = refl
refusal_told (Ok Answer.Fail) = refl
refusal_told (Ok Answer.End) = refl
refusal_told (Err k) = within k

-- ---- the state

-- what is seen of a step that leaves the reply where it is refused, by who lent what was shown, is what is told of it
seen_told : (t : Reply) (r : Stepped) → (is_refused r.answer ≡ true → r.state ≡ t) → seen (shown t) r ≡ told r
seen_told t r stays =
    λ i.
    record {
      state =
          by_test (λ (s : State). s ≡ shown r.state) (is_refusal (answer_number r.answer))
          (λ on. ap shown (sym (stays (sym (refusal_told r.answer) ∙ on)))) (λ off. refl) i;
      answer = answer_number r.answer;
    }

pub step_shown : (c : Call) (t : Reply) → face_of c (shown t) ≡ told (machine.step_of (call_of c) t)
step_shown c t =
    ap (λ (u : Reply). seen (shown t) (machine.step_of (call_of c) u)) (shown_back t) ∙ seen_told t (machine.step_of (call_of c) t) (kept (call_of c) t)

pub run_shown : (cs : List Call) (t : Reply) → run cs (shown t) ≡ shown (machine.run (map call_of cs) t)
run_shown [] t = refl
run_shown (c ∷ cs) t = ap (λ (r : Step). run cs r.state) (step_shown c t) ∙ run_shown cs (machine.step_of (call_of c) t).state

-- ---- the history

entry_shown : (c : Call) (t : Reply) → entry_of c (shown t) ≡ entry.entry_of (machine.plain_of (call_of c)) (machine.response_by (call_of c) t)
entry_shown (start r) t = refl
entry_shown ack t = refl
entry_shown nak t = refl
entry_shown timeout t = refl
entry_shown lost t = refl
entry_shown nexus t = refl
entry_shown cancel t = refl
entry_shown (respond destination source tag present status body out) t =
    ap (λ (u : Reply). sent (response_in (take (response_end (length body)) (respond_bytes u (response_head u destination source tag present status) body out))))
    (shown_back t)

pub entries_shown : (c : Call) (t : Reply) → entries_of c (shown t) ≡ machine.entries_of (call_of c) t
entries_shown c t =
    let told_is = ap (λ (r : Step). is_refusal r.answer) (step_shown c t) ∙ refusal_told (machine.step_of (call_of c) t).answer in
    λ i. cond (told_is i) [] (entry_shown c t i ∷ [])

pub history_shown : (cs : List Call) (t : Reply) (h : List Entry) → history cs (shown t) h ≡ machine.history (map call_of cs) t h
history_shown [] t h = refl
history_shown (c ∷ cs) t h =
    (λ i. history cs (step_shown c t i).state (entries_shown c t i ++ h))
    ∙ history_shown cs (machine.step_of (call_of c) t).state (machine.entries_of (call_of c) t ++ h)
