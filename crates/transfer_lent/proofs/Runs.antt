-- C's calls are the transfer's calls on what is shown: a state that was shown is read back as it was, so each call gives back the next one shown,
-- and its answer, its bytes and its frame say the same. Assumes nothing.
use Rattle.refusals.specs.declared.Refusal.{Refusal}
use Rattle.std.specs.Prelude.{Err, Ok, Result}
use Prim.Native.Nat.{ℕ}
use mathlib.Core.Bool.{Bool, false, cond}
use mathlib.Core.List.{List, [], ◌∷◌, ◌++◌, map}
use mathlib.Core.Path.{◌≡◌, refl, sym, ap, subst, ◌∙◌}
use borrow.Author.Tests.{lt-ltb}
use native.Mathlib.Omega.{arith}
use lib.ListN.{length}
use Rattle.refusals.specs.Refusals.{number_of}
use Rattle.refusals.proofs.Numbers.{range}
use Rattle.laws.proofs.Bools.{and_true, on_false}
use Rattle.transfer.specs.Steps.{limit, frame_step}
use Rattle.transfer.specs.Calls as machine
use Rattle.transfer.specs.History.{EntryOf, entry_of, is_refused}
use Rattle.transfer.specs.declared.Answer.{Answer}
use Rattle.transfer.specs.declared.Transfer.{Transfer}
use Rattle.send.specs.Send.{head_of, changing_of, next_bytes}
use Rattle.send.specs.Calls as sending
use Rattle.send.specs.Calls.{plain, plain_of}
use Rattle.send.specs.History as sent
use Rattle.transfer_lent.specs.Numbers.{answer_number}
use Rattle.transfer_lent.specs.Lent.{formed, state_of, shown, told, malformed, next_length}
use Rattle.transfer_lent.specs.Face.{Call, start, frame, ack, nak, timeout, lost, nexus, cancel, next, seen, face_of}
use Rattle.transfer_lent.specs.History.{run, is_refusal, call_of, unwritten, frame_by, entries_of, history, AllFromImage}
use Rattle.transfer_lent.specs.declared.State.{State}
use Rattle.transfer_lent.specs.declared.Step.{Step}
use Rattle.transfer_lent.proofs.Length.{sent_length}
use Rattle.transfer_lent.proofs.Members.{shown_formed, shown_back}

-- the frame that the transfer's call sends, if it is a frame call
abbrev sent_by : sending.Call → Transfer → sent.Sent
sent_by (plain c) t = sent.unwritten t
sent_by (sending.Call.next destination source tag body out) t = sent.written (length body) (next_bytes limit t (head_of t destination source tag) body out)

pub face_is : (c : Call) (s : State) → face_of c s ≡ seen (sending.step_of limit (call_of c)) s
unfolding machine.step_of
face_is (start b n m r) s = refl
face_is frame s = refl
face_is ack s = refl
face_is nak s = refl
face_is timeout s = refl
face_is lost s = refl
face_is nexus s = refl
face_is cancel s = refl
face_is (next destination source tag body out) s = refl

-- the way that a state which was shown goes
pub goes : {A : Type 0} (f : Transfer → A) (t : Transfer) (b : A) → cond (formed (shown t)) (f (state_of (shown t))) b ≡ f t
goes f t b = ap (λ (u : Bool). cond u (f (state_of (shown t))) b) (shown_formed t) ∙ ap f (shown_back t)

pub step_shown : (c : Call) (t : Transfer) → face_of c (shown t) ≡ told (sending.step_of limit (call_of c) t)
step_shown c t = face_is c (shown t) ∙ goes (λ (u : Transfer). told (sending.step_of limit (call_of c) u)) t (malformed (shown t))

pub run_shown : (cs : List Call) (t : Transfer) → run cs (shown t) ≡ shown (sending.run limit (map call_of cs) t)
run_shown [] t = refl
run_shown (c ∷ cs) t = ap (λ (r : Step). run cs r.state) (step_shown c t) ∙ run_shown cs (sending.step_of limit (call_of c) t).state

-- a refusal is told by its number
pub refusal_told : (a : Result Answer Refusal) → is_refusal (answer_number a) ≡ is_refused a
refusal_told (Ok Answer.Ok) = refl
refusal_told (Ok Answer.Sent) = refl
refusal_told (Ok Answer.Drain) = refl
refusal_told (Ok Answer.Retry) = refl
refusal_told (Ok Answer.Done) = refl
refusal_told (Ok Answer.Fail) = refl
refusal_told (Ok Answer.End) = refl
refusal_told (Err k) =
    let r = range k in
    and_true (lt-ltb 0 (number_of k) (omega (arith, r))) (lt-ltb (number_of k) 11 (omega (arith, r)))

unwritten_shown : (t : Transfer) → is_refused (frame_step limit t).answer ≡ false → unwritten (shown t) ≡ sent.unwritten t
unwritten_shown t off =
    λ i. record { at = t.read; len = (goes (next_length limit) t 0 ∙ sent_length t off) i; changing = changing_of (shown_back t i); bytes = [] }

-- what a call adds to the history where it is not refused
entry_shown : (d : sending.Call) (t : Transfer) → is_refused (sending.step_of limit d t).answer ≡ false → entry_of (plain_of d) (frame_by d (shown t)) ≡ entry_of (plain_of d) (sent_by d t)
unfolding machine.step_of
entry_shown (plain (machine.Call.start b n m r)) t off = refl
entry_shown (plain machine.Call.frame) t off = ap (λ (f : sent.Sent). entry_of machine.Call.frame f) (unwritten_shown t off)
entry_shown (plain machine.Call.ack) t off = refl
entry_shown (plain machine.Call.nak) t off = refl
entry_shown (plain machine.Call.timeout) t off = refl
entry_shown (plain machine.Call.lost) t off = refl
entry_shown (plain machine.Call.nexus) t off = refl
entry_shown (plain machine.Call.cancel) t off = refl
entry_shown (sending.Call.next destination source tag body out) t off =
    ap (λ (left : List ℕ). entry_of machine.Call.frame (sent.written (length body) left)) (goes (λ (u : Transfer). next_bytes limit u (head_of u destination source tag) body out) t out)

sent_entries : (d : sending.Call) (t : Transfer) → sent.entries_of limit d t ≡ cond (is_refused (sending.step_of limit d t).answer) [] (entry_of (plain_of d) (sent_by d t) ∷ [])
sent_entries (plain c) t = refl
sent_entries (sending.Call.next destination source tag body out) t = refl

pub entries_shown : (c : Call) (t : Transfer) → entries_of c (shown t) ≡ sent.entries_of limit (call_of c) t
entries_shown c t =
    let d = call_of c in
    let a = (sending.step_of limit d t).answer in
    let mine = entry_of (plain_of d) (frame_by d (shown t)) ∷ [] in
    ap (λ (u : Bool). cond u [] mine) (ap (λ (r : Step). is_refusal r.answer) (step_shown c t) ∙ refusal_told a)
    ∙ on_false (is_refused a) [] mine (entry_of (plain_of d) (sent_by d t) ∷ []) (λ off. ap (λ (e : EntryOf sent.Sent). e ∷ []) (entry_shown d t off))
    ∙ sym (sent_entries d t)

pub history_shown : (cs : List Call) (t : Transfer) (h : List (EntryOf sent.Sent)) → history cs (shown t) h ≡ sent.history limit (map call_of cs) t h
history_shown [] t h = refl
history_shown (c ∷ cs) t h =
    (λ i. history cs (step_shown c t i).state (entries_shown c t i ++ h))
    ∙ history_shown cs (sending.step_of limit (call_of c) t).state (sent.entries_of limit (call_of c) t ++ h)

pub image_calls : (image : List ℕ) (cs : List Call) (t : Transfer) → AllFromImage image cs (shown t) → sent.AllFromImage image limit (map call_of cs) t
image_calls image [] t p = p
image_calls image (c ∷ cs) t p = (
  subst (sent.FromImage image (call_of c)) (shown_back t) p.0,
  image_calls image cs (sending.step_of limit (call_of c) t).state (subst (λ (r : Step). AllFromImage image cs r.state) (step_shown c t) p.1),
)
