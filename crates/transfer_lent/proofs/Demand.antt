-- What demand 3 says of a transfer it says of the numbers by which the transfer is shown. Assumes nothing.
use Rattle.std.specs.Prelude.{Ok}
use Prim.Native.Nat.{ℕ, ◌+◌, ◌*◌, ◌≤◌, ◌<◌}
use mathlib.Core.Bool.{true, false, cond}
use mathlib.Core.List.{List, [], ◌∷◌, ◌++◌, map}
use mathlib.Core.Logic.{◌⊎◌, inl, inr}
use mathlib.Core.Path.{◌≡◌, refl, sym, ap, subst, transport⁻¹, ◌∙◌}
use lib.ListN.{length}
use Rattle.transfer.specs.Rules.{unstarted, frames as frames_in}
use Rattle.transfer.specs.Steps.{limit, unfinished}
use Rattle.transfer.specs.Demand as machine
use Rattle.transfer.specs.History.{Entry, EntryOf, sent as sent-of, view, first_resent, frames_sent}
use Rattle.transfer.specs.declared.Answer.{Answer}
use Rattle.transfer.specs.declared.Phase.{Phase}
use Rattle.transfer.specs.declared.Transfer.{Transfer}
use Rattle.transfer.specs.declared.Stepped.{Stepped}
use Rattle.send.specs.Calls as sending
use Rattle.send.specs.History as sent
use Rattle.send.specs.Send.{head_of, next_bytes}
use Rattle.send.proofs.Address.{addressed_by}
use Rattle.send.proofs.Demand.{demand_3}
use Rattle.send.proofs.Image.{delivered}
use Rattle.send.proofs.Plain.{sends_end}
use Rattle.send.proofs.Pointer.{changing_is}
use Rattle.transfer_lent.specs.Numbers.{phase_number, phase_of}
use Rattle.transfer_lent.specs.Lent.{state_of, shown, told}
use Rattle.transfer_lent.specs.Face.{Call, next, face_of, bytes_of}
use Rattle.transfer_lent.specs.History.{zeros, run, is_refusal, call_of, entries_of, history, Typed, AllTyped, AllFromImage}
use Rattle.transfer_lent.specs.Demand.{Unfinished, DemandSeen}
use Rattle.transfer_lent.specs.declared.State.{State}
use Rattle.transfer_lent.specs.declared.Step.{Step}
use Rattle.transfer_lent.proofs.Trips.{phase_back, one_answer}
use Rattle.transfer_lent.proofs.Runs.{goes, step_shown, run_shown, refusal_told, entries_shown, history_shown, image_calls}
use Rattle.transfer_lent.proofs.Members.{shown_back}

pub one_phase : (p q : Phase) → phase_number p ≡ phase_number q → p ≡ q
one_phase p q e = sym (phase_back p).1 ∙ ap phase_of e ∙ (phase_back q).1

pub is_unfinished : (t : Transfer) → Unfinished (shown t) → unfinished t.phase ≡ true
is_unfinished t (inl e) = ap unfinished (one_phase t.phase Phase.Run e)
is_unfinished t (inr e) = ap unfinished (one_phase t.phase Phase.Drain e)

is_over : (p : Phase) → ((phase_number p ≡ 1) ⊎ (phase_number p ≡ 2) → ⊥) → unfinished p ≡ false
is_over Phase.New off = refl
is_over Phase.Run off = absurd (off (inl refl))
is_over Phase.Drain off = absurd (off (inr refl))
is_over Phase.Done off = refl
is_over Phase.Fail off = refl
is_over Phase.End off = refl

pub demand_shown : (t : Transfer) (h es : List Entry) (st : Stepped) → machine.Demand3 limit t h es st → DemandSeen (shown t) h es (told st)
demand_shown t h es st d = record {
  within = d.within;
  sure = d.sure;
  resend = d.resend;
  settled = d.settled;
  delivered = λ e. d.delivered (one_answer st.answer (Ok Answer.Done) e);
  few = d.few;
  counted = λ u. d.counted (is_unfinished t u);
  over = λ off. d.over (is_over t.phase off);
  all_acked = λ e. d.all_acked (one_phase t.phase Phase.Run e);
  all_done = λ e. d.all_done (one_phase t.phase Phase.Done e);
}

-- over any calls of C from all zeros, and one call more
module _ (cs : List Call) (c : Call) (typed : AllTyped cs) (one : Typed c) where
  abbrev s : State
  s = run cs zeros

  abbrev before : Transfer
  before = sending.run limit (map call_of cs) unstarted

  state_is : s ≡ shown before
  state_is = run_shown cs unstarted

  past_is : history cs zeros [] ≡ sent.history limit (map call_of cs) unstarted []
  past_is = history_shown cs unstarted []

  added_is : entries_of c s ≡ sent.entries_of limit (call_of c) before
  added_is = ap (entries_of c) state_is ∙ entries_shown c before

  answer_is : face_of c s ≡ told (sending.step_of limit (call_of c) before)
  answer_is = ap (face_of c) state_is ∙ step_shown c before

  -- DEMAND 3
  pub demand_seen : DemandSeen s (sent.frames (history cs zeros [])) (sent.frames (entries_of c s)) (face_of c s)
  demand_seen =
      transport⁻¹ (λ i. DemandSeen (state_is i) (sent.frames (past_is i)) (sent.frames (added_is i)) (answer_is i))
      (demand_shown before _ _ _ (demand_3 limit (map call_of cs) (call_of c) typed one))

  pub changing_seen : (f : sent.Sent) → entries_of c s ≡ sent-of f ∷ [] → f.changing ≡ cond (first_resent (view (sent.frames (history cs zeros [])))) 1 0
  changing_seen f e =
      changing_is limit (map call_of cs) (call_of c) typed one f (sym added_is ∙ e)
      ∙ ap (λ (h : List (EntryOf sent.Sent)). cond (first_resent (view (sent.frames h))) 1 0) (sym past_is)

  pub addressed_seen : (destination source tag : ℕ) (body out : List ℕ) → c ≡ next destination source tag body out → is_refusal (face_of c s).answer ≡ false → sent.Addressed (bytes_of destination source tag body out s) (length body) destination source tag s.read
  addressed_seen destination source tag body out is goes_on =
      let d : sending.Call = sending.Call.next destination source tag body out in
      let same : call_of c ≡ d = ap call_of is in
      let taken = sym (refusal_told (sending.step_of limit (call_of c) before).answer) ∙ sym (ap (λ (r : Step). is_refusal r.answer) answer_is) ∙ goes_on in
      let written = goes (λ (u : Transfer). next_bytes limit u (head_of u destination source tag) body out) before out ∙ ap (λ (x : sending.Call). sent.output_of limit x before) (sym same) in
      transport⁻¹ (λ i. sent.Addressed ((ap (bytes_of destination source tag body out) state_is ∙ written) i) (length body) destination source tag (state_is i).read)
      (addressed_by limit before (call_of c) one destination source tag body out same taken)

  pub image_seen : (image : List ℕ) → AllFromImage image cs zeros → sent.FromImage image (call_of c) (state_of s) → (face_of c s).answer ≡ 19 → (x : ℕ) → s.offset ≤ x → x < s.offset + s.count → sent.Shown image x (view (entries_of c s ++ history cs zeros [])).acked
  image_seen image given this e x from to =
      let done = one_answer (sending.step_of limit (call_of c) before).answer (Ok Answer.Done) (ap (λ (r : Step). r.answer) (sym answer_is) ∙ e) in
      let lent = subst (sent.FromImage image (call_of c)) (ap state_of state_is ∙ shown_back before) this in
      transport⁻¹ (λ i. sent.Shown image x (view (added_is i ++ past_is i)).acked)
      (delivered image limit (map call_of cs) (call_of c) typed one (image_calls image cs unstarted given) lent done x (subst (λ (u : State). u.offset ≤ x) state_is from) (subst (λ (u : State). x < u.offset + u.count) state_is to))

  -- at most (R+1) times ⌈N/M⌉ frames go for one START
  pub ends_seen : frames_sent (sent.frames (history cs zeros [])) ≤ (s.resends + 1) * frames_in s.count s.size
  ends_seen =
      transport⁻¹ (λ i. frames_sent (sent.frames (past_is i)) ≤ ((state_is i).resends + 1) * frames_in (state_is i).count (state_is i).size) (sends_end limit (map call_of cs) typed)
