-- Numbers that C lends are those that some calls gave back exactly if they name a transfer that passes the exact test: what is shown is read back,
-- and the transfer's own calls are C's. Assumes nothing.
use Rattle.std.specs.Prelude.{Err}
use Prim.Native.Nat.{ℕ}
use mathlib.Core.Bool.{Bool, true, false, not, cond}
use mathlib.Core.List.{List, [], ◌∷◌, map}
use mathlib.Core.Logic.{◌⊎◌, inl, inr, ◌↔◌}
use mathlib.Core.Path.{◌≡◌, refl, sym, ap, subst, ◌∙◌}
use native.Mathlib.Omega.{arith}
use lib.ListN.{length}
use Rattle.laws.proofs.Bools.{impossible, clash, or_right}
use Rattle.refusals.specs.declared.Refusal.{Refusal}
use Rattle.transfer.specs.Rules.{unstarted, in_range, keeps_rules}
use Rattle.transfer.specs.Steps.{limit, start_step, frame_step, ack_step, nak_step, drop_step, end_step}
use Rattle.transfer.specs.Calls as machine
use Rattle.transfer.specs.Grounds.{OutOfRange}
use Rattle.transfer.specs.declared.Transfer.{Transfer}
use Rattle.transfer.proofs.Exact.{exact}
use Rattle.transfer.proofs.Stuck.{unstuck}
use Rattle.send.specs.Send.{head_of, next_step}
use Rattle.send.specs.Calls as sending
use Rattle.send.proofs.Words.{keeps, three_either}
use Rattle.transfer_lent.specs.Numbers.{phase_number, answer_number}
use Rattle.transfer_lent.specs.Lent.{formed, state_of, shown, told, malformed, next_length}
use Rattle.transfer_lent.specs.Face.{Call, start, frame, ack, nak, timeout, lost, nexus, cancel, next, face_of, length_of}
use Rattle.transfer_lent.specs.History.{zeros, run, is_refusal, call_of, AllTyped, Reached, Finishes}
use Rattle.transfer_lent.specs.Demand.{Unfinished}
use Rattle.transfer_lent.specs.declared.State.{State}
use Rattle.transfer_lent.specs.declared.Step.{Step}
use Rattle.transfer_lent.proofs.Trips.{one_answer}
use Rattle.transfer_lent.proofs.Members.{shown_formed, shown_back, formed_back}
use Rattle.transfer_lent.proofs.Runs.{face_is, step_shown, run_shown, refusal_told}
use Rattle.transfer_lent.proofs.Length.{zero_exactly, wants}
use Rattle.transfer_lent.proofs.Demand.{is_unfinished}

-- ---- C's call for one of the transfer

abbrev faced : machine.Call → Call
faced (machine.Call.start b n m r) = start b n m r
faced machine.Call.frame = frame
faced machine.Call.ack = ack
faced machine.Call.nak = nak
faced machine.Call.timeout = timeout
faced machine.Call.lost = lost
faced machine.Call.nexus = nexus
faced machine.Call.cancel = cancel

faced_is : (c : machine.Call) → call_of (faced c) ≡ sending.Call.plain c
faced_is (machine.Call.start b n m r) = refl
faced_is machine.Call.frame = refl
faced_is machine.Call.ack = refl
faced_is machine.Call.nak = refl
faced_is machine.Call.timeout = refl
faced_is machine.Call.lost = refl
faced_is machine.Call.nexus = refl
faced_is machine.Call.cancel = refl

faced_step : (c : machine.Call) (t : Transfer) → (face_of (faced c) (shown t)).state ≡ shown (machine.step_of limit c t).state
faced_step c t = ap (λ (r : Step). r.state) (step_shown (faced c) t) ∙ ap (λ (d : sending.Call). shown (sending.step_of limit d t).state) (faced_is c)

pub faced_run : (cs : List machine.Call) (t : Transfer) → run (map faced cs) (shown t) ≡ shown (machine.run limit cs t)
faced_run [] t = refl
faced_run (c ∷ cs) t = ap (run (map faced cs)) (faced_step c t) ∙ faced_run cs (machine.step_of limit c t).state

faced_typed : (cs : List machine.Call) → AllTyped (map faced cs)
faced_typed [] = tt
faced_typed (machine.Call.start b n m r ∷ cs) = (tt, faced_typed cs)
faced_typed (machine.Call.frame ∷ cs) = (tt, faced_typed cs)
faced_typed (machine.Call.ack ∷ cs) = (tt, faced_typed cs)
faced_typed (machine.Call.nak ∷ cs) = (tt, faced_typed cs)
faced_typed (machine.Call.timeout ∷ cs) = (tt, faced_typed cs)
faced_typed (machine.Call.lost ∷ cs) = (tt, faced_typed cs)
faced_typed (machine.Call.nexus ∷ cs) = (tt, faced_typed cs)
faced_typed (machine.Call.cancel ∷ cs) = (tt, faced_typed cs)

-- ---- which numbers calls give back

start_shown : (b n m r : ℕ) → face_of (start b n m r) zeros ≡ told (start_step limit b n m r unstarted)
unfolding machine.step_of
start_shown b n m r = step_shown (start b n m r) unstarted

pub reached_shown : (t : Transfer) → machine.Reachable limit t → Reached (shown t)
reached_shown t (inl e) = inl (ap shown e)
reached_shown t (inr l) =
    let started = start_shown l.b l.n l.m l.r in
    inr (record {
      b = l.b;
      n = l.n;
      m = l.m;
      r = l.r;
      taken = ap (λ (q : Step). q.answer) started ∙ ap answer_number l.taken;
      calls = map faced l.calls;
      typed = faced_typed l.calls;
      leave = ap (λ (q : Step). run (map faced l.calls) q.state) started ∙ faced_run l.calls (start_step limit l.b l.n l.m l.r unstarted).state ∙ ap shown l.leave;
    })

-- what some calls of all zeros leave is named and keeps its rules
abbrev pub Good : State → Type 0
Good s = (formed s ≡ true) × (keeps_rules limit (state_of s) ≡ true)

run_good : (cs : List Call) → AllTyped cs → Good (run cs zeros)
run_good cs typed =
    let t = sending.run limit (map call_of cs) unstarted in
    subst Good (sym (run_shown cs unstarted)) (shown_formed t, ap (keeps_rules limit) (shown_back t) ∙ keeps limit (map call_of cs) typed)

pub reached_good : (s : State) → Reached s → Good s
reached_good s (inl e) = subst Good (sym e) (run_good [] tt)
reached_good s (inr l) = subst Good l.leave (run_good (start l.b l.n l.m l.r ∷ l.calls) (tt, l.typed))

pub good_reached : (s : State) → formed s ≡ true → keeps_rules limit (state_of s) ≡ true → Reached s
good_reached s on kept = subst Reached (formed_back s on) (reached_shown (state_of s) ((exact limit (omega arith) (state_of s)).0 kept))

-- ---- refusal 3

-- a state that breaks its rules is refused with 3 by every call
broken_three : (c : Call) (t : Transfer) → keeps_rules limit t ≡ false → (sending.step_of limit (call_of c) t).answer ≡ Err Refusal.Rules
unfolding machine.step_of start_step frame_step ack_step nak_step drop_step end_step next_step
broken_three (start b n m r) t off = rw (or_right (not (in_range b n m r)) (ap not off))
broken_three frame t off = rw off
broken_three ack t off = rw off
broken_three nak t off = rw off
broken_three timeout t off = rw off
broken_three lost t off = rw off
broken_three nexus t off = rw off
broken_three cancel t off = rw off
broken_three (next destination source tag body out) t off = rw off

module _ (c : Call) (s : State) where
  pub answer_on : formed s ≡ true → (face_of c s).answer ≡ answer_number (sending.step_of limit (call_of c) (state_of s)).answer
  answer_on on = ap (λ (r : Step). r.answer) (face_is c s ∙ ap (λ (u : Bool). cond u (told (sending.step_of limit (call_of c) (state_of s))) (malformed s)) on)

  pub answer_off : formed s ≡ false → (face_of c s).answer ≡ 3
  answer_off off = ap (λ (r : Step). r.answer) (face_is c s ∙ ap (λ (u : Bool). cond u (told (sending.step_of limit (call_of c) (state_of s))) (malformed s)) off)

  -- a START whose own numbers are out of range, and whatever no calls left
  pub three_exactly : ((face_of c s).answer ≡ 3) ↔ (OutOfRange (sending.plain_of (call_of c)) ⊎ (Reached s → ⊥))
  three_exactly = by (formed s) refl (keeps_rules limit (state_of s)) refl
    where
      by : (f : Bool) → formed s ≡ f → (k : Bool) → keeps_rules limit (state_of s) ≡ k → ((face_of c s).answer ≡ 3) ↔ (OutOfRange (sending.plain_of (call_of c)) ⊎ (Reached s → ⊥))
      by false off k kept = (λ e. inr (λ h. clash (formed s) (reached_good s h).0 off), λ h. answer_off off)
      by true on false kept = (
        λ e. inr (λ h. clash (keeps_rules limit (state_of s)) (reached_good s h).1 kept),
        λ h. answer_on on ∙ ap answer_number (broken_three c (state_of s) kept),
      )
      by true on true kept =
          let three = three_either limit (state_of s) kept (call_of c) in
          let a = (sending.step_of limit (call_of c) (state_of s)).answer in (
            λ e. inl (three.0 (one_answer a (Err Refusal.Rules) (sym (answer_on on) ∙ e))),
            out on kept,
          )
        where
          out : formed s ≡ true → keeps_rules limit (state_of s) ≡ true → OutOfRange (sending.plain_of (call_of c)) ⊎ (Reached s → ⊥) → (face_of c s).answer ≡ 3
          out on kept (inl h) = answer_on on ∙ ap answer_number ((three_either limit (state_of s) kept (call_of c)).1 h)
          out on kept (inr h) = absurd (h (good_reached s on kept))

  -- whatever C lends, changed or not
  pub told_apart : ((face_of c s).answer ≡ 3) ⊎ Reached s
  told_apart = by (formed s) refl (keeps_rules limit (state_of s)) refl
    where
      by : (f : Bool) → formed s ≡ f → (k : Bool) → keeps_rules limit (state_of s) ≡ k → ((face_of c s).answer ≡ 3) ⊎ Reached s
      by false off k kept = inl (answer_off off)
      by true on false kept = inl (answer_on on ∙ ap answer_number (broken_three c (state_of s) kept))
      by true on true kept = inr (good_reached s on kept)

-- the length call answers 0 exactly where FRAME is refused
pub zero_length : (s : State) → (length_of s ≡ 0) ↔ (is_refusal (face_of frame s).answer ≡ true)
unfolding machine.step_of
zero_length s = by (formed s) refl
  where
    by : (f : Bool) → formed s ≡ f → (length_of s ≡ 0) ↔ (is_refusal (face_of frame s).answer ≡ true)
    by false off = (λ e. ap is_refusal (answer_off frame s off), λ e. ap (λ (u : Bool). cond u (next_length limit (state_of s)) 0) off)
    by true on =
        let zero = zero_exactly (state_of s) in
        let told = ap is_refusal (answer_on frame s on) ∙ refusal_told (frame_step limit (state_of s)).answer in
        let is : length_of s ≡ next_length limit (state_of s) = ap (λ (u : Bool). cond u (next_length limit (state_of s)) 0) on in
        (λ e. told ∙ zero.0 (sym is ∙ e), λ e. is ∙ zero.1 (sym told ∙ e))

-- a next-frame call that goes was given as much data as the length call says
pub wants_length : (destination source tag : ℕ) (body out : List ℕ) (s : State) → is_refusal (face_of (next destination source tag body out) s).answer ≡ false → length body ≡ length_of s
wants_length destination source tag body out s e = by (formed s) refl
  where
    by : (f : Bool) → formed s ≡ f → length body ≡ length_of s
    by false off = impossible (sym e ∙ ap is_refusal (answer_off (next destination source tag body out) s off))
    by true on =
        let t = state_of s in
        let a = (next_step limit t (head_of t destination source tag) body out).answer in
        wants t (head_of t destination source tag) body out (sym (refusal_told a) ∙ sym (ap is_refusal (answer_on (next destination source tag body out) s on)) ∙ e)
        ∙ sym (ap (λ (u : Bool). cond u (next_length limit t) 0) on)

-- from every state that calls leave unfinished some calls of C reach done
pub unstuck_seen : (s : State) → Reached s → Unfinished s → Finishes s
unstuck_seen s r u =
    let good = reached_good s r in
    let t = state_of s in
    let same = formed_back s good.0 in
    let f = unstuck limit (omega arith) t ((exact limit (omega arith) t).0 good.1) (is_unfinished t (subst Unfinished (sym same) u)) in
    (map faced f.0, ap (λ (q : State). (run (map faced f.0) q).phase) (sym same) ∙ ap (λ (q : State). q.phase) (faced_run f.0 t) ∙ ap phase_number f.1)
