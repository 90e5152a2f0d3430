-- What C sees of each call on a transfer is the transfer's own step, of the transfer that the numbers say; whatever is refused comes back as it was
-- lent. Assumes nothing.
use Rattle.std.specs.Prelude.{Err, Ok, Result}
use Prim.Native.Nat.{ℕ}
use mathlib.Core.Bool.{Bool, true, false, cond}
use mathlib.Core.List.{List, ◌∷◌}
use mathlib.Core.Logic.{◌⊎◌, ◌↔◌}
use mathlib.Core.Path.{◌≡◌, refl, sym, ap, ◌∙◌}
use native.Mathlib.Omega.{arith}
use lib.ListN.{length}
use Rattle.laws.proofs.Bools.{clash, impossible}
use Rattle.refusals.specs.Causes.{Ground, ◌if◌, First, here, later}
use Rattle.refusals.specs.Refusals.{number_of}
use Rattle.refusals.specs.declared.Refusal.{Refusal}
use Rattle.refusals.proofs.Numbers.{one_number}
use Rattle.transfer.specs.Steps.{limit}
use Rattle.transfer.specs.Grounds.{OutOfRange, grounds_of}
use Rattle.transfer.specs.History.{is_refused}
use Rattle.transfer.specs.declared.Answer.{Answer}
use Rattle.transfer.specs.declared.Transfer.{Transfer}
use Rattle.transfer.proofs.Refusals.{refused_exactly, refused_kept}
use Rattle.send.specs.Send.{head_of, next_step, next_bytes}
use Rattle.send.specs.Calls as machine
use Rattle.send.specs.History.{output_of}
use Rattle.transfer_lent.specs.Numbers.{answer_number}
use Rattle.transfer_lent.specs.Lent.{formed, state_of, shown, told, malformed}
use Rattle.transfer_lent.specs.Face.{Call, frame, ack, nak, timeout, lost, nexus, cancel, next, face_of, bytes_of, length_of}
use Rattle.transfer_lent.specs.History.{is_refusal, call_of, Reached}
use Rattle.transfer_lent.specs.declared.State.{State}
use Rattle.transfer_lent.specs.declared.Step.{Step}
use Rattle.transfer_lent.proofs.Trips.{one_answer}
use Rattle.transfer_lent.proofs.Members.{formed_back}
use Rattle.transfer_lent.proofs.Runs.{face_is, refusal_told}
use Rattle.transfer_lent.proofs.Reach.{answer_on, answer_off, three_exactly, told_apart, zero_length, wants_length}
use Rattle.claims.proofs.StepRefusals.{next_grounds, next_refused}
use Rattle.claims.proofs.TransferCalls.{Start, Frame, Ack, Nak, Timeout, Lost, Nexus, Cancel, Next, Length, asking, destination, source, tag, body, out, left}

-- the transfer's grounds, behind the one of numbers that name no transfer
abbrev pub grounds_by : machine.Call → Transfer → List Ground
grounds_by (machine.Call.plain c) t = grounds_of limit c t
grounds_by (machine.Call.next destination source tag body out) t = next_grounds limit t (head_of t destination source tag) body out

abbrev pub face_grounds : Call → State → List Ground
face_grounds c s = (Refusal.Rules if (formed s ≡ false)) ∷ grounds_by (call_of c) (state_of s)

-- 01 READ.4 01 READ.16 01 REFUSAL.3 01 REFUSAL.11 01 REFUSAL.12 01 REFUSAL.13
pub record TransferFace : Type 1 where
  -- each function answers what C is said to see of its call
  pub starts : (c : Start) → c.answer ≡ face_of (asking c) c.args.0
  pub frames : (c : Frame) → c.answer ≡ face_of frame c.args.0
  pub acks : (c : Ack) → c.answer ≡ face_of ack c.args.0
  pub naks : (c : Nak) → c.answer ≡ face_of nak c.args.0
  pub timeouts : (c : Timeout) → c.answer ≡ face_of timeout c.args.0
  pub losts : (c : Lost) → c.answer ≡ face_of lost c.args.0
  pub nexuses : (c : Nexus) → c.answer ≡ face_of nexus c.args.0
  pub cancels : (c : Cancel) → c.answer ≡ face_of cancel c.args.0
  pub nexts : (c : Next) → (c.answer ≡ face_of (next (destination c) (source c) (tag c) (body c) (out c)) c.args.0) × (left c ≡ bytes_of (destination c) (source c) (tag c) (body c) (out c) c.args.0)
  pub lengths : (c : Length) → c.answer ≡ length_of c.args.0
  -- and that is the transfer's own step, of the transfer that the numbers say, told in numbers; 3 where they name none
  pub own : (c : Call) (s : State) → face_of c s ≡ cond (formed s) (told (machine.step_of limit (call_of c) (state_of s))) (malformed s)
  pub writes : (destination source tag : ℕ) (body out : List ℕ) (s : State) → bytes_of destination source tag body out s ≡ cond (formed s) (output_of limit (machine.Call.next destination source tag body out) (state_of s)) out
  -- a call answers the number of refusal k exactly if k is the first cause that holds
  pub exactly : (c : Call) (s : State) (k : Refusal) → ((face_of c s).answer ≡ number_of k) ↔ First (face_grounds c s) k
  -- and gives back the state that it was lent, to the last member, and leaves every byte
  pub keeps : (c : Call) (s : State) → is_refusal (face_of c s).answer ≡ true → (face_of c s).state ≡ s
  pub keeps_bytes : (destination source tag : ℕ) (body out : List ℕ) (s : State) → is_refusal (face_of (next destination source tag body out) s).answer ≡ true → bytes_of destination source tag body out s ≡ out
  -- 3 is START's own numbers, or numbers that no calls gave back: so what C changed in between is told apart
  pub three : (c : Call) (s : State) → ((face_of c s).answer ≡ 3) ↔ (OutOfRange (machine.plain_of (call_of c)) ⊎ (Reached s → ⊥))
  pub apart : (c : Call) (s : State) → ((face_of c s).answer ≡ 3) ⊎ Reached s
  -- the length call answers 0 exactly where FRAME is refused, and else how much data a next-frame call wants
  pub zero : (s : State) → (length_of s ≡ 0) ↔ (is_refusal (face_of frame s).answer ≡ true)
  pub wants : (destination source tag : ℕ) (body out : List ℕ) (s : State) → is_refusal (face_of (next destination source tag body out) s).answer ≡ false → length body ≡ length_of s

-- ---- why a call is refused, and that it leaves what it was lent

-- by the transfer's own step
step_exactly : (d : machine.Call) (t : Transfer) (k : Refusal) → ((machine.step_of limit d t).answer ≡ Err k) ↔ First (grounds_by d t) k
step_exactly (machine.Call.plain c) t k = refused_exactly limit (omega arith) t c k
step_exactly (machine.Call.next destination source tag body out) t k = (next_refused t (head_of t destination source tag) body out (record { step = refl; bytes = refl })).exactly k

refusal_of : (a : Result Answer Refusal) → is_refused a ≡ true → (k : Refusal) × (a ≡ Err k)
refusal_of (Ok Answer.Ok) e = impossible e
refusal_of (Ok Answer.Sent) e = impossible e
refusal_of (Ok Answer.Drain) e = impossible e
refusal_of (Ok Answer.Retry) e = impossible e
refusal_of (Ok Answer.Done) e = impossible e
refusal_of (Ok Answer.Fail) e = impossible e
refusal_of (Ok Answer.End) e = impossible e
refusal_of (Err k) e = (k, refl)

next_kept : (destination source tag : ℕ) (body out : List ℕ) (t : Transfer) → let h = head_of t destination source tag in
    is_refused (next_step limit t h body out).answer ≡ true → ((next_step limit t h body out).state ≡ t) × (next_bytes limit t h body out ≡ out)
next_kept destination source tag body out t e =
    let h = head_of t destination source tag in
    let k = refusal_of (next_step limit t h body out).answer e in
    (next_refused t h body out (record { step = refl; bytes = refl })).keeps k.0 k.1

step_kept : (d : machine.Call) (t : Transfer) → is_refused (machine.step_of limit d t).answer ≡ true → (machine.step_of limit d t).state ≡ t
step_kept (machine.Call.plain c) t e = refused_kept limit t c e
step_kept (machine.Call.next destination source tag body out) t e = (next_kept destination source tag body out t e).0

-- the first ground holds, or another is the first
by_first : {P p : Type 0} {j k : Refusal} {gs : List Ground} → First ((j if p) ∷ gs) k → (p → j ≡ k → P) → ((p → ⊥) → First gs k → P) → P
by_first (here h) f g = f h refl
by_first (later off rest) f g = g off rest

-- as C sees it
module _ (c : Call) (s : State) where
  abbrev answer : Result Answer Refusal
  answer = (machine.step_of limit (call_of c) (state_of s)).answer

  face_exactly : (k : Refusal) → ((face_of c s).answer ≡ number_of k) ↔ First (face_grounds c s) k
  face_exactly k = by (formed s) refl
    where
      by : (f : Bool) → formed s ≡ f → ((face_of c s).answer ≡ number_of k) ↔ First (face_grounds c s) k
      by false off = (
        (λ e. rw (← one_number Refusal.Rules k (sym (answer_off c s off) ∙ e)) (here off)),
        (λ f. by_first f (λ h same. answer_off c s off ∙ ap number_of same) (λ unless rest. absurd (unless off))),
      )
      by true on = (
        (λ e. later (λ off. clash (formed s) on off) ((step_exactly (call_of c) (state_of s) k).0 (one_answer answer (Err k) (sym (answer_on c s on) ∙ e)))),
        (λ f. by_first f (λ off same. absurd (clash (formed s) on off)) (λ unless rest. answer_on c s on ∙ ap answer_number ((step_exactly (call_of c) (state_of s) k).1 rest))),
      )

  -- the way of a formed state
  face_on : formed s ≡ true → face_of c s ≡ told (machine.step_of limit (call_of c) (state_of s))
  face_on on = face_is c s ∙ ap (λ (u : Bool). cond u (told (machine.step_of limit (call_of c) (state_of s))) (malformed s)) on

  face_off : formed s ≡ false → face_of c s ≡ malformed s
  face_off off = face_is c s ∙ ap (λ (u : Bool). cond u (told (machine.step_of limit (call_of c) (state_of s))) (malformed s)) off

  -- a refusal of a formed state is the transfer's own
  own_refusal : formed s ≡ true → is_refusal (face_of c s).answer ≡ true → is_refused answer ≡ true
  own_refusal on e = sym (refusal_told answer) ∙ sym (ap is_refusal (answer_on c s on)) ∙ e

  face_kept : is_refusal (face_of c s).answer ≡ true → (face_of c s).state ≡ s
  face_kept e = by (formed s) refl
    where
      by : (f : Bool) → formed s ≡ f → (face_of c s).state ≡ s
      by false off = ap (λ (r : Step). r.state) (face_off off)
      by true on = ap (λ (r : Step). r.state) (face_on on) ∙ ap shown (step_kept (call_of c) (state_of s) (own_refusal on e)) ∙ formed_back s on

bytes_kept : (destination source tag : ℕ) (body out : List ℕ) (s : State) → is_refusal (face_of (next destination source tag body out) s).answer ≡ true → bytes_of destination source tag body out s ≡ out
bytes_kept destination source tag body out s e = by (formed s) refl
  where
    by : (f : Bool) → formed s ≡ f → bytes_of destination source tag body out s ≡ out
    by false off = ap (λ (u : Bool). cond u (next_bytes limit (state_of s) (head_of (state_of s) destination source tag) body out) out) off
    by true on =
        ap (λ (u : Bool). cond u (next_bytes limit (state_of s) (head_of (state_of s) destination source tag) body out) out) on
        ∙ (next_kept destination source tag body out (state_of s) (own_refusal (next destination source tag body out) s on e)).1

pub transfer_face : TransferFace
transfer_face = record {
  starts = λ c. c.met;
  frames = λ c. c.met;
  acks = λ c. c.met;
  naks = λ c. c.met;
  timeouts = λ c. c.met;
  losts = λ c. c.met;
  nexuses = λ c. c.met;
  cancels = λ c. c.met;
  nexts = λ c. (c.met.step, c.met.bytes);
  lengths = λ c. c.met;
  own = face_is;
  writes = λ destination source tag body out s. refl;
  exactly = face_exactly;
  keeps = face_kept;
  keeps_bytes = bytes_kept;
  three = three_exactly;
  apart = told_apart;
  zero = zero_length;
  wants = wants_length;
}
