-- What C sees of each call on a reply is the reply's own step, of the reply that the numbers say; whatever is refused comes back as it was lent.
-- Assumes nothing.
use Prim.Native.Nat.{ℕ}
use mathlib.Core.Bool.{Bool, true, false, cond}
use mathlib.Core.List.{List, [], ◌++◌}
use mathlib.Core.Logic.{◌⊎◌, ◌↔◌}
use mathlib.Core.Path.{◌≡◌, refl, ap}
use lib.ListN.{length}
use Rattle.laws.proofs.Tests.{unless}
use Rattle.refusals.specs.Causes.{Ground, buffer_grounds, First, Decides, nil, cons}
use Rattle.refusals.specs.Refusals.{number_of}
use Rattle.refusals.specs.declared.Refusal.{Refusal}
use Rattle.take_history.specs.Replies as machine
use Rattle.take_history.specs.Replies.{given}
use Rattle.reply_lent.specs.Numbers.{answer_number}
use Rattle.reply_lent.specs.Lent.{state_of, shown, told, is_refusal}
use Rattle.reply_lent.specs.Face.{Call, start, ack, nak, timeout, lost, nexus, cancel, respond, call_of, face_of, bytes_of}
use Rattle.reply_lent.specs.Grounds.{OutOfRange, grounds_of}
use Rattle.reply_lent.specs.Grounds as tests
use Rattle.reply_lent.specs.History.{Reached}
use Rattle.reply_lent.specs.declared.State.{State}
use Rattle.reply_lent.proofs.Refused.{refused_stays, given_causes, refused_exactly, three_exactly, told_apart, bytes_stay}
use Rattle.claims.specs.Causes.{ResponseLengths, ResponseFields}
use Rattle.claims.proofs.Grounds.{response_lengths, response_fields}
use Rattle.claims.proofs.ReplyCalls.{FaceStart, FaceAck, FaceNak, FaceTimeout, FaceLost, FaceNexus, FaceCancel, FaceRespond, face_starting, face_left, face_call, face_bytes}

-- 1 and 2 for what respond is given, by its lengths and its fields
abbrev pub given_grounds : Call → List Ground
given_grounds (start r) = []
given_grounds ack = []
given_grounds nak = []
given_grounds timeout = []
given_grounds lost = []
given_grounds nexus = []
given_grounds cancel = []
given_grounds (respond destination source tag present status body out) =
    buffer_grounds (ResponseLengths present (length body) (length out)) (ResponseFields (given destination source tag present status))

-- then 3 and 6 for the numbers that were lent
abbrev pub face_grounds : Call → State → List Ground
face_grounds c s = given_grounds c ++ grounds_of c s

-- what a call is given is in order
abbrev pub InOrder : Call → Type 0
InOrder (start r) = Unit {0}
InOrder ack = Unit {0}
InOrder nak = Unit {0}
InOrder timeout = Unit {0}
InOrder lost = Unit {0}
InOrder nexus = Unit {0}
InOrder cancel = Unit {0}
InOrder (respond destination source tag present status body out) =
    ResponseLengths present (length body) (length out) × ResponseFields (given destination source tag present status)

-- 02 c.3
pub record ReplyFace : Type 1 where
  -- each function answers what C is said to see of its call
  pub starts : (c : FaceStart) → c.answer ≡ face_of (face_starting c) c.args.0
  pub acks : (c : FaceAck) → c.answer ≡ face_of ack c.args.0
  pub naks : (c : FaceNak) → c.answer ≡ face_of nak c.args.0
  pub timeouts : (c : FaceTimeout) → c.answer ≡ face_of timeout c.args.0
  pub losts : (c : FaceLost) → c.answer ≡ face_of lost c.args.0
  pub nexuses : (c : FaceNexus) → c.answer ≡ face_of nexus c.args.0
  pub cancels : (c : FaceCancel) → c.answer ≡ face_of cancel c.args.0
  pub responds : (c : FaceRespond) → (c.answer ≡ face_of (face_call c) c.args.0) × (face_left c ≡ face_bytes c)
  -- its number is that of the reply's own answer, of the reply that the numbers say; and unless it is refused, C sees that step, told in numbers
  pub answers : (c : Call) (s : State) → (face_of c s).answer ≡ answer_number (machine.step_of (call_of c) (state_of s)).answer
  pub own : (c : Call) (s : State) → is_refusal (face_of c s).answer ≡ false → face_of c s ≡ told (machine.step_of (call_of c) (state_of s))
  -- a call answers the number of refusal k exactly if k is the first ground that holds
  pub exactly : (c : Call) (s : State) (k : Refusal) → ((face_of c s).answer ≡ number_of k) ↔ First (face_grounds c s) k
  -- and gives back the state that it was lent, to the last member, and leaves every byte
  pub keeps : (c : Call) (s : State) → is_refusal (face_of c s).answer ≡ true → (face_of c s).state ≡ s
  pub keeps_bytes : (destination source tag present status : ℕ) (body out : List ℕ) (s : State)
      → is_refusal (face_of (respond destination source tag present status body out) s).answer ≡ true → bytes_of destination source tag present status body out s ≡ out
  -- where what a call is given is in order, 3 is START's own number, or numbers that no calls gave back: so what C changed in between is told apart
  pub three : (c : Call) (s : State) → ((face_of c s).answer ≡ 3) ↔ (InOrder c × (OutOfRange c ⊎ (Reached s → ⊥)))
  pub apart : (c : Call) (s : State) → (is_refusal (face_of c s).answer ≡ true) ⊎ Reached s

given_decides : (c : Call) → Decides (given_causes c) (given_grounds c)
given_decides (start r) = nil
given_decides ack = nil
given_decides nak = nil
given_decides timeout = nil
given_decides lost = nil
given_decides nexus = nil
given_decides cancel = nil
given_decides (respond destination source tag present status body out) =
    cons (unless (response_lengths present (length body) (length out))) (cons (unless (response_fields (given destination source tag present status))) nil)

in_order : (c : Call) → tests.InOrder c ↔ InOrder c
in_order (start r) = (λ h. h, λ h. h)
in_order ack = (λ h. h, λ h. h)
in_order nak = (λ h. h, λ h. h)
in_order timeout = (λ h. h, λ h. h)
in_order lost = (λ h. h, λ h. h)
in_order nexus = (λ h. h, λ h. h)
in_order cancel = (λ h. h, λ h. h)
in_order (respond destination source tag present status body out) =
    let lengths = response_lengths present (length body) (length out) in
    let fields = response_fields (given destination source tag present status) in
    (λ h. (lengths.0 h.0, fields.0 h.1), λ h. (lengths.1 h.0, fields.1 h.1))

face_own : (c : Call) (s : State) → is_refusal (face_of c s).answer ≡ false → face_of c s ≡ told (machine.step_of (call_of c) (state_of s))
face_own c s off =
    let r = machine.step_of (call_of c) (state_of s) in
    ap (λ (t : Bool). record { state = cond t s (shown r.state); answer = answer_number r.answer }) off

face_three : (c : Call) (s : State) → ((face_of c s).answer ≡ 3) ↔ (InOrder c × (OutOfRange c ⊎ (Reached s → ⊥)))
face_three c s =
    let three = three_exactly s c in
    let order = in_order c in
    (λ e. let h = three.0 e in (order.0 h.0, h.1), λ h. three.1 (order.1 h.0, h.1))

pub reply_face : ReplyFace
reply_face = record {
  starts = λ c. c.met;
  acks = λ c. c.met;
  naks = λ c. c.met;
  timeouts = λ c. c.met;
  losts = λ c. c.met;
  nexuses = λ c. c.met;
  cancels = λ c. c.met;
  responds = λ c. (c.met.step, c.met.bytes);
  answers = λ c s. refl;
  own = face_own;
  exactly = λ c s. refused_exactly c s (given_decides c);
  keeps = refused_stays;
  keeps_bytes = bytes_stay;
  three = face_three;
  apart = λ c s. told_apart s c;
}
