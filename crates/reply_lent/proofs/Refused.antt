-- What C is refused for: what respond is given, then the grounds of the numbers that were lent; 3 tells apart what no calls gave back, and whatever is
-- refused comes back as it was lent. Assumes nothing.
use Rattle.std.specs.Prelude.{Err, Ok, Result}
use Prim.Native.Nat.{ℕ}
use mathlib.Core.Bool.{Bool, true, false, cond}
use mathlib.Core.List.{List, [], ◌++◌}
use mathlib.Core.Logic.{◌⊎◌, inl, inr, ◌↔◌}
use mathlib.Core.Path.{◌≡◌, refl, sym, ap, ◌∙◌}
use native.Mathlib.Decide.{dec_lt}
use native.Mathlib.Omega.{arith}
use lib.ListN.{length, get_or-eq_default}
use Rattle.laws.specs.Tests.{Says}
use Rattle.laws.proofs.Bools.{never, impossible}
use Rattle.laws.proofs.Tests.{most, either, unless, means}
use Rattle.refusals.specs.Causes.{Cause, Ground, refuse, buffer_causes, First, Decides, nil, cons}
use Rattle.refusals.specs.Refusals.{number_of}
use Rattle.refusals.specs.declared.Refusal.{Refusal}
use Rattle.refusals.proofs.Causes as causes
use Rattle.ssp_frame.specs.Response.{response_sized, response_listed}
use Rattle.reply.specs.Rules.{keeps_rules}
use Rattle.reply.specs.Steps.{refused, asks, waits, unfinished, responded}
use Rattle.reply.specs.Steps as steps
use Rattle.reply.specs.Calls as plainly
use Rattle.reply.specs.Calls.{causes_of, goes_on}
use Rattle.reply.specs.Grounds as plainly'
use Rattle.reply.specs.History.{is_refused}
use Rattle.reply.specs.declared.Answer.{Answer}
use Rattle.reply.specs.declared.Phase.{Phase}
use Rattle.reply.specs.declared.Reply.{Reply}
use Rattle.reply.specs.declared.Stepped.{Stepped}
use Rattle.reply.proofs.Facts.{ask_says, wait_says}
use Rattle.reply.proofs.Refusals.{one, taken}
use Rattle.reply.proofs.Three.{three, broken_three}
use Rattle.take.specs.Respond.{response_head, respond_causes, respond_step, respond_bytes}
use Rattle.take_history.specs.Replies as machine
use Rattle.take_history.specs.Replies.{plain_of, given}
use Rattle.take_history.proofs.Replies.{Made, stays, goes, made, given_listed}
use Rattle.reply_lent.specs.Numbers.{phase_number, phases, phase_of, answer_number}
use Rattle.reply_lent.specs.Lent.{state_of, shown, is_refusal}
use Rattle.reply_lent.specs.Face.{Call, start, ack, nak, timeout, lost, nexus, cancel, respond, call_of, face_of, bytes_of}
use Rattle.reply_lent.specs.Grounds.{OutOfRange, InOrder, grounds, grounds_of}
use Rattle.reply_lent.specs.History.{Reached}
use Rattle.reply_lent.specs.Demand.{Unfinished}
use Rattle.reply_lent.specs.declared.State.{State}
use Rattle.reply_lent.proofs.Tested.{answered_exactly}
use Rattle.reply_lent.proofs.Trips.{phase_back, phase_at, refused_told}
use Rattle.reply_lent.proofs.Runs.{refusal_told}
use Rattle.reply_lent.proofs.Reach.{exact_seen}

-- a refusal gives back the state that was lent, to the last member
pub refused_stays : (c : Call) (s : State) → is_refusal (face_of c s).answer ≡ true → (face_of c s).state ≡ s
refused_stays c s e = ap (λ (t : Bool). cond t s (shown (machine.step_of (call_of c) (state_of s)).state)) e

-- ---- a call's causes: what respond is given, and behind it those of the reply's own call

abbrev pub given_causes : Call → List Cause
given_causes (start r) = []
given_causes ack = []
given_causes nak = []
given_causes timeout = []
given_causes lost = []
given_causes nexus = []
given_causes cancel = []
given_causes (respond destination source tag present status body out) =
    buffer_causes (response_sized present (length body) (length out)) (response_listed (given destination source tag present status))

abbrev plainly_made : Call → plainly.Call
plainly_made c = plain_of (call_of c)

step_is : (c : Call) (t : Reply) → machine.step_of (call_of c) t ≡ refuse (refused t) (given_causes c ++ causes_of (plainly_made c) t) (goes_on (plainly_made c) t)
unfolding respond_step
step_is (start r) t = refl
step_is ack t = refl
step_is nak t = refl
step_is timeout t = refl
step_is lost t = refl
step_is nexus t = refl
step_is cancel t = refl
step_is (respond destination source tag present status body out) t =
    ap (λ (b : Bool). refuse (refused t) (buffer_causes (response_sized present (length body) (length out)) b ++ causes_of plainly.Call.respond t) (responded t))
    (given_listed t destination source tag present status)

answer_is : (c : Call) (t : Reply)
    → (machine.step_of (call_of c) t).answer ≡ refuse Err (given_causes c ++ causes_of (plainly_made c) t) (goes_on (plainly_made c) t).answer
answer_is c t =
    ap (λ (st : Stepped). st.answer) (step_is c t)
    ∙ causes.through (λ (st : Stepped). st.answer) (refused t) (given_causes c ++ causes_of (plainly_made c) t) (goes_on (plainly_made c) t)

-- ---- in the numbers that C lends

-- a phase but the last is told by its number
phase_seen : (p : Phase) → (p ≡ Phase.End → ⊥) → (n : ℕ) → (phase_of n ≡ p) ↔ (n ≡ phase_number p)
phase_seen p other n = (there, λ e. ap phase_of e ∙ (phase_back p).1)
  where
    there : phase_of n ≡ p → n ≡ phase_number p
    there e =
        elim (dec_lt n 6) [
          | yes l ↦ phase_at n l ∙ ap phase_number e
          | no d ↦ absurd (other (sym e ∙ get_or-eq_default phases Phase.End {n = n} (omega arith)))
        ]

asks_seen : (n : ℕ) → Says (asks (phase_of n)) (n ≡ 1)
asks_seen n = means (ask_says (phase_of n)) (phase_seen Phase.Ask (λ e. never (sym (ap asks e))) n)

waits_seen : (n : ℕ) → Says (waits (phase_of n)) (n ≡ 2)
waits_seen n = means (wait_says (phase_of n)) (phase_seen Phase.Wait (λ e. never (sym (ap waits e))) n)

module _ (s : State) where
  unfit : {t : Bool} {P : Type 0} → Says t P → Decides (steps.causes t (state_of s)) (grounds P s)
  unfit p = cons (unless (exact_seen s)) (cons p nil)

  unfinished_seen : Says (unfinished (phase_of s.phase)) (Unfinished s)
  unfinished_seen = either (asks_seen s.phase) (waits_seen s.phase)

  decides : (c : Call) → Decides (causes_of (plainly_made c) (state_of s)) (grounds_of c s)
  decides (start r) = cons (unless (most r 255)) (unfit unfinished_seen)
  decides ack = unfit (unless (waits_seen s.phase))
  decides nak = unfit (unless (waits_seen s.phase))
  decides timeout = unfit (unless (waits_seen s.phase))
  decides lost = unfit (unless (waits_seen s.phase))
  decides nexus = unfit (unless unfinished_seen)
  decides cancel = unfit (unless unfinished_seen)
  decides (respond destination source tag present status body out) = unfit (unless (asks_seen s.phase))

module _ (c : Call) (s : State) where
  abbrev done : Result Answer Refusal
  done = (goes_on (plainly_made c) (state_of s)).answer

  apart : (j : Refusal) → done ≡ Err j → ⊥
  apart j e = never (sym (taken (plainly_made c) (state_of s)) ∙ ap is_refused e)

  -- a call answers the number of refusal k exactly if k is the first ground that holds, where gs are those of what it is given
  pub refused_exactly : {gs : List Ground} → Decides (given_causes c) gs → (k : Refusal) → ((face_of c s).answer ≡ number_of k) ↔ First (gs ++ grounds_of c s) k
  refused_exactly given k =
      let all = causes.decides_append given (decides s c) in
      let is = answer_is c (state_of s) in (
        λ e. causes.only Err done one apart all k (sym is ∙ refused_told (machine.step_of (call_of c) (state_of s)).answer k e),
        λ f. ap answer_number (is ∙ causes.if_first Err done one apart all k f),
      )

-- ---- refusal 3

-- the causes of what was given have other numbers
behind_given : (sized listed : Bool) {P : Type 0} (a : Result Answer Refusal) → (a ≡ Err Refusal.Rules) ↔ P
    → (refuse Err (buffer_causes sized listed) a ≡ Err Refusal.Rules) ↔ (((sized ≡ true) × (listed ≡ true)) × P)
behind_given false listed a is = (λ e. let z : ◌≡◌ {A = ℕ} 1 3 = ap answer_number e in absurd (omega arith), λ h. impossible h.0.0)
behind_given true false a is = (λ e. let z : ◌≡◌ {A = ℕ} 2 3 = ap answer_number e in absurd (omega arith), λ h. impossible h.0.1)
behind_given true true a is = (λ e. ((refl, refl), is.0 e), λ h. is.1 h.1)

module _ (s : State) where
  abbrev Three : Result Answer Refusal → Type 0
  Three a = a ≡ Err Refusal.Rules

  plainly_three : (c : plainly.Call) → Three (plainly.step_of c (state_of s)).answer ↔ (plainly'.OutOfRange c ⊎ (Reached s → ⊥))
  plainly_three c =
      answered_exactly (keeps_rules (state_of s)) (exact_seen s) (λ broken. broken_three (state_of s) broken c) (λ kept. three (state_of s) kept c)

  alone : {A P : Type 0} → A ↔ P → A ↔ (Unit {0} × P)
  alone p = (λ a. (tt, p.0 a), λ h. p.1 h.1)

  three_is : (c : Call) → Three (machine.step_of (call_of c) (state_of s)).answer ↔ (InOrder c × (OutOfRange c ⊎ (Reached s → ⊥)))
  three_is (start r) = alone (plainly_three (plainly.Call.start r))
  three_is ack = alone (plainly_three plainly.Call.ack)
  three_is nak = alone (plainly_three plainly.Call.nak)
  three_is timeout = alone (plainly_three plainly.Call.timeout)
  three_is lost = alone (plainly_three plainly.Call.lost)
  three_is nexus = alone (plainly_three plainly.Call.nexus)
  three_is cancel = alone (plainly_three plainly.Call.cancel)
  three_is (respond destination source tag present status body out) =
      let c = respond destination source tag present status body out in
      let own = causes.through (λ (st : Stepped). st.answer) (refused (state_of s)) (causes_of plainly.Call.respond (state_of s)) (responded (state_of s)) in
      let last = plainly_three plainly.Call.respond in
      let all =
      behind_given (response_sized present (length body) (length out)) (response_listed (given destination source tag present status))
      (refuse Err (causes_of plainly.Call.respond (state_of s)) (Ok Answer.Sent)) (λ e. last.0 (own ∙ e), λ h. sym own ∙ last.1 h) in
      let is = answer_is c (state_of s) in
      (λ e. all.0 (sym is ∙ e), λ h. is ∙ all.1 h)

  -- where what the call is given is in order, 3 is START's own number, or numbers that no calls gave back
  pub three_exactly : (c : Call) → ((face_of c s).answer ≡ 3) ↔ (InOrder c × (OutOfRange c ⊎ (Reached s → ⊥)))
  three_exactly c =
      let is = three_is c in
      (λ e. is.0 (refused_told (machine.step_of (call_of c) (state_of s)).answer Refusal.Rules e), λ h. ap answer_number (is.1 h))

  -- whatever C lends, changed or not: it is refused, or calls gave it back
  pub told_apart : (c : Call) → (is_refusal (face_of c s).answer ≡ true) ⊎ Reached s
  told_apart c = by (keeps_rules (state_of s)) refl
    where
      broken : keeps_rules (state_of s) ≡ false → Made (call_of c) (state_of s) → is_refused (machine.step_of (call_of c) (state_of s)).answer ≡ true
      broken off (stays k is) = ap (λ (st : Stepped). is_refused st.answer) is
      broken off (goes is bit) = ap (λ (st : Stepped). is_refused st.answer) is ∙ ap is_refused (broken_three (state_of s) off (plainly_made c))

      by : (t : Bool) → keeps_rules (state_of s) ≡ t → (is_refusal (face_of c s).answer ≡ true) ⊎ Reached s
      by true on = inr ((exact_seen s).0 on)
      by false off = inl (refusal_told (machine.step_of (call_of c) (state_of s)).answer ∙ broken off (made (call_of c) (state_of s)))

-- ---- the output

-- a refusal leaves every byte
pub bytes_stay : (destination source tag present status : ℕ) (body out : List ℕ) (s : State)
    → is_refusal (face_of (respond destination source tag present status body out) s).answer ≡ true → bytes_of destination source tag present status body out s ≡ out
unfolding respond_step respond_bytes
bytes_stay destination source tag present status body out s e = by (causes.verdict all)
  where
    all : List Cause
    all = respond_causes (state_of s) (response_head (state_of s) destination source tag present status) body out

    by : causes.Verdict all → bytes_of destination source tag present status body out s ≡ out
    by (causes.stopped k v) = v (List ℕ) (λ _. out) _
    by (causes.passes off v) = impossible (ap (λ (st : Stepped). is_refusal (answer_number st.answer)) (sym (v Stepped (refused (state_of s)) (responded (state_of s)))) ∙ e)
