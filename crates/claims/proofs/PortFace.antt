-- What C sees of each of the port's ten calls is the machine's own call on the port that the numbers say, in numbers, and the list as that call
-- leaves it; whatever is refused comes back as it was lent; and over any calls C sees the machine's run. Assumes nothing.
use Rattle.std.specs.Prelude.{Err, Result}
use Prim.Native.Nat.{ℕ}
use mathlib.Core.Bool.{true, false}
use mathlib.Core.List.{List, [], ◌∷◌, map}
use mathlib.Core.Logic.{◌↔◌}
use mathlib.Core.Path.{◌≡◌, refl, sym, ap, subst, ◌∙◌}
use lib.ListN.{length}
use Rattle.refusals.specs.Causes.{First}
use Rattle.refusals.specs.Refusals.{number_of}
use Rattle.refusals.specs.declared.Refusal.{Refusal}
use Rattle.open_lent.specs.Typed.{typed_open}
use Rattle.port_parts.specs.Reasons.{reason_of}
use Rattle.port_parts.specs.declared.Port.{Port}
use Rattle.port_parts.specs.declared.Reason.{Reason}
use Rattle.port_parts.specs.declared.Request.{Request}
use Rattle.port_rules.specs.Kept.{Kept}
use Rattle.port_rows.specs.declared.Answer.{Answer}
use Rattle.port_rows.specs.declared.Word.{Word}
use Rattle.port.specs.Grounds.{grounds_of}
use Rattle.port.specs.History.{State, Call, setup, submit, cancel, choose, opened, open_failed, frame_status, closed, enable, disable, done_of, stepped_by, is_refused}
use Rattle.port.specs.History as machine
use Rattle.port_invariant.specs.Ranged.{Ranged}
use Rattle.port_invariant.proofs.Leaves.{refused_so}
use Rattle.port_invariant.proofs.Runs.{kept_since}
use Rattle.port_invariant.proofs.Three.{never_three_since}
use Rattle.port_lent.specs.declared.Port.{Port as LentPort}
use Rattle.port_lent.specs.declared.PortStep.{PortStep}
use Rattle.port_lent.specs.Numbers.{reason_number, word_number, detail_of}
use Rattle.port_lent.specs.Lent.{formed, no_port, port_of, port_shown}
use Rattle.port_lent.specs.Given.{time_of, submission_of, withdrawn_of, confirmed_of, failure_of, report_of}
use Rattle.port_lent.specs.Face.{shown, refused}
use Rattle.port_lent.specs.Runs.{Lent, state_of, plainly, Keeps, lent_to, face_of, list_of, Sees, is_refusal, leave, run}
use Rattle.port_lent.specs.Typed.{typed_words, typed_answers, typed_details, typed_reasons, typed_lent, typed_port, typed_submission, typed_withdrawn, typed_time, typed_confirmed, typed_failure, typed_report}
use Rattle.port_lent.proofs.Words.{reason_back, refusal_exactly, one_word, words_typed, details_typed, reasons_typed}
use Rattle.port_lent.proofs.Trips.{shown_formed, formed_says, port_back, lent_back, typed_says, typed_shown, typed_submission_lem, typed_withdrawn_lem, typed_time_lem, typed_confirmed_lem, typed_failure_lem, typed_report_lem}
use Rattle.port_lent.proofs.Runs.{said, refusal_is, refuses, keeps_exactly, unset, leaves, runs}
use Rattle.sonerwal.specs.contracts.ports.sonerwal_port_setup as face_setup
use Rattle.sonerwal.specs.contracts.ports.sonerwal_port_submit as face_submit
use Rattle.sonerwal.specs.contracts.ports.sonerwal_port_cancel as face_cancel
use Rattle.sonerwal.specs.contracts.ports.sonerwal_port_choose as face_choose
use Rattle.sonerwal.specs.contracts.ports.sonerwal_port_opened as face_opened
use Rattle.sonerwal.specs.contracts.ports.sonerwal_port_open_failed as face_open_failed
use Rattle.sonerwal.specs.contracts.ports.sonerwal_port_frame_status as face_frame_status
use Rattle.sonerwal.specs.contracts.ports.sonerwal_port_closed as face_closed
use Rattle.sonerwal.specs.contracts.ports.sonerwal_port_enable as face_enable
use Rattle.sonerwal.specs.contracts.ports.sonerwal_port_disable as face_disable
use Rattle.claims.proofs.Walked.{Means}

abbrev lent : LentPort → List Request → Lent
lent p l = record { port = p; list = l }

-- ---- refusals

-- by C's number
refused_word : (c : Call) (s : Lent) (k : Refusal) → (face_of c s).answer ≡ number_of k → said c s ≡ Err k
refused_word c s k n = (refusal_exactly (said c s) k).0 n

refused_seen : (c : Call) (s : Lent) (k : Refusal) → (face_of c s).answer ≡ number_of k → (face_of c s ≡ refused (lent_to c s.port) k) × (list_of c s ≡ s.list)
refused_seen c s k n =
    let r = stepped_by c (state_of s) in
    let so = refused_so c (state_of s) k r (list_of c s) (refl, refl) (refused_word c s k n) in
    (ap (λ (a : Answer). shown (lent_to c s.port) (record { answer = a; port = r.port })) so.1.1, so.1.0)

-- a call that answers 0 is taken
taken : (c : Call) (s : Lent) → (face_of c s).answer ≡ 0 → is_refused (said c s) ≡ false
taken c s n = sym (refusal_is c s) ∙ ap is_refusal n

-- ---- any calls behind an accepted setup

module _ (count loss : ℕ) (s : Lent) (n : (face_of (setup count loss) s).answer ≡ 0) (cs : List Call) where
  abbrev behind : Lent
  behind = run (setup count loss ∷ cs) s

  keeps_all : Keeps behind
  keeps_all =
      (keeps_exactly behind).0 (subst (λ (t : State). Kept t.port t.list) (sym (runs (setup count loss ∷ cs) s)) (kept_since count loss (state_of s) (taken (setup count loss) s n) cs))

  never_three : (c : Call) → Ranged c → (face_of c behind).answer ≡ 3 → ⊥
  never_three c ranged e =
      never_three_since count loss (state_of s) (taken (setup count loss) s n) cs c ranged
      (subst (λ (t : State). (stepped_by c t).answer.word ≡ Err Refusal.Rules) (runs (setup count loss ∷ cs) s) (refused_word c behind Refusal.Rules e))

-- 01 PORT.1 01 PORT.2 01 PORT.3 01 REFUSAL.1 01 REFUSAL.2 01 REFUSAL.3 01 REFUSAL.12 01 FORM.9
pub record PortFace : Type 2 where
  -- what each of the ten functions promises, as the checker makes it of its source, is what C is said to see of its call, and the list behind it; a
  -- holds the list, the port and the numbers that the call is given, e the list at the end, and a setup is lent no port
  pub face_setup : (p : LentPort) → Means face_setup.ended (λ M 𝓤. face_setup.spec) (λ κs a r e. Sees (setup a.1.0 a.1.1.0) (lent p a.0.now) r e.0.now)
  pub face_submit : Means face_submit.ended (λ M 𝓤. face_submit.spec) (λ κs a r e. Sees (submit (submission_of a.1.1.0 a.1.1.1.0)) (lent a.1.0 a.0.now) r e.0.now)
  pub face_cancel : Means face_cancel.ended (λ M 𝓤. face_cancel.spec) (λ κs a r e. Sees (cancel (withdrawn_of a.1.1.0 a.1.1.1.0 a.1.1.1.1.0 a.1.1.1.1.1.0)) (lent a.1.0 a.0.now) r e.0.now)
  pub face_choose : Means face_choose.ended (λ M 𝓤. face_choose.spec) (λ κs a r e. Sees (choose (time_of a.1.1.0)) (lent a.1.0 a.0.now) r e.0.now)
  pub face_opened : Means face_opened.ended (λ M 𝓤. face_opened.spec) (λ κs a r e. Sees (opened (confirmed_of a.1.1.0 a.1.1.1.0)) (lent a.1.0 a.0.now) r e.0.now)
  pub face_open_failed : Means face_open_failed.ended (λ M 𝓤. face_open_failed.spec) (λ κs a r e. Sees (open_failed (failure_of a.1.1.0 a.1.1.1.0 a.1.1.1.1.0)) (lent a.1.0 a.0.now) r e.0.now)
  pub face_frame_status : Means face_frame_status.ended (λ M 𝓤. face_frame_status.spec) (λ κs a r e. Sees (frame_status (report_of a.1.1.0 a.1.1.1.0 a.1.1.1.1.0)) (lent a.1.0 a.0.now) r e.0.now)
  pub face_closed : Means face_closed.ended (λ M 𝓤. face_closed.spec) (λ κs a r e. Sees (closed (confirmed_of a.1.1.0 a.1.1.1.0)) (lent a.1.0 a.0.now) r e.0.now)
  pub face_enable : Means face_enable.ended (λ M 𝓤. face_enable.spec) (λ κs a r e. Sees (enable (confirmed_of a.1.1.0 a.1.1.1.0)) (lent a.1.0 a.0.now) r e.0.now)
  pub face_disable : Means face_disable.ended (λ M 𝓤. face_disable.spec) (λ κs a r e. Sees (disable (confirmed_of a.1.1.0 a.1.1.1.0)) (lent a.1.0 a.0.now) r e.0.now)
  -- which is the machine's own call on the port that the numbers say: its answer and its port in numbers, and every record
  pub sees : (c : Call) (s : Lent) (r : PortStep) (after : List Request) → Sees c s r after → (r ≡ face_of c s) × (after ≡ list_of c s)
  -- well formed numbers say the port as they stand
  pub says : (p : LentPort) → formed p ≡ true → port_of p ≡ plainly p
  -- refusal k exactly if k is the first ground that holds of what the numbers say
  pub refuses : (c : Call) (s : Lent) (k : Refusal) → ((face_of c s).answer ≡ number_of k) ↔ First (grounds_of c (state_of s)) k
  -- and there the rules are kept exactly if the numbers are well formed and say a port that keeps them
  pub kept : (s : Lent) → Kept (port_of s.port) s.list ↔ Keeps s
  -- a refusal gives only its number: the port comes back as it was lent, to the last member, of a setup zeros, and every record stays
  pub keeps : (c : Call) (s : Lent) (k : Refusal) → (face_of c s).answer ≡ number_of k → (face_of c s ≡ refused (lent_to c s.port) k) × (list_of c s ≡ s.list)
  -- a port is shown as well formed numbers that say it, and well formed numbers are those that it is shown as; a port has eight phys
  pub shown_formed : (p : Port) → formed (port_shown p) ≡ true
  pub shown_says : (p : Port) → port_of (port_shown p) ≡ p
  pub says_shown : (p : LentPort) → length p.phys ≡ 8 → formed p ≡ true → port_shown (port_of p) ≡ p
  -- all zeros is a port before its setup, which keeps no rules
  pub unset : (l : List Request) → Keeps (lent no_port l) → ⊥
  -- over any calls, each lent what the call before it gave back, C's numbers say the machine's run, of which `Ports`, `Leaving` and `Times` speak
  pub leaves : (c : Call) (s : Lent) → state_of (leave c s) ≡ machine.leave c (state_of s)
  pub runs : (cs : List Call) (s : Lent) → state_of (run cs s) ≡ machine.run cs (state_of s)
  -- so behind an accepted setup no call answers 3 but a setup whose own numbers are out of range
  pub keeps_all : (count loss : ℕ) (s : Lent) → (face_of (setup count loss) s).answer ≡ 0 → (cs : List Call) → Keeps (run (setup count loss ∷ cs) s)
  pub never_three : (count loss : ℕ) (s : Lent) → (face_of (setup count loss) s).answer ≡ 0 → (cs : List Call) (c : Call) → Ranged c → (face_of c (run (setup count loss ∷ cs) s)).answer ≡ 3 → ⊥
  -- no two words share number and detail, and a reason's number is the one by which Open Failed takes it
  pub one_word : (w v : Result Word Refusal) → word_number w ≡ word_number v → detail_of w ≡ detail_of v → w ≡ v
  pub reason_back : (why : Reason) → reason_of (reason_number why) ≡ why
  -- the numbers are those typed a second time, and each number of a port stands in its own place
  pub typed_words_lem : map word_number typed_words ≡ typed_answers
  pub typed_details_lem : map detail_of typed_words ≡ typed_details
  pub typed_reasons_lem : map reason_number typed_reasons ≡ 0 ∷ 1 ∷ 2 ∷ 3 ∷ 4 ∷ 5 ∷ 6 ∷ 7 ∷ 8 ∷ 9 ∷ []
  pub typed : port_of typed_lent ≡ typed_port
  pub typed_shown : port_shown typed_port ≡ typed_lent
  -- and so does each that a call is given
  pub typed_submission_lem : submission_of typed_open 60 ≡ typed_submission
  pub typed_withdrawn_lem : withdrawn_of 61 62 63 64 ≡ typed_withdrawn
  pub typed_time_lem : time_of 65 ≡ typed_time
  pub typed_confirmed_lem : confirmed_of 66 67 ≡ typed_confirmed
  pub typed_failure_lem : failure_of 68 69 70 ≡ typed_failure
  pub typed_report_lem : report_of 71 72 73 ≡ typed_report

pub port_face : PortFace
unfolding done_of
port_face = record {
  face_setup = λ p. record { is = λ w κs a g r. refl };
  face_submit = record { is = λ w κs a g r. refl };
  face_cancel = record { is = λ w κs a g r. refl };
  face_choose = record { is = λ w κs a g r. refl };
  face_opened = record { is = λ w κs a g r. refl };
  face_open_failed = record { is = λ w κs a g r. refl };
  face_frame_status = record { is = λ w κs a g r. refl };
  face_closed = record { is = λ w κs a g r. refl };
  face_enable = record { is = λ w κs a g r. refl };
  face_disable = record { is = λ w κs a g r. refl };
  sees = λ c s r after p. p;
  says = formed_says;
  refuses = refuses;
  kept = keeps_exactly;
  keeps = refused_seen;
  shown_formed = shown_formed;
  shown_says = port_back;
  says_shown = lent_back;
  unset = unset;
  leaves = leaves;
  runs = runs;
  keeps_all = keeps_all;
  never_three = never_three;
  one_word = one_word;
  reason_back = reason_back;
  typed_words_lem = words_typed;
  typed_details_lem = details_typed;
  typed_reasons_lem = reasons_typed;
  typed = typed_says;
  typed_shown = typed_shown;
  typed_submission_lem = typed_submission_lem;
  typed_withdrawn_lem = typed_withdrawn_lem;
  typed_time_lem = typed_time_lem;
  typed_confirmed_lem = typed_confirmed_lem;
  typed_failure_lem = typed_failure_lem;
  typed_report_lem = typed_report_lem;
}
