-- Refusal 3 of a state that keeps its rules: every other cause has another number, and so only a START whose own numbers are out of
-- range is refused with 3. Assumes nothing.
use Rattle.std.specs.Prelude.{Err, Ok, Result}
use Prim.Native.Nat.{ℕ}
use mathlib.Core.Bool.{Bool, true, false, not}
use mathlib.Core.List.{List, [], ◌∷◌}
use mathlib.Core.Logic.{◌↔◌}
use mathlib.Core.Path.{◌≡◌, refl, sym, ap, ◌∙◌}
use lib.Dec.{eqb}
use lib.ListN.{drop}
use borrow.Author.Tests.{not-true}
use Rattle.laws.proofs.Bools.{never, by_test}
use Rattle.laws.proofs.Tests.{unless}
use Rattle.refusals.specs.Causes.{Cause, ◌when◌, refuse}
use Rattle.refusals.specs.Refusals.{number_of}
use Rattle.refusals.specs.declared.Refusal.{Refusal}
use Rattle.transfer.specs.Rules.{in_range, keeps_rules}
use Rattle.transfer.specs.Steps.{started, refused, say, start_causes, frame_causes, answer_causes, end_causes, start_step}
use Rattle.transfer.specs.Calls.{Call, start, frame, ack, nak, timeout, lost, nexus, cancel, step_of}
use Rattle.transfer.specs.Grounds.{OutOfRange}
use Rattle.transfer.specs.History.{is_refused}
use Rattle.transfer.specs.declared.Transfer.{Transfer}
use Rattle.transfer.specs.declared.Stepped.{Stepped}
use Rattle.transfer.specs.declared.Answer.{Answer}
use Rattle.transfer.proofs.Facts.{in_range_lem}
use Rattle.transfer.proofs.Refusals.{causes_of, goes_on, step_is, taken}

abbrev pub is_three : Result Answer Refusal → Bool
is_three (Ok Answer.Ok) = false
is_three (Ok Answer.Sent) = false
is_three (Ok Answer.Drain) = false
is_three (Ok Answer.Retry) = false
is_three (Ok Answer.Done) = false
is_three (Ok Answer.Fail) = false
is_three (Ok Answer.End) = false
is_three (Err k) = eqb (number_of k) 3

not_refused : (a : Result Answer Refusal) → is_refused a ≡ false → is_three a ≡ false
not_refused (Ok Answer.Ok) e = refl
not_refused (Ok Answer.Sent) e = refl
not_refused (Ok Answer.Drain) e = refl
not_refused (Ok Answer.Retry) e = refl
not_refused (Ok Answer.Done) e = refl
not_refused (Ok Answer.Fail) e = refl
not_refused (Ok Answer.End) e = refl
not_refused (Err k) e = absurd (never (sym e))

pub none : {a : Result Answer Refusal} → is_three a ≡ false → (a ≡ Err Refusal.Rules) ↔ ⊥
none off = (λ e. never (sym off ∙ ap is_three e), λ (h : ⊥). absurd h)

-- causes of other numbers
abbrev pub Others : List Cause → Type 0
Others [] = Unit {0}
Others (c ∷ cs) = (eqb (number_of c.refusal) 3 ≡ false) × Others cs

module _ (bound : ℕ) (s : Transfer) where
  others : (cs : List Cause) (a : Stepped) → Others cs → is_refused a.answer ≡ false → is_three (refuse (refused s) cs a).answer ≡ false
  others [] a other e = not_refused a.answer e
  others (c ∷ cs) a other e = by_test (λ (st : Stepped). is_three st.answer ≡ false) c.given (λ t. other.0) (λ t. others cs a other.1 e)

  -- what a call checks of a state that keeps its rules
  module _ (kept : keeps_rules bound s ≡ true) where
    pub unbroken : (cs : List Cause) (a : Stepped) → Others cs → is_refused a.answer ≡ false → is_three (refuse (refused s) ((Refusal.Rules when not (keeps_rules bound s)) ∷ cs) a).answer ≡ false
    unbroken cs a other e = rw kept (others cs a other e)

    -- START's own numbers
    ranged : (b n m r : ℕ) → is_three (start_step bound b n m r s).answer ≡ not (in_range b n m r)
    unfolding start_step
    ranged b n m r = by (in_range b n m r) refl
      where
        by : (t : Bool) → in_range b n m r ≡ t → is_three (refuse (refused s) (start_causes bound b n m r s) (say (Ok Answer.Ok) (started b n m r))).answer ≡ not t
        by true q = rw (q, kept) (others (drop 1 (start_causes bound b n m r s)) (say (Ok Answer.Ok) (started b n m r)) (refl, tt) refl)
        by false q = rw q

    ranged_says : (b n m r : ℕ) → ((start_step bound b n m r s).answer ≡ Err Refusal.Rules) ↔ OutOfRange (start b n m r)
    unfolding start_step
    ranged_says b n m r =
        let out = unless (in_range_lem b n m r) in
        (λ e. out.0 (sym (ranged b n m r) ∙ ap is_three e), λ h. rw (not-true (in_range b n m r) (out.1 h)))

    -- the other calls
    quiet : (c : Call) (cs : List Cause) → causes_of bound c s ≡ (Refusal.Rules when not (keeps_rules bound s)) ∷ cs → Others cs → is_three (step_of bound c s).answer ≡ false
    quiet c cs e other =
        ap (λ (st : Stepped). is_three st.answer) (step_is bound c s) ∙ (λ i. is_three (refuse (refused s) (e i) (goes_on c s)).answer) ∙ unbroken cs (goes_on c s) other (taken c s)

    pub three : (c : Call) → ((step_of bound c s).answer ≡ Err Refusal.Rules) ↔ OutOfRange c
    unfolding step_of causes_of
    three (start b n m r) = ranged_says b n m r
    three frame = none (quiet frame (drop 1 (frame_causes bound s)) refl (refl, (refl, (refl, (refl, tt)))))
    three ack = none (quiet ack (drop 1 (answer_causes bound s)) refl (refl, tt))
    three nak = none (quiet nak (drop 1 (answer_causes bound s)) refl (refl, tt))
    three timeout = none (quiet timeout (drop 1 (answer_causes bound s)) refl (refl, tt))
    three lost = none (quiet lost (drop 1 (answer_causes bound s)) refl (refl, tt))
    three nexus = none (quiet nexus (drop 1 (end_causes bound s)) refl (refl, tt))
    three cancel = none (quiet cancel (drop 1 (end_causes bound s)) refl (refl, tt))
