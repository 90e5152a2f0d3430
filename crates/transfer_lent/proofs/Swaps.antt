-- A state that calls gave back is saved and read back to the last member: the line is that of the transfer which its numbers say, and a transfer is shown by the
-- numbers that say it. Assumes nothing.
use Prim.Native.Nat.{ℕ}
use mathlib.Core.Bool.{Bool, true, false, ◌&&◌}
use mathlib.Core.List.{List}
use mathlib.Core.Logic.{◌↔◌}
use mathlib.Core.Path.{◌≡◌, refl, sym, ap, subst, ◌∙◌}
use native.Mathlib.Omega.{arith}
use borrow.Author.Tests.{eqb-true, not-false}
use lib.Dec.{eqb}
use lib.ListN.{length, take}
use Rattle.laws.proofs.Bools.{clash, and_left, and_right, and_true}
use Rattle.laws.proofs.Tests.{less, equal, both, unless}
use Rattle.refusals.specs.Causes.{Decides, nil, cons}
use Rattle.refusals.specs.Refusals.{number_of}
use Rattle.refusals.proofs.Causes.{through}
use Rattle.refusals.proofs.Numbers.{one_number, not_zero}
use Rattle.transfer.specs.Rules.{keeps_rules}
use Rattle.transfer.specs.Steps.{limit}
use Rattle.transfer.proofs.Exact as transfer
use Rattle.saved.specs.Saved as saved
use Rattle.saved.specs.Saved.{newest, bound_of, room_of, line_of}
use Rattle.saved.specs.Grounds as plainly
use Rattle.saved.specs.declared.Restored.{Restored}
use Rattle.saved.proofs.Trips.{line_again}
use Rattle.saved.proofs.Exact.{exact}
use Rattle.saved.proofs.Laid.{Lays, no_cause, in_front}
use Rattle.saved.proofs.Calls as lines
use Rattle.transfer_lent.specs.Lent.{formed, state_of, shown}
use Rattle.transfer_lent.specs.History.{zeros, Reached}
use Rattle.transfer_lent.specs.Saves.{checked_number, save_causes, save_grounds, unsaved, Save, restore_of, LeftLine}
use Rattle.transfer_lent.specs.declared.Saved.{Saved}
use Rattle.transfer_lent.specs.declared.State.{State}
use Rattle.transfer_lent.specs.declared.Step.{Step}
use Rattle.transfer_lent.proofs.Members.{formed_back, shown_back}
use Rattle.transfer_lent.proofs.Reach.{good_reached, reached_good, reached_shown}

-- ---- save

-- a state names a transfer that keeps its rules exactly if calls gave it back
good_exactly : (s : State) → (formed s && keeps_rules limit (state_of s) ≡ true) ↔ Reached s
good_exactly s = (
  (λ e. good_reached s (and_left (formed s) _ e) (and_right (formed s) _ e)),
  (λ r. let good = reached_good s r in and_true good.0 good.1),
)

-- and then its line gives it back
good_back : (s : State) → formed s && keeps_rules limit (state_of s) ≡ true → restore_of (line_of newest (state_of s)) ≡ record { state = s; answer = 0 }
good_back s good =
    let is = lines.restore_back (state_of s) (and_right (formed s) _ good) in
    (λ i. record { state = shown (is i).state; answer = checked_number (is i).answer })
    ∙ (λ i. record { state = formed_back s (and_left (formed s) _ good) i; answer = 0 })

pub restore_back : (s : State) → Reached s → restore_of (line_of newest (state_of s)) ≡ record { state = s; answer = 0 }
restore_back s reached = good_back s ((good_exactly s).1 reached)

pub save_decides : (s : State) (form : ℕ) (out : List ℕ) → Decides (save_causes s form out) (save_grounds s form out)
save_decides s form out = cons (both (equal form newest) (less (length out) (room_of form))) (cons (unless (equal form newest)) (cons (unless (good_exactly s)) nil))

module _ {s : State} {form : ℕ} {before after : List ℕ} {r : Saved} (p : Save s form before r after) where
  pub lays : Lays number_of 0 one_number not_zero (save_causes s form before) (line_of form (state_of s)) before r.answer r.length after
  lays = record {
    answers = ap (λ (x : Saved). x.answer) p.answer ∙ through (λ (x : Saved). x.answer) unsaved (save_causes s form before) _;
    counts = ap (λ (x : Saved). x.length) p.answer ∙ through (λ (x : Saved). x.length) unsaved (save_causes s form before) _;
    bytes = p.bytes;
  }

  -- a swap, save and then restore, gives the state back
  pub swap_back : r.answer ≡ 0 → restore_of (take r.length after) ≡ record { state = s; answer = 0 }
  swap_back took =
      let off = no_cause number_of 0 one_number not_zero lays took in
      let form_is : form ≡ newest = eqb-true form newest (not-false (eqb form newest) off.1.0) in
      let line : take r.length after ≡ line_of newest (state_of s) = in_front number_of 0 one_number not_zero lays took ∙ ap (λ (f : ℕ). line_of f (state_of s)) form_is in
      ap restore_of line ∙ good_back s (not-false (formed s && keeps_rules limit (state_of s)) off.1.1.0)

-- ---- restore

-- a line is of a state that calls gave back exactly if it is of a transfer that a history leaves
left_shown : (line : List ℕ) → plainly.LeftLine (bound_of newest) newest line ↔ LeftLine newest line
left_shown line = (
  (λ l. record { state = shown l.state; reached = reached_shown l.state l.reached; is = l.is ∙ ap (line_of newest) (sym (shown_back l.state)) }),
  (λ l. record { state = state_of l.state; reached = (transfer.exact (bound_of newest) (omega arith) (state_of l.state)).0 (reached_good l.state l.reached).1; is = l.is }),
)

-- 0 and the state whose line it is, or 2 and all zeros
pub data Gives (line : List ℕ) : Type 0 where
  some : (restore_of line).answer ≡ 0 → Reached (restore_of line).state → line ≡ line_of newest (state_of (restore_of line).state) → Gives line
  none : (LeftLine newest line → ⊥) → restore_of line ≡ record { state = zeros; answer = 2 } → Gives line

module _ (line : List ℕ) where
  shows : (r : Restored) → saved.restore_of line ≡ r → restore_of line ≡ record { state = shown r.state; answer = checked_number r.answer }
  shows r e = λ i. record { state = shown (e i).state; answer = checked_number (e i).answer }

  pub gives : Gives line
  gives = by (saved.taken newest line) refl
    where
      by : (t : Bool) → saved.taken newest line ≡ t → Gives line
      by true e =
          let is = shows _ (lines.restore_taken line e) in
          let t = saved.state_of line in
          let reached = (transfer.exact (bound_of newest) (omega arith) t).0 (and_right (saved.shaped newest line) _ e) in
          some
          (ap (λ (r : Step). r.answer) is)
          (subst Reached (sym (ap (λ (r : Step). r.state) is)) (reached_shown t reached))
          (sym (line_again newest line (and_left (saved.shaped newest line) _ e)) ∙ ap (line_of newest) (sym (shown_back t) ∙ ap (λ (r : Step). state_of r.state) (sym is)))
      by false e = none (λ l. clash (saved.taken newest line) ((exact newest (omega arith) line).1 ((left_shown line).1 l)) e) (shows _ (lines.restore_other line e))

  pub restore_exactly : ((restore_of line).answer ≡ 0) ↔ LeftLine newest line
  restore_exactly = by gives
    where
      by : Gives line → ((restore_of line).answer ≡ 0) ↔ LeftLine newest line
      by (some zero reached is) = (λ _. record { state = (restore_of line).state; reached = reached; is = is }, λ _. zero)
      by (none off two) = (λ zero. let z : ◌≡◌ {A = ℕ} 0 2 = sym zero ∙ ap (λ (r : Step). r.answer) two in absurd (omega arith), λ l. absurd (off l))

  -- what is taken has the form
  pub taken_shaped : (restore_of line).answer ≡ 0 → saved.shaped newest line ≡ true
  taken_shaped zero = and_left (saved.shaped newest line) _ ((exact newest (omega arith) line).1 ((left_shown line).1 (restore_exactly.0 zero)))
