-- Request a) as C sees it: a form that is not written is refused, and a state whose numbers name no transfer breaks its rules. Assumes nothing.
use Rattle.std.specs.Prelude.{ℕ, ◌<◌, not, ◌&&◌, List, [], ◌∷◌, ◌≡◌, ltb, eqb, length, Err, Ok, Result}
use Rattle.refusals.specs.Causes.{Cause, ◌when◌, Ground, ◌if◌, refuse}
use Rattle.refusals.specs.Refusals.{number_of}
use Rattle.refusals.specs.declared.Refusal.{Refusal}
use Rattle.transfer.specs.Rules.{keeps_rules}
use Rattle.transfer.specs.Steps.{limit}
use Rattle.saved.specs.Saved as saved
use Rattle.saved.specs.Saved.{newest, room_of, line_of, laid}
use Rattle.saved.specs.declared.Saved as line
use Rattle.transfer_lent.specs.Lent.{formed, state_of, shown}
use Rattle.transfer_lent.specs.History.{Reached}
use Rattle.transfer_lent.specs.declared.Saved.{Saved}
use Rattle.transfer_lent.specs.declared.State.{State}
use Rattle.transfer_lent.specs.declared.Step.{Step}

-- 0, or the refusal's number
abbrev pub checked_number : Result (Unit {0}) Refusal → ℕ
checked_number (Ok tt) = 0
checked_number (Err k) = number_of k

-- 01 REFUSAL.1 01 REFUSAL.2 01 REFUSAL.3 01 REFUSAL.11
-- a form that is not written has no room to ask for
abbrev pub save_causes : State → ℕ → List ℕ → List Cause
save_causes s form out =
    (Refusal.Length when (eqb form newest && ltb (length out) (room_of form)))
    ∷ (Refusal.Unlisted when not (eqb form newest))
    ∷ (Refusal.Rules when not (formed s && keeps_rules limit (state_of s)))
    ∷ []

-- the same in words
abbrev pub save_grounds : State → ℕ → List ℕ → List Ground
save_grounds s form out =
    (Refusal.Length if ((form ≡ 1) × (length out < 69)))
    ∷ (Refusal.Unlisted if (form ≡ 1 → ⊥))
    ∷ (Refusal.Rules if (Reached s → ⊥))
    ∷ []

abbrev pub told : line.Saved → Saved
told r = record { length = r.length; answer = checked_number r.answer }

abbrev pub unsaved : Refusal → Saved
unsaved k = record { length = 0; answer = number_of k }

-- what `save` promises of its answer r and of the output as it leaves it
pub record Save (s : State) (form : ℕ) (before : List ℕ) (r : Saved) (after : List ℕ) : Type 0 where
  pub answer : r ≡ refuse unsaved (save_causes s form before) (record { length = length (line_of form (state_of s)); answer = 0 })
  pub bytes : after ≡ refuse (λ _. before) (save_causes s form before) (laid (line_of form (state_of s)) before)

-- what `restore` gives
abbrev pub restore_of : List ℕ → Step
restore_of line = record { state = shown (saved.restore_of line).state; answer = checked_number (saved.restore_of line).answer }

-- the line is that of a state which calls gave back
pub record LeftLine (form : ℕ) (line : List ℕ) : Type 0 where
  pub state : State
  pub reached : Reached state
  pub is : line ≡ line_of form (state_of state)
