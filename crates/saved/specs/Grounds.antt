-- Request a): what has to hold for a call to be refused, in words. The form, its room and its bound are numbers here, so that those of the definitions are held
-- against them. Assumes nothing.
use Rattle.std.specs.Prelude.{ℕ, ◌<◌, List, [], ◌∷◌, ◌≡◌, length}
use Rattle.refusals.specs.Causes.{Ground, ◌if◌}
use Rattle.refusals.specs.declared.Refusal.{Refusal}
use Rattle.transfer.specs.Steps.{limit}
use Rattle.transfer.specs.Calls.{Reachable}
use Rattle.transfer.specs.Grounds.{Broken}
use Rattle.transfer.specs.declared.Transfer.{Transfer}
use Rattle.saved.specs.Saved.{line_of}

-- the line of a form is that of the state before START, or of what some START and calls after it leave, where at most `bound` frames may be unanswered
pub record LeftLine (bound form : ℕ) (line : List ℕ) : Type 0 where
  pub state : Transfer
  pub reached : Reachable bound state
  pub is : line ≡ line_of form state

abbrev pub restore_grounds : List ℕ → List Ground
restore_grounds line = (Refusal.Unlisted if (LeftLine 64 1 line → ⊥)) ∷ []

abbrev pub save_grounds : Transfer → List ℕ → List Ground
save_grounds s out = (Refusal.Length if (length out < 69)) ∷ (Refusal.Rules if Broken limit s) ∷ []
