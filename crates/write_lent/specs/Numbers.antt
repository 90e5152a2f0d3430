-- The numbers of a write's phases and of what its calls answer. Past the last phase's number the last stands in, and nobody asks.
-- Assumes nothing.
use Rattle.refusals.specs.declared.Refusal.{Refusal}
use Rattle.std.specs.Prelude.{ℕ, List, [], ◌∷◌, get_or, Err, Ok, Result}
use Rattle.refusals.specs.Refusals.{number_of}
use Rattle.write.specs.declared.Answer.{Answer}
use Rattle.write.specs.declared.Phase.{Phase}

abbrev pub phase_number : Phase → ℕ
phase_number Phase.New = 0
phase_number Phase.Ask = 1
phase_number Phase.Wait = 2
phase_number Phase.Take = 3
phase_number Phase.Done = 4
phase_number Phase.Fail = 5
phase_number Phase.End = 6

abbrev pub phases : List Phase
phases = Phase.New ∷ Phase.Ask ∷ Phase.Wait ∷ Phase.Take ∷ Phase.Done ∷ Phase.Fail ∷ Phase.End ∷ []

abbrev pub phase_of : ℕ → Phase
phase_of n = get_or phases n Phase.End

-- 17, DRAIN, is a read's alone
abbrev pub answer_number : Result Answer Refusal → ℕ
answer_number (Ok Answer.Ok) = 0
answer_number (Ok Answer.Sent) = 16
answer_number (Ok Answer.Retry) = 18
answer_number (Ok Answer.Done) = 19
answer_number (Ok Answer.Fail) = 20
answer_number (Ok Answer.End) = 21
answer_number (Ok Answer.Late) = 22
answer_number (Ok Answer.More) = 23
answer_number (Err k) = number_of k
