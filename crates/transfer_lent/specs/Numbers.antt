-- The numbers of a transfer's phases and of what its calls answer. Past the last phase's number the last stands in, and nobody asks.
-- Assumes nothing.
use Rattle.refusals.specs.declared.Refusal.{Refusal}
use Rattle.std.specs.Prelude.{ℕ, List, [], ◌∷◌, get_or, Err, Ok, Result}
use Rattle.refusals.specs.Refusals.{number_of}
use Rattle.transfer.specs.declared.Answer.{Answer}
use Rattle.transfer.specs.declared.Phase.{Phase}

abbrev pub phase_number : Phase → ℕ
phase_number Phase.New = 0
phase_number Phase.Run = 1
phase_number Phase.Drain = 2
phase_number Phase.Done = 3
phase_number Phase.Fail = 4
phase_number Phase.End = 5

abbrev pub phases : List Phase
phases = Phase.New ∷ Phase.Run ∷ Phase.Drain ∷ Phase.Done ∷ Phase.Fail ∷ Phase.End ∷ []

abbrev pub phase_of : ℕ → Phase
phase_of n = get_or phases n Phase.End

-- 01 FORM.9: Where an answer is an enum, a definition gives this paper's number and values for each of its cases, and the promises use that definition.
abbrev pub answer_number : Result Answer Refusal → ℕ
answer_number (Ok Answer.Ok) = 0
answer_number (Ok Answer.Sent) = 16
answer_number (Ok Answer.Drain) = 17
answer_number (Ok Answer.Retry) = 18
answer_number (Ok Answer.Done) = 19
answer_number (Ok Answer.Fail) = 20
answer_number (Ok Answer.End) = 21
answer_number (Err k) = number_of k
