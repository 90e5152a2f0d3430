-- The numbers of a reply a second time, typed. Assumes nothing.
use Rattle.std.specs.Prelude.{ℕ, List, [], ◌∷◌, Err, Ok, Result}
use Rattle.refusals.specs.declared.Refusal.{Refusal}
use Rattle.reply.specs.declared.Answer.{Answer}
use Rattle.reply.specs.declared.Phase.{Phase}

-- before START, ask, wait, done, failed, ended
abbrev pub typed_phases : List Phase
typed_phases = Phase.New ∷ Phase.Ask ∷ Phase.Wait ∷ Phase.Done ∷ Phase.Fail ∷ Phase.End ∷ []

-- 0, the refusals, and from 16 on what happened
abbrev pub typed_answers : List (Result Answer Refusal)
typed_answers =
    (Ok Answer.Ok)
    ∷ Err Refusal.Length ∷ Err Refusal.Unlisted ∷ Err Refusal.Rules ∷ Err Refusal.Phy ∷ Err Refusal.Past
    ∷ Err Refusal.Unfit ∷ Err Refusal.Due ∷ Err Refusal.Sent ∷ Err Refusal.Present ∷ Err Refusal.Full
    ∷ (Ok Answer.Sent) ∷ (Ok Answer.Retry) ∷ (Ok Answer.Done) ∷ (Ok Answer.Fail) ∷ (Ok Answer.End) ∷ []

abbrev pub typed_answer_numbers : List ℕ
typed_answer_numbers = 0 ∷ 1 ∷ 2 ∷ 3 ∷ 4 ∷ 5 ∷ 6 ∷ 7 ∷ 8 ∷ 9 ∷ 10 ∷ 16 ∷ 18 ∷ 19 ∷ 20 ∷ 21 ∷ []
