-- Each table gives the numbers that are typed, by its definition. Assumes nothing.
use mathlib.Core.Path.{◌≡◌, refl}
use mathlib.Core.List.{[], ◌∷◌, map}
use Rattle.write_lent.specs.Numbers.{phase_number, answer_number}
use Rattle.write_lent.specs.Typed.{typed_phases, typed_answers, typed_answer_numbers}

pub phases_typed : map phase_number typed_phases ≡ 0 ∷ 1 ∷ 2 ∷ 3 ∷ 4 ∷ 5 ∷ 6 ∷ []
phases_typed = refl

pub answers_typed : map answer_number typed_answers ≡ typed_answer_numbers
answers_typed = refl
