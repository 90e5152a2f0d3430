-- The numbers by which C sees a write: none is shared, and a write goes to numbers and back. Assumes nothing.
use Rattle.refusals.specs.declared.Refusal.{Refusal}
use Rattle.std.specs.Prelude.{Result}
use Prim.Native.Nat.{ℕ, ◌<◌}
use mathlib.Core.Bool.{true}
use mathlib.Core.List.{[], ◌∷◌, map}
use mathlib.Core.Path.{◌≡◌, refl}
use Rattle.laws.specs.Names.{Named}
use Rattle.write.specs.Rules.{unstarted}
use Rattle.write.specs.declared.Answer.{Answer}
use Rattle.write.specs.declared.Phase.{Phase}
use Rattle.write.specs.declared.Write.{Write}
use Rattle.write_lent.specs.Numbers.{phase_number, phase_of, answer_number}
use Rattle.write_lent.specs.Lent.{formed, state_of, shown}
use Rattle.write_lent.specs.History.{zeros}
use Rattle.write_lent.specs.Typed.{typed_phases, typed_answers, typed_answer_numbers}
use Rattle.write_lent.specs.declared.State.{State}
use Rattle.write_lent.proofs.Trips.{phase_named, one_answer}
use Rattle.write_lent.proofs.Members.{shown_formed, shown_back, formed_back}
use Rattle.write_lent.proofs.Typed.{phases_typed, answers_typed}

pub record WriteNumbers : Type 0 where
  -- a number names a phase exactly if it is that one's own
  pub phases : Named (λ (n : ℕ) (p : Phase). (n < 7) × (phase_of n ≡ p)) phase_number
  -- no two answers share one
  pub answers : (a b : Result Answer Refusal) → answer_number a ≡ answer_number b → a ≡ b
  -- a write goes to numbers and back, and numbers that name one to a write and back
  pub forms : (w : Write) → formed (shown w) ≡ true
  pub reads : (w : Write) → state_of (shown w) ≡ w
  pub shows : (s : State) → formed s ≡ true → shown (state_of s) ≡ s
  -- all zeros is the state before START
  pub begins : shown unstarted ≡ zeros
  -- the numbers are those typed a second time
  pub typed_phases_lem : map phase_number typed_phases ≡ 0 ∷ 1 ∷ 2 ∷ 3 ∷ 4 ∷ 5 ∷ 6 ∷ []
  pub typed_answers_lem : map answer_number typed_answers ≡ typed_answer_numbers

pub write_numbers : WriteNumbers
write_numbers = record {
  phases = phase_named;
  answers = one_answer;
  forms = shown_formed;
  reads = shown_back;
  shows = formed_back;
  begins = refl;
  typed_phases_lem = phases_typed;
  typed_answers_lem = answers_typed;
}
