-- The numbers by which C sees a transfer: each table is read backwards by its own list, as crate transfer_lent shows. Assumes nothing.
use Rattle.refusals.specs.declared.Refusal.{Refusal}
use Rattle.std.specs.Prelude.{Result}
use Prim.Native.Nat.{ℕ, ◌<◌}
use mathlib.Core.Bool.{Bool, true}
use mathlib.Core.List.{[], ◌∷◌, map}
use mathlib.Core.Path.{◌≡◌, refl}
use lib.Dec.{eqb}
use Rattle.laws.specs.Names.{Named, flag}
use Rattle.laws.proofs.Names.{flag_named}
use Rattle.transfer.specs.Rules.{unstarted}
use Rattle.transfer.specs.declared.Answer.{Answer}
use Rattle.transfer.specs.declared.Phase.{Phase}
use Rattle.transfer.specs.declared.Transfer.{Transfer}
use Rattle.transfer_lent.specs.Numbers.{phase_number, phase_of, answer_number}
use Rattle.transfer_lent.specs.Lent.{formed, state_of, shown}
use Rattle.transfer_lent.specs.History.{zeros}
use Rattle.transfer_lent.specs.Typed.{typed_phases, typed_answers, typed_answer_numbers}
use Rattle.transfer_lent.specs.declared.State.{State}
use Rattle.transfer_lent.proofs.Trips.{phase_named, one_answer}
use Rattle.transfer_lent.proofs.Typed.{phases_typed, answers_typed}
use Rattle.transfer_lent.proofs.Members.{shown_formed, shown_back, formed_back}

pub record TransferNumbers : Type 0 where
  -- a number names a phase or a flag exactly if it is that one's own
  pub phases : Named (λ (n : ℕ) (p : Phase). (n < 6) × (phase_of n ≡ p)) phase_number
  pub flags : Named (λ (n : ℕ) (t : Bool). (n < 2) × (eqb n 1 ≡ t)) flag
  -- no two answers share a number
  pub answers : (a b : Result Answer Refusal) → answer_number a ≡ answer_number b → a ≡ b
  -- a transfer shown is formed, and is read back as it was; formed numbers are shown as they were
  pub forms : (t : Transfer) → formed (shown t) ≡ true
  pub reads : (t : Transfer) → state_of (shown t) ≡ t
  pub shows : (s : State) → formed s ≡ true → shown (state_of s) ≡ s
  -- 01 READ.16
  -- all zeros is the state before START
  pub begins : shown unstarted ≡ zeros
  -- and the numbers are those that are typed a second time
  pub typed_phases_lem : map phase_number typed_phases ≡ 0 ∷ 1 ∷ 2 ∷ 3 ∷ 4 ∷ 5 ∷ []
  pub typed_answers_lem : map answer_number typed_answers ≡ typed_answer_numbers

pub transfer_numbers : TransferNumbers
transfer_numbers = record {
  phases = phase_named;
  flags = flag_named;
  answers = one_answer;
  forms = shown_formed;
  reads = shown_back;
  shows = formed_back;
  begins = refl;
  typed_phases_lem = phases_typed;
  typed_answers_lem = answers_typed;
}
