-- Each phase's number is its place in the list; an answer that is no refusal is found by its number, which no refusal has. Assumes nothing.
use Rattle.std.specs.Prelude.{Err, Ok, Result}
use Prim.Native.Nat.{ℕ, ◌<◌}
use mathlib.Core.List.{List, [], ◌∷◌}
use mathlib.Core.Logic.{inl, inr}
use mathlib.Core.Path.{◌≡◌, refl, sym, ap, ◌∙◌}
use native.Mathlib.Omega.{arith}
use Rattle.laws.specs.Names.{Named}
use Rattle.laws.proofs.Names.{numbered, in_list}
use Rattle.laws.proofs.Places.{Each}
use Rattle.refusals.specs.Refusals.{number_of}
use Rattle.refusals.specs.declared.Refusal.{Refusal}
use Rattle.reply.specs.declared.Phase.{Phase}
use Rattle.reply.specs.declared.Answer.{Answer}
use Rattle.reply.specs.declared.Answer.TheVariants.{Sent, Retry, Done, Fail, End}
use Rattle.reply_lent.specs.Numbers.{phase_number, phases, phase_of, answer_number}
use Rattle.reply_lent.proofs.Told.{zero_free, past_free, Told, one}

pub phase_back : (p : Phase) → (phase_number p < 6) × (phase_of (phase_number p) ≡ p)
phase_back Phase.New = (omega arith, refl)
phase_back Phase.Ask = (omega arith, refl)
phase_back Phase.Wait = (omega arith, refl)
phase_back Phase.Done = (omega arith, refl)
phase_back Phase.Fail = (omega arith, refl)
phase_back Phase.End = (omega arith, refl)

phases_placed : Each (λ (n : ℕ) (p : Phase). n ≡ phase_number p) 0 phases
phases_placed = (refl, (refl, (refl, (refl, (refl, (refl, tt))))))

pub phase_at : (n : ℕ) → n < 6 → n ≡ phase_number (phase_of n)
phase_at = numbered phase_number phases Phase.End phases_placed

pub phase_named : Named (λ (n : ℕ) (p : Phase). (n < 6) × (phase_of n ≡ p)) phase_number
phase_named = in_list phase_number phases Phase.End phases_placed phase_back

pub one_phase : (p q : Phase) → phase_number p ≡ phase_number q → p ≡ q
one_phase p q e = sym (phase_back p).1 ∙ ap phase_of e ∙ (phase_back q).1

-- whatever is no refusal
abbrev happened : List (Result Answer Refusal)
happened = (Ok Answer.Ok) ∷ (Ok Sent) ∷ (Ok Retry) ∷ (Ok Done) ∷ (Ok Fail) ∷ (Ok End) ∷ []

answer_told : (a : Result Answer Refusal) → Told answer_number Err happened (Ok Answer.Ok) a
answer_told (Ok Answer.Ok) = inr (zero_free, refl)
answer_told (Ok Sent) = inr (past_free (omega arith), refl)
answer_told (Ok Retry) = inr (past_free (omega arith), refl)
answer_told (Ok Done) = inr (past_free (omega arith), refl)
answer_told (Ok Fail) = inr (past_free (omega arith), refl)
answer_told (Ok End) = inr (past_free (omega arith), refl)
answer_told (Err k) = inl (k, refl)

-- no two answers share a number
pub one_answer : (a b : Result Answer Refusal) → answer_number a ≡ answer_number b → a ≡ b
one_answer a b = one answer_number Err happened (Ok Answer.Ok) (λ k. refl) a b (answer_told a) (answer_told b)

-- a refusal is told by its number
pub refused_told : (a : Result Answer Refusal) (k : Refusal) → answer_number a ≡ number_of k → a ≡ Err k
refused_told a k e = one_answer a (Err k) e
