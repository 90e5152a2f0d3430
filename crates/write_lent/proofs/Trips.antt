-- Each phase's number is its place in the list; an answer that is no refusal is found by its number, which no refusal has. Assumes nothing.
use Rattle.std.specs.Prelude.{Err, Ok, Result}
use Prim.Native.Nat.{ℕ, ◌<◌}
use mathlib.Core.Bool.{cond}
use mathlib.Core.List.{List, [], ◌∷◌}
use mathlib.Core.Path.{◌≡◌, refl, sym, ap, ◌∙◌}
use borrow.Author.Tests.{lt-ltb}
use native.Mathlib.Omega.{arith}
use lib.Dec.{eqb}
use Rattle.laws.specs.Names.{Named}
use Rattle.laws.proofs.Bools.{and_true}
use Rattle.laws.proofs.Names.{numbered, in_list}
use Rattle.laws.proofs.Places.{Each}
use Rattle.refusals.specs.Refusals.{number_of}
use Rattle.refusals.specs.declared.Refusal.{Refusal}
use Rattle.refusals.proofs.Numbers.{one_number, range}
use Rattle.write.specs.Calls.{is_refused}
use Rattle.write.specs.declared.Phase.{Phase}
use Rattle.write.specs.declared.Answer.{Answer}
use Rattle.write.specs.declared.Answer.TheVariants.{Sent, Retry, Done, Fail, End, Late, More}
use Rattle.write_lent.specs.Numbers.{phase_number, phases, phase_of, answer_number}
use Rattle.write_lent.specs.Lent.{is_refusal}

pub phase_back : (p : Phase) → (phase_number p < 7) × (phase_of (phase_number p) ≡ p)
phase_back Phase.New = (omega arith, refl)
phase_back Phase.Ask = (omega arith, refl)
phase_back Phase.Wait = (omega arith, refl)
phase_back Phase.Take = (omega arith, refl)
phase_back Phase.Done = (omega arith, refl)
phase_back Phase.Fail = (omega arith, refl)
phase_back Phase.End = (omega arith, refl)

phases_placed : Each (λ (n : ℕ) (p : Phase). n ≡ phase_number p) 0 phases
phases_placed = (refl, (refl, (refl, (refl, (refl, (refl, (refl, tt)))))))

pub phase_at : (n : ℕ) → n < 7 → n ≡ phase_number (phase_of n)
phase_at = numbered phase_number phases Phase.End phases_placed

pub phase_named : Named (λ (n : ℕ) (p : Phase). (n < 7) × (phase_of n ≡ p)) phase_number
phase_named = in_list phase_number phases Phase.End phases_placed phase_back

pub one_phase : (p q : Phase) → phase_number p ≡ phase_number q → p ≡ q
one_phase p q e = sym (phase_back p).1 ∙ ap phase_of e ∙ (phase_back q).1

-- the one of these that has the number n
abbrev numbered_by : List (Result Answer Refusal) → ℕ → Result Answer Refusal
numbered_by [] n = Ok Answer.Ok
numbered_by (a ∷ rest) n = cond (eqb (answer_number a) n) a (numbered_by rest n)

-- whatever is no refusal
abbrev happened : ℕ → Result Answer Refusal
happened n = numbered_by ((Ok Answer.Ok) ∷ (Ok Sent) ∷ (Ok Retry) ∷ (Ok Done) ∷ (Ok Fail) ∷ (Ok End) ∷ (Ok Late) ∷ (Ok More) ∷ []) n

-- an answer is a refusal, or is found at its number, which no refusal has
pub data Told : Result Answer Refusal → Type 0 where
  refusal : (k : Refusal) → Told (Err k)
  none : (a : Result Answer Refusal) → ((k : Refusal) → answer_number a ≡ number_of k → ⊥) → happened (answer_number a) ≡ a → Told a

no_refusal : {n : ℕ} → 10 < n → (k : Refusal) → n ≡ number_of k → ⊥
no_refusal l k e = let r = range k in omega (arith, r, l, e)

pub answer_told : (a : Result Answer Refusal) → Told a
answer_told (Ok Answer.Ok) = none (Ok Answer.Ok) (λ k e. let r = range k in omega (arith, r, e)) refl
answer_told (Ok Sent) = none (Ok Sent) (no_refusal (omega arith)) refl
answer_told (Ok Retry) = none (Ok Retry) (no_refusal (omega arith)) refl
answer_told (Ok Done) = none (Ok Done) (no_refusal (omega arith)) refl
answer_told (Ok Fail) = none (Ok Fail) (no_refusal (omega arith)) refl
answer_told (Ok End) = none (Ok End) (no_refusal (omega arith)) refl
answer_told (Ok Late) = none (Ok Late) (no_refusal (omega arith)) refl
answer_told (Ok More) = none (Ok More) (no_refusal (omega arith)) refl
answer_told (Err k) = refusal k

-- no two answers share a number
pub one_answer : (a b : Result Answer Refusal) → answer_number a ≡ answer_number b → a ≡ b
one_answer a b e = both (answer_told a) (answer_told b) e
  where
    both : {a b : Result Answer Refusal} → Told a → Told b → answer_number a ≡ answer_number b → a ≡ b
    both (refusal j) (refusal k) e = ap Err (one_number j k e)
    both (refusal j) (none b off q) e = absurd (off j (sym e))
    both (none a off p) (refusal k) e = absurd (off k e)
    both (none a off p) (none b on q) e = sym p ∙ ap happened e ∙ q

-- a refusal is told by its number
pub refused_told : (a : Result Answer Refusal) (k : Refusal) → answer_number a ≡ number_of k → a ≡ Err k
refused_told a k e = one_answer a (Err k) e

pub refusal_told : (a : Result Answer Refusal) → is_refusal (answer_number a) ≡ is_refused a
refusal_told (Ok Answer.Ok) = refl
refusal_told (Ok Sent) = refl
refusal_told (Ok Retry) = refl
refusal_told (Ok Done) = refl
refusal_told (Ok Fail) = refl
refusal_told (Ok End) = refl
refusal_told (Ok Late) = refl
refusal_told (Ok More) = refl
refusal_told (Err k) =
    let r = range k in
    and_true (lt-ltb 0 (number_of k) (omega (arith, r))) (lt-ltb (number_of k) 11 (omega (arith, r)))
