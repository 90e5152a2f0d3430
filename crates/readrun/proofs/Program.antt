-- What the program has taken and said, block by block, and at the end of its input: all that came, and document 01's output for it.
-- Assumes nothing.
use Rattle.std.proofs.Common.{◌≡◌, ℕ, ◌≤◌, List, ◌++◌, length, take, IfSome, None, Some, sym, ap, ◌∙◌, subst, append-nil}
use Rattle.std.proofs.KnownBytes.{Appends-trans, Consumes-trans}
use Rattle.std.specs.Io.KnownBytes.{Appends, Consumes, IsAtEnd}
use Rattle.std.specs.declared.option.Option.{Option}
use Rattle.runs.specs.Rows.{longest_row}
use Rattle.runs.specs.Feed.{Carry, carry_of, run_of, fresh, after, said, closing, Feeds}
use Rattle.runs.specs.Output.{output_of}
use Rattle.runs.specs.declared.Run.{Run}
use Rattle.runs.specs.declared.Fed.{Fed}
use Rattle.runs.proofs.Carry.{after_append, said_append}
use Rattle.runs.proofs.Output.{carried, whole, closes}

-- a reader that is at its end gave all that it had
all_given : (before after : Option (List ℕ)) (xs : List ℕ) → Consumes before after xs → IsAtEnd after → (P : List ℕ → Type 0) → P xs → IfSome before P
all_given None after xs came over P p = tt
all_given (Some zs) None xs came over P p = absurd came
all_given (Some zs) (Some ys) xs came over P p = subst P (sym (came ∙ ap (λ l. xs ++ l) over ∙ append-nil xs)) p

-- also where the last read gave none
pub given : (a b c : Option (List ℕ)) (xs buf : List ℕ) {n : ℕ} → Consumes a b xs → Consumes b c (take n buf) → n ≡ 0 → IsAtEnd c → (P : List ℕ → Type 0) → P xs → IfSome a P
given a b c xs buf came last none over P p =
    all_given a c (xs ++ take _ buf) (Consumes-trans a b c xs _ came last) over P (subst P (sym (ap (λ m. xs ++ take m buf) none ∙ append-nil xs)) p)

-- the run that has taken xs
module _ (xs : List ℕ) {run : Run} (is : run ≡ run_of (after fresh xs)) where
  carries : carry_of run ≡ after fresh xs
  carries = ap carry_of is ∙ carried (after fresh xs)

  pub own : run ≡ run_of (carry_of run)
  own = is ∙ ap run_of (sym carries)

  -- takes ys too
  pub goes_on : (ys : List ℕ) {next : Run} → next ≡ run_of (carry_of next) → carry_of next ≡ after (carry_of run) ys → next ≡ run_of (after fresh (xs ++ ys))
  goes_on ys own moved = own ∙ ap run_of (moved ∙ ap (λ (c : Carry). after c ys) carries ∙ sym (after_append fresh xs ys))

  module _ (a b c : Option (List ℕ)) (holds : Appends a b (said fresh xs)) where
    pub says_on : (ys : List ℕ) → Appends b c (said (carry_of run) ys) → Appends a c (said fresh (xs ++ ys))
    says_on ys more =
        subst (Appends a c) (ap (λ (d : Carry). said fresh xs ++ said d ys) carries ∙ sym (said_append fresh xs ys)) (Appends-trans a b c _ _ holds more)

    -- and at the end of the input says what there is still to say
    pub ends : {out out' : List ℕ} {r : Fed} → longest_row ≤ length out → Feeds run (closing run.len) out r out' → Appends b c (take r.wrote out') → Appends a c (output_of xs)
    ends room f more =
        subst (Appends a c) (ap (λ l. said fresh xs ++ l) (closes (after fresh xs) is room f) ∙ whole xs) (Appends-trans a b c _ _ holds more)
