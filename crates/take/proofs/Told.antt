-- A step with its causes is refused exactly by the first of the grounds that they decide, and then it leaves its state, and what it does with bytes leaves
-- them, as they were. Assumes nothing.
use Prim.Native.Nat.{ℕ}
use mathlib.Core.List.{List, [], ◌∷◌, ◌++◌}
use mathlib.Core.Logic.{◌↔◌}
use mathlib.Core.Path.{◌≡◌, sym, ◌∙◌}
use Rattle.refusals.specs.Causes.{Cause, Ground, refuse, First, here, later, Decides}
use Rattle.refusals.specs.declared.Refusal.{Refusal}
use Rattle.refusals.proofs.Causes as causes
use Rattle.take.specs.Grounds.{Refuses}

carried : (gs : List Ground) {hs is : List Ground} {j : Refusal} → (First hs j → First is j) → First (gs ++ hs) j → First (gs ++ is) j
carried [] so f = so f
carried (g ∷ gs) so (here h) = here h
carried (g ∷ gs) so (later off f) = later off (carried gs so f)

-- grounds behind others: the first of all is the same where the first of them is
pub behind : (gs : List Ground) {hs is : List Ground} {j : Refusal} → First hs j ↔ First is j → First (gs ++ hs) j ↔ First (gs ++ is) j
behind gs so = (carried gs so.0, carried gs so.1)

-- a step of any kind with its causes, and what it does with bytes
module _ {S A T : Type 0} (answer : S → A) (state : S → T) (deny : Refusal → S) (did : S)
    (one : (i j : Refusal) → answer (deny i) ≡ answer (deny j) → i ≡ j) (apart : (j : Refusal) → answer did ≡ answer (deny j) → ⊥)
    (s : T) (stays : (j : Refusal) → state (deny j) ≡ s) (cs : List Cause) where
  abbrev refusal : Refusal → A
  refusal j = answer (deny j)

  answer_is : answer (refuse deny cs did) ≡ refuse refusal cs (answer did)
  answer_is = causes.through answer deny cs did

  kept : (j : Refusal) → answer (refuse deny cs did) ≡ refusal j → state (refuse deny cs did) ≡ s
  kept j = causes.by_causes (λ (st : S). answer st ≡ refusal j → state st ≡ s) deny (λ i e. stays i) cs did (λ off e. absurd (apart j e))

  pub told : {gs hs : List Ground} → Decides cs gs → ((j : Refusal) → First gs j ↔ First hs j) → (new before : List ℕ)
      → Refuses refusal hs (answer (refuse deny cs did)) s (state (refuse deny cs did)) before (refuse (λ _. before) cs new)
  told d same new before = record {
    exactly = λ j. (
      λ e. (same j).0 (causes.only refusal (answer did) one apart d j (sym answer_is ∙ e)),
      λ f. answer_is ∙ causes.if_first refusal (answer did) one apart d j ((same j).1 f),
    );
    state = kept;
    bytes = λ j e. causes.stays refusal (answer did) one apart cs new before j (sym answer_is ∙ e);
  }
