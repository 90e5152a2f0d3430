-- A call that lays a line at the front of its output does all of it or nothing: the first cause that holds decides, and answer, length and bytes go by the same
-- causes. The law holds whatever a refusal is told as. Assumes nothing.
use Prim.Native.Nat.{ℕ}
use mathlib.Core.List.{List}
use mathlib.Core.Logic.{◌↔◌}
use mathlib.Core.Path.{◌≡◌, sym, ◌∙◌}
use lib.ListN.{length, take, drop}
use lib.Seq.{take-append_seam}
use Rattle.refusals.specs.Causes.{Cause, Ground, refuse, First, None, Decides}
use Rattle.refusals.specs.declared.Refusal.{Refusal}
use Rattle.refusals.proofs.Causes.{NoneGiven, Verdict, stopped, passes, verdict, unrefused, only, if_first, if_none, stays}
use Rattle.saved.specs.Saved.{laid}

module _ {A : Type 0} (refused : Refusal → A) (passed : A) (one : (j k : Refusal) → refused j ≡ refused k → j ≡ k) (apart : (k : Refusal) → passed ≡ refused k → ⊥) where
  -- what it answers, the length that it says, and the output as it leaves it
  pub record Lays (cs : List Cause) (line before : List ℕ) (answer : A) (count : ℕ) (after : List ℕ) : Type 0 where
    pub answers : answer ≡ refuse refused cs passed
    pub counts : count ≡ refuse (λ _. 0) cs (length line)
    pub bytes : after ≡ refuse (λ _. before) cs (laid line before)

  module _ {cs : List Cause} {line before : List ℕ} {answer : A} {count : ℕ} {after : List ℕ} (p : Lays cs line before answer count after) where
    pub exactly : {gs : List Ground} → Decides cs gs → (k : Refusal) → (answer ≡ refused k) ↔ First gs k
    exactly d k = (λ e. only refused passed one apart d k (sym p.answers ∙ e), λ f. p.answers ∙ if_first refused passed one apart d k f)

    pub if_good : {gs : List Ground} → Decides cs gs → None gs → answer ≡ passed
    if_good d none = p.answers ∙ if_none refused passed one apart d none

    -- refused, it leaves the output and says 0
    pub kept : (k : Refusal) → answer ≡ refused k → (after ≡ before) × (count ≡ 0)
    kept k e = (
      p.bytes ∙ stays refused passed one apart cs (laid line before) before k (sym p.answers ∙ e),
      p.counts ∙ stays refused passed one apart cs (length line) 0 k (sym p.answers ∙ e),
    )

    module _ (took : answer ≡ passed) where
      pub no_cause : NoneGiven cs
      no_cause = by (verdict cs)
        where
          by : Verdict cs → NoneGiven cs
          by (stopped k h) = absurd (apart k (sym took ∙ p.answers ∙ h A refused passed))
          by (passes off h) = off

      pub written : (after ≡ laid line before) × (count ≡ length line)
      written = (p.bytes ∙ sym (unrefused (λ _. before) (laid line before) cs no_cause), p.counts ∙ sym (unrefused (λ _. 0) (length line) cs no_cause))

      pub in_front : take count after ≡ line
      in_front = (λ i. take (written.1 i) (written.0 i)) ∙ take-append_seam line (drop (length line) before)
