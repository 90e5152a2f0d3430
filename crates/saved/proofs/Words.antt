-- A phase's word names that phase alone, and none is a front of another: the first two letters tell the phase, and with it the length.
-- Assumes nothing.
use Rattle.std.specs.Prelude.{None, Option, Some}
use Prim.Native.Nat.{ℕ, ◌+◌, ◌≤◌}
use mathlib.Core.Bool.{Bool, true, cond}
use mathlib.Core.List.{List, [], ◌∷◌, ◌++◌, append-nil}
use mathlib.Core.Path.{◌≡◌, refl, sym, ap, ◌∙◌}
use native.Mathlib.Omega.{arith}
use lib.ListN.{length, take, length-append}
use Rattle.laws.proofs.Bools.{never, by_test}
use Rattle.lines.specs.Parts.{tab, same}
use Rattle.lines.proofs.Parts.{free, same_is}
use Rattle.transfer.specs.declared.Phase.{Phase}
use Rattle.saved.specs.Saved.{phase_word, phase_named, is_phase, phase_in}

pub word_named : (p : Phase) → phase_named (phase_word p) ≡ Some p
word_named Phase.New = refl
word_named Phase.Run = refl
word_named Phase.Drain = refl
word_named Phase.Done = refl
word_named Phase.Fail = refl
word_named Phase.End = refl

module _ (w : List ℕ) (p : Phase) where
  by_word : (q : Phase) (rest : Option Phase) → (rest ≡ Some p → w ≡ phase_word p) → cond (same w (phase_word q)) (Some q) rest ≡ Some p → w ≡ phase_word p
  by_word q rest other =
      by_test (λ (n : Option Phase). n ≡ Some p → w ≡ phase_word p) (same w (phase_word q))
      (λ t e. same_is w (phase_word q) t ∙ ap (λ (n : Option Phase). phase_word (phase_in n)) e)
      (λ t e. other e)

  pub named_word : phase_named w ≡ Some p → w ≡ phase_word p
  named_word =
      by_word Phase.New _
      (by_word Phase.Run _
      (by_word Phase.Drain _
      (by_word Phase.Done _
      (by_word Phase.Fail _
      (by_word Phase.End _ (λ e. absurd (never (ap is_phase e))))))))

-- the word of the phase that w names is w
pub said_word : (w : List ℕ) → is_phase (phase_named w) ≡ true → w ≡ phase_word (phase_in (phase_named w))
said_word w = by (phase_named w) refl
  where
    by : (n : Option Phase) → phase_named w ≡ n → is_phase n ≡ true → w ≡ phase_word (phase_in n)
    by (Some p) e h = named_word w p e
    by None e h = absurd (never h)

pub word_free : (p : Phase) → free tab (phase_word p) ≡ true
word_free Phase.New = refl
word_free Phase.Run = refl
word_free Phase.Drain = refl
word_free Phase.Done = refl
word_free Phase.Fail = refl
word_free Phase.End = refl

pub word_short : (p : Phase) → length (phase_word p) ≤ 5
word_short Phase.New = omega arith
word_short Phase.Run = omega arith
word_short Phase.Drain = omega arith
word_short Phase.Done = omega arith
word_short Phase.Fail = omega arith
word_short Phase.End = omega arith

-- the phase by the first two letters
abbrev like : List ℕ → Phase → Bool
like w p = same (take 2 w) (take 2 (phase_word p))

abbrev told : List ℕ → Phase
told w =
    cond (like w Phase.New) Phase.New
    (cond (like w Phase.Run) Phase.Run
    (cond (like w Phase.Drain) Phase.Drain
    (cond (like w Phase.Done) Phase.Done
    (cond (like w Phase.Fail) Phase.Fail Phase.End))))

word_told : (p : Phase) (more : List ℕ) → told (phase_word p ++ more) ≡ p
word_told Phase.New more = refl
word_told Phase.Run more = refl
word_told Phase.Drain more = refl
word_told Phase.Done more = refl
word_told Phase.Fail more = refl
word_told Phase.End more = refl

pub no_front : (p q : Phase) (x : ℕ) (s : List ℕ) → phase_word p ++ (x ∷ s) ≡ phase_word q → ⊥
no_front p q x s e =
    let one : p ≡ q = sym (word_told p (x ∷ s)) ∙ ap told (e ∙ sym (append-nil (phase_word q))) ∙ word_told q [] in
    let long : length (phase_word p) + length (x ∷ s) ≡ length (phase_word p) = sym (length-append (phase_word p) (x ∷ s)) ∙ ap length e ∙ ap (λ (r : Phase). length (phase_word r)) (sym one) in
    omega (arith, long)
