-- No front of a saved line is one: the line would have as many tabs as its front, so what is cut off has none, and one phase's word
-- would be a front of another's. Assumes nothing.
use Prim.Native.Nat.{ℕ}
use mathlib.Core.Bool.{true}
use mathlib.Core.List.{List, [], ◌∷◌, ◌++◌, map, append_assoc}
use mathlib.Core.Path.{◌≡◌, sym, ap, ◌∙◌}
use native.Mathlib.Omega.{arith}
use lib.ListN.{length, get_or}
use Rattle.lines.specs.Numbers.{decimal}
use Rattle.lines.specs.Parts.{tab, fields_of, field_at, joined}
use Rattle.lines.proofs.Parts.{fields_joined}
use Rattle.saved.specs.Saved.{columns, phase_word, phase_named, phase_in, shaped, state_of}
use Rattle.saved.specs.Walk.{tabbed}
use Rattle.saved.proofs.Words.{said_word, no_front}
use Rattle.saved.proofs.Lines.{line_tabbed, tabbed_fields}
use Rattle.saved.proofs.Trips.{shaped_says, line_again}

-- a line of one field is that field
pub one_alone : (s : List ℕ) → length (fields_of s) ≡ 1 → fields_of s ≡ s ∷ []
one_alone s l = by (fields_of s) l (fields_joined s)
  where
    by : (fs : List (List ℕ)) → length fs ≡ 1 → joined tab fs ≡ s → fs ≡ s ∷ []
    by [] l e = absurd (omega arith)
    by (f ∷ []) l e = ap (λ (p : List ℕ). p ∷ []) e
    by (f ∷ g ∷ fs) l e = absurd (omega arith)

-- a line of form f and what stands behind it: the field behind the columns is the word with that behind it
module _ (f : ℕ) (p more : List ℕ) (h : shaped f p ≡ true) where
  abbrev numbers : List ℕ
  numbers = columns f (state_of p)

  abbrev word : List ℕ
  word = phase_word (state_of p).phase ++ more

  longer : p ++ more ≡ tabbed numbers ++ word
  longer =
      ap (λ (l : List ℕ). l ++ more) (sym (line_again f p h) ∙ line_tabbed f (state_of p))
      ∙ append_assoc (tabbed numbers) (phase_word (state_of p).phase) more

  longer_fields : fields_of (p ++ more) ≡ map decimal numbers ++ fields_of word
  longer_fields = ap fields_of longer ∙ tabbed_fields numbers word

  last_field : length (fields_of (p ++ more)) ≡ 11 → field_at (p ++ more) 10 ≡ word
  last_field l =
      let n : length (map decimal numbers ++ fields_of word) ≡ 11 = sym (ap length longer_fields) ∙ l in
      ap (λ (fs : List (List ℕ)). get_or fs 10 []) longer_fields
      ∙ ap (λ (fs : List (List ℕ)). get_or fs 0 []) (one_alone word (omega (arith, n)))

pub whole : (f g : ℕ) (p : List ℕ) (x : ℕ) (q : List ℕ) → shaped f p ≡ true → shaped g (p ++ (x ∷ q)) ≡ true → ⊥
whole f g p x q h k =
    let shape = (shaped_says g (p ++ (x ∷ q))).0 k in
    let last : List ℕ = field_at (p ++ (x ∷ q)) 10 in
    no_front (state_of p).phase (phase_in (phase_named last)) x q (sym (last_field f p (x ∷ q) h shape.0) ∙ said_word last shape.1.1.1.1)
