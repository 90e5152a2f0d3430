-- Lines of output can be read back: a column ends at the first tab, the last at the LF, and no two numbers or words are written alike. So
-- what is read and printed leaves no choice of lines. Assumes nothing.
use Rattle.std.specs.Prelude.{Err, Ok, Result}
use Prim.Native.Nat.{ℕ}
use mathlib.Core.Bool.{true, cond}
use mathlib.Core.List.{List, [], ◌∷◌, ◌++◌, append_assoc, map}
use mathlib.Core.Path.{◌≡◌, refl, sym, ap, ◌∙◌}
use native.Mathlib.Omega.{arith}
use borrow.Author.Tests.{eq-eqb}
use Rattle.laws.proofs.Bools.{clash}
use Rattle.lines.specs.Numbers.{value_from, decimal}
use Rattle.lines.specs.Parts.{tab, lf, same}
use Rattle.lines.proofs.Numbers.{decimal_value}
use Rattle.lines.proofs.Parts.{free, not_sep, free_rest}
use Rattle.refusals.specs.Refusals.{number_of}
use Rattle.refusals.specs.declared.Refusal.{Refusal}
use Rattle.transfer.specs.Examples.{Line}
use Rattle.transfer.specs.declared.Answer.{Answer}
use Rattle.transfer.proofs.Demand.{apart}
use Rattle.runs.specs.Rows.{word_of, row_of}
use Rattle.runs.specs.Turns.{Turn, shown_bytes}
use Rattle.runs.specs.Typed.{typed_answers, typed_words}
use Rattle.runs.proofs.Inverse.{decimal_free}

-- ---- what a separator ends

cut : (sep : ℕ) (p q x y : List ℕ) → free sep p ≡ true → free sep q ≡ true → p ++ (sep ∷ x) ≡ q ++ (sep ∷ y) → (p ≡ q) × (x ≡ y)
cut sep [] [] x y f g e = (refl, cc)
cut sep [] (b ∷ q) x y f g e = absurd (clash _ (eq-eqb b sep (cc)) (not_sep sep b q g))
cut sep (a ∷ p) [] x y f g e = absurd (clash _ (eq-eqb a sep (cc)) (not_sep sep a p f))
cut sep (a ∷ p) (b ∷ q) x y f g e =
    let first : a ≡ b = cc in
    let rest = cut sep p q x y (free_rest sep a p f) (free_rest sep b q g) (cc) in
    (λ i. first i ∷ rest.0 i, rest.1)

word_free : (a : Result Answer Refusal) → free tab (word_of a) ≡ true
word_free (Ok Answer.Ok) = refl
word_free (Ok Answer.Sent) = refl
word_free (Ok Answer.Drain) = refl
word_free (Ok Answer.Retry) = refl
word_free (Ok Answer.Done) = refl
word_free (Ok Answer.Fail) = refl
word_free (Ok Answer.End) = refl
word_free (Err k) = decimal_free tab (omega arith) (number_of k)

-- ---- no two are written alike

one_number : (m n : ℕ) → decimal m ≡ decimal n → m ≡ n
one_number m n e = sym (decimal_value m) ∙ ap (value_from 0) e ∙ decimal_value n

-- the answer of a word
abbrev answer_named : List (List ℕ) → List (Result Answer Refusal) → List ℕ → Result Answer Refusal
answer_named [] answers w = Ok Answer.Ok
answer_named (v ∷ vs) [] w = Ok Answer.Ok
answer_named (v ∷ vs) (a ∷ answers) w = cond (same w v) a (answer_named vs answers w)

back : (a : Result Answer Refusal) → answer_named typed_words typed_answers (word_of a) ≡ a
unfolding decimal
back (Ok Answer.Ok) = refl
back (Ok Answer.Sent) = refl
back (Ok Answer.Drain) = refl
back (Ok Answer.Retry) = refl
back (Ok Answer.Done) = refl
back (Ok Answer.Fail) = refl
back (Ok Answer.End) = refl
back (Err Refusal.Length) = refl
back (Err Refusal.Unlisted) = refl
back (Err Refusal.Rules) = refl
back (Err Refusal.Phy) = refl
back (Err Refusal.Past) = refl
back (Err Refusal.Unfit) = refl
back (Err Refusal.Due) = refl
back (Err Refusal.Sent) = refl
back (Err Refusal.Present) = refl
back (Err Refusal.Full) = refl

one_word : (a b : Result Answer Refusal) → word_of a ≡ word_of b → a ≡ b
one_word a b e = sym (back a) ∙ ap (answer_named typed_words typed_answers) e ∙ back b

-- ---- a row, and what stands behind it

abbrev bytes_of : Line → List ℕ
bytes_of l = row_of l.number l.word l.read l.balance l.unanswered l.used

abbrev flat : Line → List ℕ → List ℕ
flat l x = decimal l.number ++ (tab ∷ (word_of l.word ++ (tab ∷ (decimal l.read ++ (tab ∷ (decimal l.balance ++ (tab ∷ (decimal l.unanswered ++ (tab ∷ (decimal l.used ++ (lf ∷ x)))))))))))

flat_is : (l : Line) (x : List ℕ) → bytes_of l ++ x ≡ flat l x
unfolding row_of
flat_is l x = simp append_assoc

row_one : (l m : Line) (x y : List ℕ) → bytes_of l ++ x ≡ bytes_of m ++ y → (l ≡ m) × (x ≡ y)
row_one l m x y e =
    let at_tab : (n : ℕ) → free tab (decimal n) ≡ true = decimal_free tab (omega arith) in
    let at_lf : (n : ℕ) → free lf (decimal n) ≡ true = decimal_free lf (omega arith) in
    let number = cut tab (decimal l.number) (decimal m.number) _ _ (at_tab l.number) (at_tab m.number) (sym (flat_is l x) ∙ e ∙ flat_is m y) in
    let word = cut tab (word_of l.word) (word_of m.word) _ _ (word_free l.word) (word_free m.word) number.1 in
    let read = cut tab (decimal l.read) (decimal m.read) _ _ (at_tab l.read) (at_tab m.read) word.1 in
    let balance = cut tab (decimal l.balance) (decimal m.balance) _ _ (at_tab l.balance) (at_tab m.balance) read.1 in
    let unanswered = cut tab (decimal l.unanswered) (decimal m.unanswered) _ _ (at_tab l.unanswered) (at_tab m.unanswered) balance.1 in
    let used = cut lf (decimal l.used) (decimal m.used) x y (at_lf l.used) (at_lf m.used) unanswered.1 in
    let line : l ≡ m = λ i. record {
      number = one_number l.number m.number number.0 i;
      word = one_word l.word m.word word.0 i;
      read = one_number l.read m.read read.0 i;
      balance = one_number l.balance m.balance balance.0 i;
      unanswered = one_number l.unanswered m.unanswered unanswered.0 i;
      used = one_number l.used m.used used.0 i;
    } in
    (line, used.1)

-- THE LINES ARE THE TEXT'S: what was said and what was printed leave no choice of turns
pub one_reading : (ts us : List Turn) → map (λ (t : Turn). t.said) ts ≡ map (λ (t : Turn). t.said) us → shown_bytes ts ≡ shown_bytes us → ts ≡ us
one_reading [] [] c e = refl
one_reading [] (u ∷ us) c e = absurd (apart (cc))
one_reading (t ∷ ts) [] c e = absurd (apart (cc))
one_reading (t ∷ ts) (u ∷ us) c e =
    let said : t.said ≡ u.said = cc in
    let row = row_one t.shown u.shown (shown_bytes ts) (shown_bytes us) e in
    let rest = one_reading ts us (cc) row.1 in
    λ i. record { said = said i; shown = row.0 i } ∷ rest i
