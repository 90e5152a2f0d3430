-- A line says the transfer whose line it is, and is the line of the transfer that it says: each number is read as it is written and
-- written as it is read, and so is the phase. Assumes nothing.
use Rattle.std.specs.Prelude.{None, Some}
use Prim.Native.Nat.{ℕ, ◌≤◌}
use mathlib.Core.Bool.{Bool, true, false, cond}
use mathlib.Core.List.{List, [], ◌∷◌, ◌++◌, map}
use mathlib.Core.Path.{◌≡◌, refl, sym, ap, subst, ◌∙◌}
use native.Mathlib.Omega.{arith}
use lib.Dec.{eqb}
use lib.ListN.{length, take, get_or, length-take, length-map}
use lib.Seq.{take-suc, take_all}
use Rattle.laws.specs.Tests.{Says}
use Rattle.laws.specs.Names.{flag}
use Rattle.laws.proofs.Bools.{and_left, and_right, and_true}
use Rattle.laws.proofs.Lists.{spread_is}
use Rattle.laws.proofs.Names.{flag_back, flag_at}
use Rattle.laws.proofs.Tests.{most, equal, itself, both}
use Rattle.lines.specs.Numbers.{all_digits, begins, value_from, is_number, read_number, decimal}
use Rattle.lines.specs.Parts.{tab, fields_of, field_at, joined}
use Rattle.lines.proofs.Numbers.{decimal_value, read_written, number_is}
use Rattle.lines.proofs.Parts.{fields_joined}
use Rattle.transfer.specs.Rules.{keeps_rules}
use Rattle.transfer.specs.declared.Transfer.{Transfer}
use Rattle.transfer.specs.declared.Phase.{Phase}
use Rattle.saved.specs.Saved.{columns, phase_word, line_of, largest, all_numbers, front, numbers_of, phase_named, is_phase, phase_in, shaped, state_by, state_of}
use Rattle.saved.proofs.Words.{word_named, said_word}
use Rattle.saved.proofs.Lines.{line_fields, AtMost, mosts, flag_most, rules_most}

-- ---- one number

decimal_number : (n : ℕ) → n ≤ largest → is_number largest (decimal n) ≡ true
unfolding read_number
decimal_number n h = by (is_number largest (decimal n)) (read_written largest n h)
  where
    by : (t : Bool) → cond t (Some (value_from 0 (decimal n))) None ≡ Some n → t ≡ true
    by true e = refl
    by false e = let z : ◌≡◌ {A = ℕ} 0 1 = cc in absurd (omega arith)

number_decimal : (f : List ℕ) → is_number largest f ≡ true → decimal (value_from 0 f) ≡ f
number_decimal f e = number_is f (and_left (begins f) _ e) (and_left (all_digits f) _ (and_right (begins f) _ e))

-- ---- the numbers of a list

-- each can be read back
abbrev pub Small : List ℕ → Type 0
Small [] = Unit {0}
Small (n ∷ ns) = (n ≤ largest) × Small ns

small_below : (ns ms : List ℕ) → AtMost ns ms → Small ms → Small ns
small_below [] ms a s = tt
small_below (n ∷ ns) [] a s = absurd a
small_below (n ∷ ns) (m ∷ ms) a s = (omega (arith, a.0, s.0), small_below ns ms a.1 s.1)

all_decimal : (ns : List ℕ) → Small ns → all_numbers (map decimal ns) ≡ true
all_decimal [] s = refl
all_decimal (n ∷ ns) s = and_true (decimal_number n s.0) (all_decimal ns s.1)

values_back : (ns : List ℕ) → numbers_of (map decimal ns) ≡ ns
values_back [] = refl
values_back (n ∷ ns) = λ i. decimal_value n i ∷ values_back ns i

fields_back : (fs : List (List ℕ)) → all_numbers fs ≡ true → map decimal (numbers_of fs) ≡ fs
fields_back [] e = refl
fields_back (f ∷ fs) e = λ i. number_decimal f (and_left (is_number largest f) _ e) i ∷ fields_back fs (and_right (is_number largest f) _ e) i

-- ---- what is written is read

module _ (form : ℕ) (s : Transfer) where
  line_front : front (line_of form s) ≡ map decimal (columns form s)
  line_front = ap (take 10) (line_fields form s)

  line_numbers : numbers_of (front (line_of form s)) ≡ columns form s
  line_numbers = ap numbers_of line_front ∙ values_back (columns form s)

  line_named : phase_named (field_at (line_of form s) 10) ≡ Some s.phase
  line_named = ap (λ (fs : List (List ℕ)). phase_named (get_or fs 10 [])) (line_fields form s) ∙ word_named s.phase

  columns_back : state_by (columns form s) s.phase ≡ s
  columns_back = λ i.
      record {
        offset = s.offset;
        count = s.count;
        size = s.size;
        resends = s.resends;
        read = s.read;
        balance = s.balance;
        unanswered = s.unanswered;
        sent = (flag_back s.sent).1 i;
        used = s.used;
        phase = s.phase;
      }

  pub state_back : state_of (line_of form s) ≡ s
  state_back = (λ i. state_by (line_numbers i) (phase_in (line_named i))) ∙ columns_back

-- two transfers with one line are one
pub unlike : (form : ℕ) (s t : Transfer) → line_of form s ≡ line_of form t → s ≡ t
unlike form s t e = sym (state_back form s) ∙ ap state_of e ∙ state_back form t

-- what the test of a line's form says
abbrev pub Shape : ℕ → List ℕ → Type 0
Shape form line =
    (length (fields_of line) ≡ 11)
    × ((all_numbers (front line) ≡ true)
    × ((get_or (numbers_of (front line)) 0 0 ≡ form)
    × ((get_or (numbers_of (front line)) 8 0 ≤ 1) × (is_phase (phase_named (field_at line 10)) ≡ true))))

pub shaped_says : (form : ℕ) (line : List ℕ) → Says (shaped form line) (Shape form line)
shaped_says form line =
    both (equal (length (fields_of line)) 11)
    (both (itself (all_numbers (front line)))
    (both (equal (get_or (numbers_of (front line)) 0 0) form)
    (both (most (get_or (numbers_of (front line)) 8 0) 1) (itself (is_phase (phase_named (field_at line 10)))))))

pub line_shaped : (form : ℕ) (s : Transfer) → Small (columns form s) → shaped form (line_of form s) ≡ true
line_shaped form s small =
    (shaped_says form (line_of form s)).1 (
      ap length (line_fields form s),
      (
        ap all_numbers (line_front form s) ∙ all_decimal (columns form s) small,
        (
          ap (λ (ns : List ℕ). get_or ns 0 0) (line_numbers form s),
          (
            rw (line_numbers form s) (flag_most s.sent),
            ap is_phase (line_named form s),
          ),
        ),
      ),
    )

-- a state that keeps its rules has a line that can be read back
pub rules_small : (bound form : ℕ) (s : Transfer) → keeps_rules bound s ≡ true → bound ≤ largest → form ≤ largest → Small (columns form s)
rules_small bound form s e b f = small_below (columns form s) (mosts bound form) (rules_most bound form s e) mosts_small
  where
    mosts_small : Small (mosts bound form)
    mosts_small = (f, (omega arith, (omega arith, (omega arith, (omega arith, (omega arith, (omega arith, (b, (omega arith, (omega arith, tt))))))))))

-- ---- what is read is written

-- what holds of ten numbers written out holds of a list of ten
on_ten : (P : List ℕ → Type 0) → ((a b c d e f g h i j : ℕ) → P (a ∷ b ∷ c ∷ d ∷ e ∷ f ∷ g ∷ h ∷ i ∷ j ∷ [])) → (ns : List ℕ) → length ns ≡ 10 → P ns
on_ten P all ns l = subst P (sym (spread_is 10 ns l)) (all _ _ _ _ _ _ _ _ _ _)

columns_again : (form : ℕ) (ns : List ℕ) (p : Phase) → length ns ≡ 10 → get_or ns 0 0 ≡ form → get_or ns 8 0 ≤ 1 → columns form (state_by ns p) ≡ ns
columns_again form ns p l =
    on_ten (λ ns. get_or ns 0 0 ≡ form → get_or ns 8 0 ≤ 1 → columns form (state_by ns p) ≡ ns)
    (λ a b c d e f g h i j is small.
    let bit : i ≡ flag (eqb i 1) = flag_at i (omega arith) in
    λ k. sym is k ∷ b ∷ c ∷ d ∷ e ∷ f ∷ g ∷ h ∷ sym bit k ∷ j ∷ [])
    ns l

module _ (form : ℕ) (line : List ℕ) (h : Shape form line) where
  front_ten : length (front line) ≡ 10
  front_ten = length-take 10 (fields_of line) ∙ (let l = h.0 in omega arith)

  numbers_ten : length (numbers_of (front line)) ≡ 10
  numbers_ten = length-map (front line) (value_from 0) ∙ front_ten

  fields_eleven : fields_of line ≡ front line ++ (field_at line 10 ∷ [])
  fields_eleven =
      let l : length (fields_of line) ≡ 11 = h.0 in
      sym (take_all 11 (fields_of line) (omega arith)) ∙ take-suc (fields_of line) 10 [] (omega arith)

  numbers_again : columns form (state_of line) ≡ numbers_of (front line)
  numbers_again = columns_again form (numbers_of (front line)) (state_of line).phase numbers_ten h.1.1.0 h.1.1.1.0

  front_again : map decimal (columns form (state_of line)) ≡ front line
  front_again = ap (map decimal) numbers_again ∙ fields_back (front line) h.1.0

  word_again : phase_word (state_of line).phase ≡ field_at line 10
  word_again = sym (said_word (field_at line 10) h.1.1.1.1)

  again : line_of form (state_of line) ≡ line
  unfolding line_of
  again =
      (λ i. joined tab (front_again i ++ (word_again i ∷ [])))
      ∙ ap (joined tab) (sym fields_eleven)
      ∙ fields_joined line

pub line_again : (form : ℕ) (line : List ℕ) → shaped form line ≡ true → line_of form (state_of line) ≡ line
line_again form line e = again form line ((shaped_says form line).0 e)
