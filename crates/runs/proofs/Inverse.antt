-- A line says a command exactly if it is that command written: a word is compared whole, and a number's digits are its own alone.
-- Assumes nothing.
use Rattle.std.specs.Prelude.{None, Option, Some}
use Prim.Native.Nat.{ℕ, ◌≤◌, ◌<◌}
use mathlib.Core.Bool.{true, not, cond}
use mathlib.Core.List.{List, [], ◌∷◌}
use mathlib.Core.Path.{◌≡◌, refl, sym, ap, ◌∙◌}
use native.Mathlib.Omega.{arith}
use borrow.Author.Tests.{ne_eqb}
use lib.Dec.{leb}
use lib.ListN.{length, length-append}
use Rattle.laws.proofs.Bools.{and_left, and_right, and_true, by_test}
use Rattle.lines.specs.Numbers.{is_digit, all_digits, read_number, decimal}
use Rattle.lines.specs.Parts.{tab, joined, fields_of, same}
use Rattle.lines.proofs.Numbers.{digit_range, decimal_digits, decimal_short, read_written, written_read}
use Rattle.lines.proofs.Parts.{free, first_part, one_field, fields_joined, within, same_is}
use Rattle.runs.specs.Commands.{START, FRAME, ACK, NAK, TIMEOUT, LOST, NEXUS, CANCEL, largest, longest, starting, command_named, command_of, read_line, written, Writable}
use Rattle.runs.specs.declared.Command.{Command}
use Rattle.runs.specs.declared.Command.TheVariants.{Start, Frame, Ack, Nak, Timeout, Lost, Nexus, Cancel}

-- ---- a line that says a command is that command written

module _ (c : Option Command) (fine : c ≡ None → ⊥) where
  by_word : (w word : List ℕ) (x rest : Option Command) → written x ≡ word → (rest ≡ c → w ≡ written c) → cond (same w word) x rest ≡ c → w ≡ written c
  by_word w word x rest e other =
      by_test (λ (y : Option Command). y ≡ c → w ≡ written c) (same w word)
      (λ t q. same_is w word t ∙ sym e ∙ ap written q)
      (λ t q. other q)

  word_is : (w : List ℕ) → command_named w ≡ c → w ≡ written c
  word_is w =
      by_word w FRAME (Some Frame) _ refl
      (by_word w ACK (Some Ack) _ refl
      (by_word w NAK (Some Nak) _ refl
      (by_word w TIMEOUT (Some Timeout) _ refl
      (by_word w LOST (Some Lost) _ refl
      (by_word w NEXUS (Some Nexus) _ refl
      (by_word w CANCEL (Some Cancel) _ refl (λ q. absurd (fine (sym q)))))))))

  start_is : (x y z u : Option ℕ) (b n m r : List ℕ) → read_number largest b ≡ x → read_number largest n ≡ y → read_number largest m ≡ z → read_number largest r ≡ u → starting x y z u ≡ c → joined tab (START ∷ b ∷ n ∷ m ∷ r ∷ []) ≡ written c
  start_is None y z u b n m r p q s t e = absurd (fine (sym e))
  start_is (Some i) None z u b n m r p q s t e = absurd (fine (sym e))
  start_is (Some i) (Some j) None u b n m r p q s t e = absurd (fine (sym e))
  start_is (Some i) (Some j) (Some k) None b n m r p q s t e = absurd (fine (sym e))
  start_is (Some i) (Some j) (Some k) (Some l) b n m r p q s t e =
      (λ a. joined tab (START ∷ sym (written_read largest b i p).0 a ∷ sym (written_read largest n j q).0 a ∷ sym (written_read largest m k s).0 a ∷ sym (written_read largest r l t).0 a ∷ []))
      ∙ ap written e

  fields_are : (fs : List (List ℕ)) → command_of fs ≡ c → joined tab fs ≡ written c
  unfolding command_of
  fields_are [] e = absurd (fine (sym e))
  fields_are (w ∷ []) e = word_is w e
  fields_are (w ∷ b ∷ []) e = absurd (fine (sym e))
  fields_are (w ∷ b ∷ n ∷ []) e = absurd (fine (sym e))
  fields_are (w ∷ b ∷ n ∷ m ∷ []) e = absurd (fine (sym e))
  fields_are (w ∷ b ∷ n ∷ m ∷ r ∷ []) e =
      by_test (λ (y : Option Command). y ≡ c → joined tab (w ∷ b ∷ n ∷ m ∷ r ∷ []) ≡ written c) (same w START)
      (λ t q. ap (λ (v : List ℕ). joined tab (v ∷ b ∷ n ∷ m ∷ r ∷ [])) (same_is w START t) ∙ start_is (read_number largest b) (read_number largest n) (read_number largest m) (read_number largest r) b n m r refl refl refl refl q)
      (λ t q. absurd (fine (sym q)))
      e
  fields_are (w ∷ b ∷ n ∷ m ∷ r ∷ x ∷ fs) e = absurd (fine (sym e))

  pub said_is : (s : List ℕ) → read_line s ≡ c → s ≡ written c
  unfolding read_line command_of
  said_is s =
      by_test (λ (fs : List (List ℕ)). command_of fs ≡ c → s ≡ written c) (leb (length s) longest)
      (λ t e. sym (fields_joined s) ∙ fields_are (fields_of s) e)
      (λ t e. absurd (fine (sym e)))

-- ---- a command written says it

-- no digit is a tab or an LF
digits_free : (sep : ℕ) → sep < 48 → (s : List ℕ) → all_digits s ≡ true → free sep s ≡ true
digits_free sep h [] d = refl
digits_free sep h (b ∷ s) d =
    let in_range_lem = digit_range b (and_left (is_digit b) (all_digits s) d) in
    let ne : b ≡ sep → ⊥ = λ e. omega (arith, in_range_lem) in
    and_true (ap not (ne_eqb b sep ne)) (digits_free sep h s (and_right (is_digit b) (all_digits s) d))

pub decimal_free : (sep : ℕ) → sep < 48 → (n : ℕ) → free sep (decimal n) ≡ true
decimal_free sep h n = digits_free sep h (decimal n) (decimal_digits n)

free_decimal : (n : ℕ) → free tab (decimal n) ≡ true
free_decimal = decimal_free tab (omega arith)

module _ (b n m r : ℕ) (hb : b ≤ largest) (hn : n ≤ largest) (hm : m ≤ largest) (hr : r ≤ largest) where
  start_fields : fields_of (written (Some (Start b n m r))) ≡ START ∷ decimal b ∷ decimal n ∷ decimal m ∷ decimal r ∷ []
  start_fields =
      first_part tab ([] ∷ []) START (joined tab (decimal b ∷ decimal n ∷ decimal m ∷ decimal r ∷ [])) refl
      ∙ ap (λ fs. START ∷ fs) (first_part tab ([] ∷ []) (decimal b) (joined tab (decimal n ∷ decimal m ∷ decimal r ∷ [])) (free_decimal b)
      ∙ ap (λ fs. decimal b ∷ fs) (first_part tab ([] ∷ []) (decimal n) (joined tab (decimal m ∷ decimal r ∷ [])) (free_decimal n)
      ∙ ap (λ fs. decimal n ∷ fs) (first_part tab ([] ∷ []) (decimal m) (decimal r) (free_decimal m)
      ∙ ap (λ fs. decimal m ∷ fs) (one_field (decimal r) (free_decimal r)))))

  digits : (k : ℕ) → k ≤ largest → length (decimal k) ≤ 10
  digits k h = decimal_short 9 k (omega (arith, h))

  start_short : length (written (Some (Start b n m r))) ≤ longest
  start_short = simp length-append (omega (arith, digits b hb, digits n hn, digits m hm, digits r hr))

  start_said : read_line (written (Some (Start b n m r))) ≡ Some (Start b n m r)
  unfolding read_line command_of
  start_said = rw (within longest (written (Some (Start b n m r))) start_short, start_fields, read_written largest b hb, read_written largest n hn, read_written largest m hm, read_written largest r hr)

pub is_said : (c : Option Command) → Writable c → read_line (written c) ≡ c
unfolding read_line command_of
is_said (Some (Start b n m r)) h = start_said b n m r h.0 h.1 h.2 h.3
is_said (Some Frame) h = refl
is_said (Some Ack) h = refl
is_said (Some Nak) h = refl
is_said (Some Timeout) h = refl
is_said (Some Lost) h = refl
is_said (Some Nexus) h = refl
is_said (Some Cancel) h = refl
is_said None h = absurd h
