-- Ten columns and one field behind them are eleven fields: a phase word has no tab and so is one field, and where there is one field it
-- is all that stands there. Assumes nothing.
use Rattle.std.specs.Prelude.{None, Option, Some}
use Prim.Native.Nat.{ℕ, ◌+◌, ◌-◌}
use mathlib.Core.Bool.{Bool, true, false, cond, ◌&&◌}
use mathlib.Core.List.{List, [], ◌++◌}
use mathlib.Core.Path.{◌≡◌, refl, sym, ap, ◌∙◌}
use native.Mathlib.Omega.{arith}
use borrow.Author.Tests.{not-true, ltb-true, lt-ltb, eq-eqb}
use lib.Dec.{ltb, leb, eqb}
use lib.ListN.{length, take, drop, get_or, length-append, length-take}
use lib.Seq.{get_or-append-add}
use Rattle.laws.proofs.Bools.{clash, and_left, and_right, and_true, and_alone}
use Rattle.laws.proofs.Lists.{lent_tail}
use Rattle.laws.proofs.Tests.{unless}
use Rattle.lines.specs.Parts.{tab, fields_of, field_at}
use Rattle.lines.proofs.Parts.{free, one_field}
use Rattle.transfer.specs.Rules.{keeps_rules}
use Rattle.transfer.specs.declared.Transfer.{Transfer}
use Rattle.transfer.specs.declared.Phase.{Phase}
use Rattle.saved.specs.Saved.{all_numbers, front, phase_named, phase_in, is_phase, bound_of, shaped, state_by, state_of, taken}
use Rattle.saved.specs.Walk.{has_columns, Columned, line_read}
use Rattle.saved.specs.declared.Columns.{Columns}
use Rattle.saved.proofs.Words.{named_word, word_free}
use Rattle.saved.proofs.Trips.{Shape, shaped_says}
use Rattle.saved.proofs.Whole.{one_alone}

word_field : (s : List ℕ) (p : Phase) → phase_named s ≡ Some p → length (fields_of s) ≡ 1
word_field s p e = ap length (one_field s (ap (free tab) (named_word s p e) ∙ word_free p))

module _ (form : ℕ) (line : List ℕ) where
  not_shaped : (Shape form line → ⊥) → shaped form line ≡ false
  not_shaped f = not-true (shaped form line) ((unless (shaped_says form line)).1 f)

  -- no ten columns
  pub no_columns : has_columns line ≡ false → shaped form line ≡ false
  no_columns b =
      not_shaped
      (λ (eleven, (numbers, more)).
      clash (has_columns line) (and_true (lt-ltb 10 (length (fields_of line)) (omega arith)) numbers) b)

  module _ {r : Columns} (w : Columned line r) where
    -- what the columns leave of the line
    abbrev rest : List ℕ
    rest = take (length line - r.next) (drop r.next line)

    behind : fields_of line ≡ front line ++ fields_of rest
    behind = w.rest ∙ ap (λ (s : List ℕ). front line ++ fields_of s) (sym (lent_tail r.next line))

    numbers_good : all_numbers (front line) ≡ true
    numbers_good = and_right (ltb 10 (length (fields_of line))) (all_numbers (front line)) w.there

    ten : length (front line) ≡ 10
    ten = omega (arith, length-take 10 (fields_of line), ltb-true 10 (length (fields_of line)) (and_left (ltb 10 (length (fields_of line))) (all_numbers (front line)) w.there))

    counted : length (fields_of line) ≡ 10 + length (fields_of rest)
    counted = ap length behind ∙ length-append (front line) (fields_of rest) ∙ ap (λ (n : ℕ). n + length (fields_of rest)) ten

    last_field : length (fields_of rest) ≡ 1 → field_at line 10 ≡ rest
    last_field h =
        let k : 10 ≡ length (front line) + 0 = omega (arith, ten) in
        ap (λ (ps : List (List ℕ)). get_or ps 10 []) behind
        ∙ ap (λ (n : ℕ). get_or (front line ++ fields_of rest) n []) k
        ∙ get_or-append-add (front line) (fields_of rest) 0 []
        ∙ ap (λ (ps : List (List ℕ)). get_or ps 0 []) (one_alone rest h)

    -- ten, and no phase behind them
    pub no_phase : phase_named rest ≡ None → shaped form line ≡ false
    no_phase e =
        not_shaped
        (λ (eleven, (numbers, (first, (flag, phase)))).
        let one : length (fields_of rest) ≡ 1 = omega (arith, counted) in
        clash (is_phase (phase_named (field_at line 10))) phase (ap (λ (f : List ℕ). is_phase (phase_named f)) (last_field one) ∙ ap is_phase e))

    -- ten and a phase: the first and the ninth number decide
    module _ {p : Phase} (e : phase_named rest ≡ Some p) where
      named : phase_named (field_at line 10) ≡ Some p
      named = ap phase_named (last_field (word_field rest p e)) ∙ e

      pub has_shape : shaped form line ≡ eqb (get_or r.numbers 0 0) form && leb (get_or r.numbers 8 0) 1
      has_shape =
          let eleven : eqb (length (fields_of line)) 11 ≡ true = eq-eqb (length (fields_of line)) 11 (omega (arith, counted, word_field rest p e)) in
          sym
          (ap (λ (b : Bool). eqb (get_or r.numbers 0 0) form && b) (and_alone (leb (get_or r.numbers 8 0) 1) (ap is_phase named))
          ∙ (λ i. sym eleven i && (sym numbers_good i && (eqb (get_or (w.numbers i) 0 0) form && (leb (get_or (w.numbers i) 8 0) 1 && is_phase (phase_named (field_at line 10)))))))

      pub has_state : state_by r.numbers p ≡ state_of line
      has_state = λ i. state_by (w.numbers i) (sym (ap phase_in named) i)

-- a line with no form is not read, and one with a form is
pub unread : (form : ℕ) (line : List ℕ) → shaped form line ≡ false → None ≡ line_read form line
unread form line e = sym (ap (λ (t : Bool). cond t (Some (state_of line)) None) e)

pub was_read : (form : ℕ) (line : List ℕ) → shaped form line ≡ true → Some (state_of line) ≡ line_read form line
was_read form line e = sym (ap (λ (t : Bool). cond t (Some (state_of line)) None) e)

-- a line is taken if it is read and its state keeps the rules
pub taken_read : (form : ℕ) (line : List ℕ) (t : Transfer) → Some t ≡ line_read form line → (t ≡ state_of line) × (taken form line ≡ keeps_rules (bound_of form) t)
taken_read form line t = by (shaped form line)
  where
    by : (u : Bool) → ◌≡◌ {A = Option Transfer} (Some t) (cond u (Some (state_of line)) None) → (t ≡ state_of line) × (u && keeps_rules (bound_of form) (state_of line) ≡ keeps_rules (bound_of form) t)
    by true e = let same : t ≡ state_of line = cc in (same, ap (keeps_rules (bound_of form)) (sym same))
    by false e = (cc, cc)

pub untaken : (form : ℕ) (line : List ℕ) → None ≡ line_read form line → taken form line ≡ false
untaken form line = by (shaped form line)
  where
    by : (u : Bool) → ◌≡◌ {A = Option Transfer} None (cond u (Some (state_of line)) None) → u && keeps_rules (bound_of form) (state_of line) ≡ false
    by true e = cc
    by false e = refl
