-- A saved line is its numbers with a tab behind each and the phase's word: no number and no word has a tab, so the fields are these
-- parts, and a state that keeps its rules has numbers of few digits. Assumes nothing.
use Prim.Native.Nat.{ℕ, suc, ◌+◌, ◌/◌, ◌%◌, ◌^◌, ◌≤◌, ◌<◌}
use mathlib.Core.Bool.{Bool, true}
use mathlib.Core.List.{List, [], ◌∷◌, ◌++◌, map, append_assoc}
use mathlib.Core.Logic.{inl, inr, ⊎_elim}
use mathlib.Core.Path.{◌≡◌, refl, sym, ap, ◌∙◌}
use native.Mathlib.Omega.{arith}
use borrow.Author.Tests.{ne_eqb}
use lib.ListN.{length, length-append}
use Rattle.laws.specs.Names.{flag}
use Rattle.laws.proofs.Names.{flag_back}
use Rattle.lines.specs.Numbers.{decimal}
use Rattle.lines.specs.Parts.{tab, fields_of, joined}
use Rattle.lines.proofs.Numbers.{on_decimal, decimal_short}
use Rattle.lines.proofs.Parts.{free, free_end, first_part, one_field}
use Rattle.transfer.specs.Rules.{end_of, unstarted, frames_out, keeps_rules}
use Rattle.transfer.specs.declared.Transfer.{Transfer}
use Rattle.transfer.specs.declared.Phase.{Phase}
use Rattle.transfer.proofs.Facts.{PhaseRule, Started, rules_say}
use Rattle.saved.specs.Saved.{bound_of, room_of, columns, phase_word, line_of, largest}
use Rattle.saved.specs.Walk.{tabbed}
use Rattle.saved.proofs.Words.{word_free, word_short}

-- ---- the parts of a line

joined_more : (p : List ℕ) (ps : List (List ℕ)) (w : List ℕ) → joined tab (p ∷ (ps ++ (w ∷ []))) ≡ p ++ (tab ∷ joined tab (ps ++ (w ∷ [])))
joined_more p [] w = refl
joined_more p (q ∷ ps) w = refl

joined_tabbed : (ns w : List ℕ) → joined tab (map decimal ns ++ (w ∷ [])) ≡ tabbed ns ++ w
joined_tabbed [] w = refl
joined_tabbed (n ∷ ns) w =
    joined_more (decimal n) (map decimal ns) w
    ∙ ap (λ (l : List ℕ). decimal n ++ (tab ∷ l)) (joined_tabbed ns w)
    ∙ sym (append_assoc (decimal n) (tab ∷ tabbed ns) w)

pub line_tabbed : (form : ℕ) (s : Transfer) → line_of form s ≡ tabbed (columns form s) ++ phase_word s.phase
unfolding line_of
line_tabbed form s = joined_tabbed (columns form s) (phase_word s.phase)

digit_no_tab : (s : List ℕ) (d : ℕ) → free tab s ≡ true → free tab (s ++ ((48 + d) ∷ [])) ≡ true
digit_no_tab s d f = free_end tab s (48 + d) f (ne_eqb (48 + d) tab (λ e. omega arith))

decimal_free : (n : ℕ) → free tab (decimal n) ≡ true
decimal_free = on_decimal (λ n s. free tab s ≡ true) (λ n h. digit_no_tab [] n refl) (λ n h r. digit_no_tab (decimal (n / 10)) (n % 10) r)

-- numbers in front of a line are its first fields
pub tabbed_fields : (ns rest : List ℕ) → fields_of (tabbed ns ++ rest) ≡ map decimal ns ++ fields_of rest
tabbed_fields [] rest = refl
tabbed_fields (n ∷ ns) rest =
    ap fields_of (append_assoc (decimal n) (tab ∷ tabbed ns) rest)
    ∙ first_part tab ([] ∷ []) (decimal n) (tabbed ns ++ rest) (decimal_free n)
    ∙ ap (λ (fs : List (List ℕ)). decimal n ∷ fs) (tabbed_fields ns rest)

pub line_fields : (form : ℕ) (s : Transfer) → fields_of (line_of form s) ≡ map decimal (columns form s) ++ (phase_word s.phase ∷ [])
line_fields form s =
    ap fields_of (line_tabbed form s)
    ∙ tabbed_fields (columns form s) (phase_word s.phase)
    ∙ ap (λ (fs : List (List ℕ)). map decimal (columns form s) ++ fs) (one_field (phase_word s.phase) (word_free s.phase))

-- ---- how large the numbers of a line are

-- each number is at most the one that stands in its place
abbrev pub AtMost : List ℕ → List ℕ → Type 0
AtMost [] ms = Unit {0}
AtMost (n ∷ ns) [] = ⊥
AtMost (n ∷ ns) (m ∷ ms) = (n ≤ m) × AtMost ns ms

-- the columns' largest numbers
abbrev pub mosts : ℕ → ℕ → List ℕ
mosts bound form = form ∷ largest ∷ largest ∷ 1024 ∷ 255 ∷ largest ∷ largest ∷ bound ∷ 1 ∷ 255 ∷ []

pub flag_most : (t : Bool) → flag t ≤ 1
flag_most t = omega (arith, (flag_back t).0)

few : (bound e d : ℕ) (p : Phase) (s : Transfer) → PhaseRule bound e d p s → s.unanswered ≤ bound
few bound e d Phase.New s rule = absurd rule
few bound e d Phase.Run s (below, (a, inl z)) = let none = z.1 in omega arith
few bound e d Phase.Run s (below, (a, inr o)) = o.1.0
few bound e d Phase.Drain s (below, (sent, (again, (some, (less, most))))) = omega arith
few bound e d Phase.Done s (balance, (read, (none, sent))) = omega arith
few bound e d Phase.Fail s (below, (sent, (all, (none, some)))) = omega arith
few bound e d Phase.End s (below, (a, none)) = omega arith

module _ (bound form : ℕ) (s : Transfer) where
  new_most : s ≡ unstarted → AtMost (columns form s) (mosts bound form)
  new_most e = rw e (omega arith, (omega arith, (omega arith, (omega arith, (omega arith, (omega arith, (omega arith, (omega arith, (omega arith, (omega arith, tt))))))))))

  started_most : Started bound s → AtMost (columns form s) (mosts bound form)
  started_most ((((one, (total, (multiple, (four, (size, resends))))), (first, (order, (last, used)))), grid), rule) =
      (omega arith, (omega arith, (omega arith, (size, (resends, (omega arith, (omega arith, (few bound (end_of s) (frames_out s) s.phase s rule, (flag_most s.sent, (omega arith, tt))))))))))

  -- a state that keeps its rules has small numbers
  pub rules_most : keeps_rules bound s ≡ true → AtMost (columns form s) (mosts bound form)
  rules_most e = ⊎_elim new_most started_most ((rules_say bound s).0 e)

-- ---- how long a line is

-- numbers of at most k + 1 digits, for each k of a list, and as many tabs
abbrev room : List ℕ → ℕ
room [] = 0
room (k ∷ ks) = suc (suc k) + room ks

-- numbers that have at most so many digits
abbrev Digits : List ℕ → List ℕ → Type 0
Digits [] ks = Unit {0}
Digits (m ∷ ms) [] = ⊥
Digits (m ∷ ms) (k ∷ ks) = (m < 10 ^ suc k) × Digits ms ks

tabbed_short : (ns ms ks : List ℕ) → AtMost ns ms → Digits ms ks → length (tabbed ns) ≤ room ks
tabbed_short [] ms ks a d = omega arith
tabbed_short (n ∷ ns) [] ks a d = absurd a
tabbed_short (n ∷ ns) (m ∷ ms) [] a d = absurd d
tabbed_short (n ∷ ns) (m ∷ ms) (k ∷ ks) a d =
    let small : n < 10 ^ suc k = omega (arith, a.0, d.0) in
    let here : length (decimal n) ≤ suc k = decimal_short k n small in
    let rest : length (tabbed ns) ≤ room ks = tabbed_short ns ms ks a.1 d.1 in
    let all : length (tabbed (n ∷ ns)) ≡ length (decimal n) + suc (length (tabbed ns)) = length-append (decimal n) (tab ∷ tabbed ns) in
    omega arith

-- 1, 10, 10, 4, 3, 10, 10, 2, 1 and 3 digits
abbrev widths : List ℕ
widths = 0 ∷ 9 ∷ 9 ∷ 3 ∷ 2 ∷ 9 ∷ 9 ∷ 1 ∷ 0 ∷ 2 ∷ []

most_digits : (form : ℕ) → form < 10 → Digits (mosts (bound_of form) form) widths
most_digits form h = (h, (omega arith, (omega arith, (omega arith, (omega arith, (omega arith, (omega arith, (omega arith, (omega arith, (omega arith, tt))))))))))

pub line_short : (form : ℕ) (s : Transfer) → form < 10 → keeps_rules (bound_of form) s ≡ true → length (line_of form s) ≤ room_of form
line_short form s h e =
    let numbers : length (tabbed (columns form s)) ≤ room widths = tabbed_short (columns form s) (mosts (bound_of form) form) widths (rules_most (bound_of form) form s e) (most_digits form h) in
    let all : length (line_of form s) ≡ length (tabbed (columns form s)) + length (phase_word s.phase) =
    ap length (line_tabbed form s) ∙ length-append (tabbed (columns form s)) (phase_word s.phase) in
    omega (arith, numbers, word_short s.phase)
