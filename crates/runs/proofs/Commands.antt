-- A line's fields tell what it says: one word alone, or START and four numbers. Assumes nothing.
use Rattle.std.specs.Prelude.{None, Option}
use Prim.Native.Nat.{ℕ, suc, ◌≤◌, ◌<◌}
use mathlib.Core.Bool.{Bool, true, false, cond, ◌&&◌}
use mathlib.Core.List.{List, [], ◌∷◌}
use mathlib.Core.Path.{◌≡◌, refl, sym, ap, ◌∙◌, subst}
use native.Mathlib.Omega.{arith}
use borrow.Author.Tests.{leb-true, leb-false, eqb-true, eq-eqb}
use lib.Dec.{leb, eqb}
use lib.ListN.{length, take, get_or, length-take}
use lib.Seq.{take_all}
use Rattle.laws.proofs.Bools.{and_left, and_right}
use Rattle.lines.specs.Parts.{tab, fields_of, fields_within, field_at, joined, same}
use Rattle.lines.proofs.Parts.{fields_joined, too_long}
use Rattle.lines.specs.Puts.{Put}
use Rattle.transfer.specs.declared.Transfer.{Transfer}
use Rattle.runs.specs.Commands.{START, longest, command_named, start_of, command_of, read_line, obeyed}
use Rattle.runs.specs.Rows.{row, longest_row}
use Rattle.runs.specs.Feed.{enough, Takes}
use Rattle.runs.specs.declared.Taken.{Taken}
use Rattle.runs.specs.declared.Command.{Command}

-- a line that is too long is bad, and so is its front
pub long : (s : List ℕ) → longest < length s → read_line s ≡ None
unfolding read_line command_of
long s h = rw (too_long longest s h)

pub cut : (s : List ℕ) → read_line (take enough s) ≡ read_line s
cut s = by (leb (length s) enough) refl
  where
    by : (t : Bool) → leb (length s) enough ≡ t → read_line (take enough s) ≡ read_line s
    by true e = ap read_line (take_all enough s (leb-true (length s) enough e))
    by false e =
        let l : enough < length s = leb-false (length s) enough e in
        long (take enough s) (rw (length-take enough s) (omega arith)) ∙ sym (long s (omega arith))

-- a line with fields is short enough
filled : (s : List ℕ) (k : ℕ) → length (fields_within longest s) ≡ suc k → fields_within longest s ≡ fields_of s
filled s k = by (leb (length s) longest)
  where
    by : (t : Bool) → length (cond t (fields_of s) []) ≡ suc k → cond t (fields_of s) [] ≡ fields_of s
    by true h = refl
    by false h = absurd (omega arith)

single : (fs : List (List ℕ)) → length fs ≡ 1 → fs ≡ joined tab fs ∷ []
single [] h = absurd (omega arith)
single (w ∷ []) h = refl
single (w ∷ x ∷ fs) h = absurd (omega arith)

five : (fs : List (List ℕ)) → length fs ≡ 5 → fs ≡ get_or fs 0 [] ∷ get_or fs 1 [] ∷ get_or fs 2 [] ∷ get_or fs 3 [] ∷ get_or fs 4 [] ∷ []
five [] h = absurd (omega arith)
five (w ∷ []) h = absurd (omega arith)
five (w ∷ b ∷ []) h = absurd (omega arith)
five (w ∷ b ∷ n ∷ []) h = absurd (omega arith)
five (w ∷ b ∷ n ∷ m ∷ []) h = absurd (omega arith)
five (w ∷ b ∷ n ∷ m ∷ r ∷ []) h = refl
five (w ∷ b ∷ n ∷ m ∷ r ∷ x ∷ fs) h = absurd (omega arith)

neither : (fs : List (List ℕ)) → (length fs ≡ 1 → ⊥) → eqb (length fs) 5 && same (get_or fs 0 []) START ≡ false → command_of fs ≡ None
unfolding command_of
neither [] h k = refl
neither (w ∷ []) h k = absurd (h refl)
neither (w ∷ b ∷ []) h k = refl
neither (w ∷ b ∷ n ∷ []) h k = refl
neither (w ∷ b ∷ n ∷ m ∷ []) h k = refl
neither (w ∷ b ∷ n ∷ m ∷ r ∷ []) h k = let e : same w START ≡ false = k in rw e
neither (w ∷ b ∷ n ∷ m ∷ r ∷ x ∷ fs) h k = refl

-- what a line with n fields says
module _ (s : List ℕ) (n : ℕ) (e : n ≡ length (fields_within longest s)) where
  pub one_word : n ≡ 1 → read_line s ≡ command_named s
  unfolding read_line command_of
  one_word h =
      let short = filled s 0 (sym e ∙ h) in
      let all : fields_within longest s ≡ s ∷ [] = short ∙ single (fields_of s) (ap length (sym short) ∙ sym e ∙ h) ∙ ap (λ (l : List ℕ). l ∷ []) (fields_joined s) in
      ap command_of all

  pub start_line : eqb n 5 && same (field_at s 0) START ≡ true → read_line s ≡ start_of s
  unfolding read_line command_of
  start_line h =
      let many : n ≡ 5 = eqb-true n 5 (and_left (eqb n 5) _ h) in
      let short = filled s 4 (sym e ∙ many) in
      let all = short ∙ five (fields_of s) (ap length (sym short) ∙ sym e ∙ many) in
      ap command_of all ∙ rw (and_right (eqb n 5) _ h)

  pub bad_line : (n ≡ 1 → ⊥) → eqb n 5 && same (field_at s 0) START ≡ false → read_line s ≡ None
  unfolding read_line
  bad_line h k = neither (fields_within longest s) (λ l. h (e ∙ l)) (by (eqb (length (fields_within longest s)) 5) refl)
    where
      by : (t : Bool) → eqb (length (fields_within longest s)) 5 ≡ t → t && same (get_or (fields_within longest s) 0 []) START ≡ false
      by true l =
          let many : length (fields_within longest s) ≡ 5 = eqb-true (length (fields_within longest s)) 5 l in
          ap (λ (fs : List (List ℕ)). same (get_or fs 0 []) START) (filled s 4 many) ∙ (rw (eq-eqb n 5 (e ∙ many)) at k)
      by false l = refl

-- lines that say the same are taken alike
pub taken_alike : {line : ℕ} {transfer : Transfer} {s s' out : List ℕ} {at : ℕ} {r : Taken} {out' : List ℕ} → read_line s ≡ read_line s' → Takes line transfer s out at r out' → Takes line transfer s' out at r out'
taken_alike {line} {transfer} {s} {s'} {out} {at} {r} {out'} e x =
    record {
      state = x.state ∙ ap (λ (c : Option Command). (obeyed c transfer).state) e;
      bytes = subst (λ (c : Option Command). Put out at (row line (obeyed c transfer)) r.place out') e x.bytes;
      short = subst (λ (c : Option Command). length (row line (obeyed c transfer)) ≤ longest_row) e x.short;
    }
