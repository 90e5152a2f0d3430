-- Every scan of the lent list from some record on. A scan has the list and a query x, and folds the records from FROM(x) on into an
-- accumulator, each of any type:
--     let mut acc = START(x);  let mut i = FROM(x);  while i < 32 { acc = STEP(acc, list[i], i, x);  i += 1; }  acc
-- START's contract gives its answer by a function Start of x, FROM's by a function From of x, and STEP's by a function Step of the
-- accumulator, the record, its number and x. The loop's state: the accumulator is the fold of the records from From x up to i, which
-- a turn makes one longer. Assumes nothing.
use mathlib.Core.Path.{◌≡◌, refl, sym, ap, ◌∙◌}
use Prim.Native.Nat.{ℕ, ◌+◌}
use native.Mathlib.Numerals.{add-one}
use mathlib.Core.List.{List}
use lib.ListN.{get_or}
use Rattle.port_parts.specs.declared.Request.{Request}
use Rattle.laws.specs.Folds.{fold_from}
use Rattle.port_parts.specs.Parts.{blank}

module _ {A Q : Type 0} (Start : Q → A) (From : Q → ℕ) (Step : A → Request → ℕ → Q → A) where
  -- the first n records
  abbrev pub folded : List Request → Q → ℕ → A
  folded ys x n = fold_from blank (λ (a : A) (r : Request) (i : ℕ). Step a r i x) (Start x) ys (From x) n

  pub folded_none : (ys : List Request) (x : Q) → Start x ≡ folded ys x 0
  unfolding fold_from
  folded_none ys x = refl

  pub folded_next : (ys : List Request) (x : Q) (i n : ℕ) → i ≡ From x + n → Step (folded ys x n) (get_or ys i blank) i x ≡ folded ys x (n + 1)
  unfolding fold_from
  folded_next ys x i n e = ap (λ (k : ℕ). Step (folded ys x n) (get_or ys k blank) k x) e ∙ ap (folded ys x) (sym (add-one n))
