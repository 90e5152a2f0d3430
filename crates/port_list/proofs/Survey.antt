-- Every scan of the lent list from its first record on:
--     let mut acc = START;  for i in 0..32 { acc = STEP(acc, list[i], i); }  acc
-- STEP may hold the record against others of the list, as its answer is given by a function Step of the accumulator, the record and its
-- number. The answer is the fold of 32 records: before a turn the accumulator is the fold of the first i, and the turn makes it one
-- longer. Assumes nothing.
use mathlib.Core.Path.{◌≡◌, refl, sym, ap}
use Prim.Native.Nat.{ℕ, ◌+◌}
use native.Mathlib.Numerals.{add-one}
use mathlib.Core.List.{List}
use lib.ListN.{get_or}
use Rattle.port_parts.specs.declared.Request.{Request}
use Rattle.laws.specs.Folds.{fold_to}
use Rattle.port_parts.specs.Parts.{blank}

module _ {A : Type 0} (Step : A → Request → ℕ → A) (start : A) where
  -- the first n records
  abbrev pub folded : List Request → ℕ → A
  folded ys n = fold_to blank Step start ys n

  pub folded_none : (ys : List Request) → start ≡ folded ys 0
  unfolding fold_to
  folded_none ys = refl

  pub folded_next : (ys : List Request) (i : ℕ) → Step (folded ys i) (get_or ys i blank) i ≡ folded ys (i + 1)
  unfolding fold_to
  folded_next ys i = ap (folded ys) (sym (add-one i))
