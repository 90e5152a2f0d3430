-- What holds of each row that fits holds of what the table does with a listed event, and an event that is not listed does what is
-- unexpected: the rows are looked through in order. Assumes nothing.
use mathlib.Core.Bool.{Bool, true, false, cond, ◌||◌}
use mathlib.Core.List.{List, [], ◌∷◌}
use mathlib.Core.Path.{◌≡◌, refl, sym}
use Rattle.laws.proofs.Bools.{never}
use Rattle.xl_parts.specs.Parts.{Effect}
use Rattle.xl_parts.specs.Kinds.{Kind}
use Rattle.xl_rows.specs.Rows.{Row, fits, listed, look}

-- P holds of what each row does that fits
abbrev pub Every : Kind → (Effect → Type 0) → List Row → Type 0
Every k P [] = Unit {0}
Every k P (r ∷ rs) = (fits k r ≡ true → P r.does) × Every k P rs

module _ (k : Kind) (otherwise : Effect) where
  pub found : (P : Effect → Type 0) (rs : List Row) → Every k P rs → listed k rs ≡ true → P (look k rs otherwise)
  found P [] all e = absurd (never e)
  found P (r ∷ rs) all e = by (found P rs) (fits k r) refl e
    where
      by : (Every k P rs → listed k rs ≡ true → P (look k rs otherwise)) → (t : Bool) → fits k r ≡ t → t || listed k rs ≡ true → P (cond t r.does (look k rs otherwise))
      by rest true q h = all.0 q
      by rest false q h = rest all.1 h

  pub unlisted : (rs : List Row) → listed k rs ≡ false → look k rs otherwise ≡ otherwise
  unlisted [] e = refl
  unlisted (r ∷ rs) e = by (unlisted rs) (fits k r) e
    where
      by : (listed k rs ≡ false → look k rs otherwise ≡ otherwise) → (t : Bool) → t || listed k rs ≡ false → cond t r.does (look k rs otherwise) ≡ otherwise
      by rest true h = absurd (never (sym h))
      by rest false h = rest h
