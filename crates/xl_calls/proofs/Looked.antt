-- What holds of each row that fits, and of what is unexpected, holds of what the table does: an event is listed or it is not. Assumes
-- nothing.
use mathlib.Core.Bool.{Bool, true, false}
use mathlib.Core.List.{List}
use mathlib.Core.Path.{◌≡◌, refl, subst⁻¹}
use Rattle.xl_parts.specs.Parts.{Effect}
use Rattle.xl_parts.specs.Kinds.{Kind}
use Rattle.xl_rows.specs.Rows.{Row, listed, look}
use Rattle.xl_rows.proofs.Rows.{Every, found, unlisted}

pub looked : (P : Effect → Type 0) (k : Kind) (rs : List Row) (otherwise : Effect) → Every k P rs → P otherwise → P (look k rs otherwise)
looked P k rs otherwise all o = by (listed k rs) refl
  where
    by : (t : Bool) → listed k rs ≡ t → P (look k rs otherwise)
    by true l = found k otherwise P rs all l
    by false l = subst⁻¹ P (unlisted k otherwise rs l) o
