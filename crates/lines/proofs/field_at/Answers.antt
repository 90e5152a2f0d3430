-- What stands behind k tabs begins where `start` answers, and `place_from` answers where its first tab or the end is: field k is what
-- lies between. Assumes nothing.
use native.Mathlib.Omega.{arith}
use Rattle.lines.proofs.Parts.{field_is, place_within}
use Rattle.lines.proofs.field_at.Goals as goal

pub slice_bounds-result-end : goal.slice_bounds-result-end
slice_bounds-result-end c = omega (arith, c.place_from-to.ensures, place_within 9 c.args.s.now c.start-from.result c.start-from.ensures.0)

pub returns : goal.returns
returns c = field_is c.args.s.now c.args.k c.start-from.result c.place_from-to.result c.start-from.ensures.1 c.place_from-to.ensures
