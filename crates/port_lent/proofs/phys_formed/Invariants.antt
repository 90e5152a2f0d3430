-- The loop asks one phy more at each turn. Assumes nothing.
use mathlib.Core.Path.{◌≡◌}
use mathlib.Core.Bool.{true, ◌&&◌}
use lib.ListN.{get_or}
use Rattle.laws.specs.Folds.{all_below}
use Rattle.port_lent.specs.Lent.{no_phy, phy_formed}
use Rattle.port_lent.proofs.phys_formed.Given as goal

abbrev pub invariant-loop-f : goal.invariant-loop-f
invariant-loop-f l = l.kept ≡ true && all_below (λ j. phy_formed (get_or l.fn.phys j no_phy)) l.f-index
