-- The loop tests one phy more at each turn. Assumes nothing.
use mathlib.Core.Path.{◌≡◌}
use mathlib.Core.Bool.{◌&&◌}
use lib.ListN.{get_or}
use Rattle.laws.specs.Folds.{all_below}
use Rattle.port_parts.specs.Parts.{absent_phy, in_range}
use Rattle.port_rules.specs.Rules.{phy_rule}
use Rattle.port_rules.proofs.port_rule.Given as goal

abbrev pub invariant-loop-k : goal.invariant-loop-k
invariant-loop-k l = l.kept ≡ in_range l.fn.p.count l.fn.p.loss && all_below (λ j. phy_rule l.fn.p.count (get_or l.fn.p.phys j absent_phy) j) l.k
