-- The loop tests one phy more at each turn. Assumes nothing.
use mathlib.Core.Path.{◌≡◌}
use mathlib.Core.Bool.{not, ◌&&◌, ◌||◌}
use lib.Dec.{ltb}
use lib.ListN.{get_or}
use Rattle.laws.specs.Folds.{all_below}
use Rattle.port_parts.specs.Parts.{absent_phy, is_in_progress}
use Rattle.port_rules.specs.Rules.{paired_at}
use Rattle.port_rules.proofs.paired.Given as goal

abbrev pub invariant-loop-k : goal.invariant-loop-k
invariant-loop-k l = l.kept ≡ (not (is_in_progress l.r) || ltb l.r.phy 8) && all_below (λ j. paired_at (get_or l.fn.phys j absent_phy) j l.r l.i) l.k
