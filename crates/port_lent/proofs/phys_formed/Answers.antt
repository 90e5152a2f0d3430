-- The loop asks one phy more at each turn. Assumes nothing.
use mathlib.Core.Path.{◌≡◌, ap, ◌∙◌}
use mathlib.Core.Bool.{true}
use native.Mathlib.Omega.{arith}
use lib.ListN.{get_or}
use Rattle.laws.specs.Folds.{all_below}
use Rattle.laws.proofs.Folds.{all_start, all_next}
use Rattle.port_lent.specs.Lent.{no_phy, phy_formed, phys_formed}
use Rattle.port_lent.proofs.phys_formed.Goals as goal

pub loop-f-init : goal.loop-f-init
loop-f-init c = all_start true (λ j. phy_formed (get_or c.args.phys j no_phy))

pub loop-f-preserved : goal.loop-f-preserved
loop-f-preserved c = all_next true (λ j. phy_formed (get_or c.args.phys j no_phy)) c.loop-f.f-index c.loop-f.invariant c.phy_formed-kept.ensures

pub returns : goal.returns
unfolding phys_formed
returns c = let z : c.loop-f.f-index ≡ 8 = omega arith in
    c.loop-f.invariant ∙ ap (all_below (λ j. phy_formed (get_or c.args.phys j no_phy))) z
