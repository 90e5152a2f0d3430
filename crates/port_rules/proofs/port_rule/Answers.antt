-- The loop tests one phy more at each turn. Assumes nothing.
use Rattle.laws.proofs.Folds.{all_start, all_next}
use mathlib.Core.Path.{◌≡◌, refl, ◌∙◌}
use native.Mathlib.Omega.{arith}
use lib.ListN.{get_or}
use Rattle.port_parts.specs.Parts.{absent_phy, in_range}
use Rattle.port_rules.specs.Rules.{phy_rule, port_rule}
use Rattle.port_rules.proofs.port_rule.Goals as goal

pub loop-k-init : goal.loop-k-init
loop-k-init c = let p = c.args.p in
    (c.in_range-kept.ensures ∙ all_start (in_range p.count p.loss) (λ j. phy_rule p.count (get_or p.phys j absent_phy) j))

pub loop-k-preserved : goal.loop-k-preserved
loop-k-preserved c =
    let p = c.args.p in
    (all_next (in_range p.count p.loss) (λ j. phy_rule p.count (get_or p.phys j absent_phy) j) c.loop-k.k c.loop-k.invariant c.phy_rule-kept.ensures)

pub returns : goal.returns
unfolding port_rule
returns c = let z : c.loop-k.k ≡ 8 = omega arith in
    c.loop-k.invariant ∙ rw z refl
