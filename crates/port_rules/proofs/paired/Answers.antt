-- The loop tests one phy more at each turn. Assumes nothing.
use Rattle.laws.proofs.Folds.{all_start, all_next}
use mathlib.Core.Path.{◌≡◌, refl, ◌∙◌}
use mathlib.Core.Bool.{not, ◌||◌}
use native.Mathlib.Omega.{arith}
use lib.Dec.{ltb}
use lib.ListN.{get_or}
use Rattle.port_parts.specs.Parts.{absent_phy, is_in_progress}
use Rattle.port_rules.specs.Rules.{paired_at, paired}
use Rattle.port_rules.proofs.paired.Goals as goal

pub loop-k-init : goal.loop-k-init
loop-k-init c = let a = c.args in
    (all_start (not (is_in_progress a.r) || ltb a.r.phy 8) (λ j. paired_at (get_or a.phys j absent_phy) j a.r a.i))

pub loop-k-preserved : goal.loop-k-preserved
loop-k-preserved c =
    let a = c.args in
    (all_next (not (is_in_progress a.r) || ltb a.r.phy 8) (λ j. paired_at (get_or a.phys j absent_phy) j a.r a.i) c.loop-k.k c.loop-k.invariant c.paired_at-kept.ensures)

pub returns : goal.returns
unfolding paired
returns c = let z : c.loop-k.k ≡ 8 = omega arith in
    c.loop-k.invariant ∙ rw z refl
