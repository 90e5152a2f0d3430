-- The sets of no phy are empty, and each turn puts one phy before the others. Assumes nothing.
use mathlib.Core.Path.{◌≡◌}
use Prim.Native.Nat.{◌-◌}
use lib.ListN.{length, drop}
use Rattle.port_parts.specs.Choice.{free_sets}
use Rattle.port_parts.proofs.choice.free_sets.Given as goal

abbrev pub invariant-loop-k : goal.invariant-loop-k
invariant-loop-k l = record { eight : length l.phys ≡ 8; so_far : l.s ≡ free_sets (drop (8 - l.k) l.phys) l.h }
