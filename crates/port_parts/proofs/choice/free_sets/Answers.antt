-- The sets of no phy are empty, and each turn puts one phy before the others. Assumes nothing.
use mathlib.Core.Path.{◌≡◌, sym, ap, ◌∙◌}
use Prim.Native.Nat.{ℕ, ◌-◌, ◌+◌}
use native.Mathlib.Omega.{arith}
use lib.ListN.{length, drop, get_or}
use borrow.Author.Rules.{rules}
use Rattle.port_parts.specs.Parts.{absent_phy}
use Rattle.port_parts.specs.Choice.{joined_of, free_sets}
use Rattle.port_parts.specs.declared.Sets.{Sets}
use Rattle.port_parts.proofs.Passes.{sets_none, sets_down, sets_small}
use Rattle.port_parts.proofs.choice.free_sets.Goals as goal

pub loop-k-init : goal.loop-k-init
loop-k-init c = let n : length c.args.phys ≡ 8 = search rules in
    let empty : c.default-s.result ≡ record { sends = 0; opens = 0; closes = 0 } = search rules in
    record { eight = n; so_far = empty ∙ sets_none c.args.phys c.args.h 8 (omega arith) }

pub joined-s-requires : goal.joined-s-requires
joined-s-requires c = sets_small c.args.phys c.args.h (8 - c.loop-k.k) c.loop-k.invariant.eight (omega arith) c.loop-k.s c.loop-k.invariant.so_far

pub loop-k-preserved : goal.loop-k-preserved
loop-k-preserved c =
    let a = c.args in
    let k = 8 - c.loop-k.k in
    let down = sets_down a.phys a.h absent_phy k (omega arith) (omega arith) in
    let here : k - 1 ≡ 7 - c.loop-k.k = omega arith in
    let next : k - 1 ≡ 8 - (c.loop-k.k + 1) = omega arith in
    record {
      eight = c.loop-k.invariant.eight;
      so_far =
          c.joined-s.ensures ∙ ap (λ (s : Sets). joined_of s (get_or a.phys (7 - c.loop-k.k) absent_phy) a.h) c.loop-k.invariant.so_far
          ∙ ap (λ (i : ℕ). joined_of (free_sets (drop k a.phys) a.h) (get_or a.phys i absent_phy) a.h) (sym here)
          ∙ down ∙ ap (λ (i : ℕ). free_sets (drop i a.phys) a.h) next;
    }

pub returns : goal.returns
returns c =
    let n : 8 - c.loop-k.k ≡ 0 = omega arith in
    c.loop-k.invariant.so_far ∙ ap (λ (i : ℕ). free_sets (drop i c.args.phys) c.args.h) n
