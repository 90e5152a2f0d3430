-- No request is folded in before the loop, each turn folds in one, and the last is that at place 31. Assumes nothing.
use Rattle.std.proofs.Common.{◌≡◌, ◌+◌, ◌-◌, ℕ, get_or, Bool, List, arith, ap, ◌∙◌}
use mathlib.Core.Bool.{true}
use Rattle.port_parts.specs.Parts.{blank}
use Rattle.port_parts.specs.declared.Request.{Request}
use Rattle.port_rules.specs.Rules.{apart_step}
use Rattle.port_rules.specs.declared.Compared.{Compared}
use Rattle.port_list.proofs.FoldFrom.{folded, folded_none, folded_next}
use Rattle.port.proofs.scans.apart_from.Goals as goal

abbrev up_to : List Request → Compared → ℕ → Bool
up_to l x n = folded (λ (x : Compared). true) (λ (x : Compared). x.from) apart_step l x n

pub loop-i-init : goal.loop-i-init
loop-i-init c =
    let z : 0 ≡ c.args.x.from - c.args.x.from = omega arith in
    record {
      behind = omega arith;
      within = omega arith;
      so_far = folded_none (λ (x : Compared). true) (λ (x : Compared). x.from) apart_step c.args.list.now c.args.x ∙ ap (up_to c.args.list.now c.args.x) z;
    }

pub loop-i-preserved : goal.loop-i-preserved
loop-i-preserved c =
    let l = c.loop-i in
    let n : (l.i - c.args.x.from) + 1 ≡ (l.i + 1) - c.args.x.from = omega arith in
    record {
      behind = omega arith;
      within = omega arith;
      so_far =
          c.apart_step-kept.ensures
          ∙ ap (λ (a : Bool). apart_step a (get_or c.args.list.now l.i blank) l.i c.args.x) l.invariant.so_far
          ∙ folded_next (λ (x : Compared). true) (λ (x : Compared). x.from) apart_step c.args.list.now c.args.x l.i (l.i - c.args.x.from) (omega arith)
          ∙ ap (up_to c.args.list.now c.args.x) n;
    }

pub returns : goal.returns
returns c =
    let n : c.loop-i.i - c.args.x.from ≡ 32 - c.args.x.from = omega arith in
    c.loop-i.invariant.so_far ∙ ap (up_to c.args.list.now c.args.x) n
