-- Before the loop no record is tested and none is found; each turn tests and joins one, and the last is that at place 31. Assumes nothing.
use Rattle.std.proofs.Common.{◌≡◌, get_or, arith, ap, ◌∙◌}
use mathlib.Core.Bool.{◌&&◌}
use Rattle.laws.specs.Folds.{fold_to}
use Rattle.port_parts.specs.Parts.{blank}
use Rattle.port_rules.specs.Rules.{port_rule, apart_from}
use Rattle.port_list.proofs.Survey.{folded_none, folded_next}
use Rattle.port.specs.Scans.{kept_step, kept_to}
use Rattle.port.proofs.Scanned.{one_pass}
use Rattle.port.proofs.scans.survey.Goals as goal

pub loop-i-init : goal.loop-i-init
loop-i-init g c = record {
  callable = c.requires;
  kept = c.port_rule-kept.ensures ∙ folded_none (kept_step c.args.p c.args.list.now) (port_rule c.args.p) c.args.list.now;
  found = λ step fits. folded_none step c.args.start c.args.list.now;
}

pub loop-i-preserved : goal.loop-i-preserved
loop-i-preserved g c =
    let l = c.args.list.now in
    let i = c.loop-i.i in
    let apart = c.apart_from-apart.ensures ∙ ap (apart_from l) c.compared_of.ensures in
    record {
      callable = c.requires;
      kept = (λ j. (c.loop-i.invariant.kept j && c.request_rule.ensures j) && apart j) ∙ folded_next (kept_step c.args.p l) (port_rule c.args.p) l i;
      found =
          λ step fits.
          fits c.loop-i.found (get_or l i blank) i c.join-found.result c.join-found.ensures
          ∙ ap (λ a. step a (get_or l i blank) i) (c.loop-i.invariant.found step fits) ∙ folded_next step c.args.start l i;
    }

pub returns : goal.returns
returns g c =
    let l = c.args.list.now in
    let n : c.loop-i.i ≡ 32 = omega arith in
    record {
      kept = c.loop-i.invariant.kept ∙ ap (kept_to c.args.p l) n ∙ one_pass c.args.p l;
      found = λ step fits. c.loop-i.invariant.found step fits ∙ ap (fold_to blank step c.args.start l) n;
    }
