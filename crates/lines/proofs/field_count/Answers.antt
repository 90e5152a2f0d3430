-- A line has a field more than tabs. Assumes nothing.
use Rattle.std.proofs.Common.{rules, ◌≡◌, ℕ, ◌+◌, ◌∙◌, sym, ap, length, count_by, nat_eq}
use Rattle.lines.specs.Parts.{tab}
use Rattle.lines.proofs.Parts.{counted, within}
use Rattle.lines.proofs.field_count.Goals as goal

pub returns : goal.returns
returns c =
    let s = c.args.s.now in
    let tabs : c.count.result ≡ count_by (λ (x : ℕ). nat_eq x tab) s = search rules in
    ap (λ (n : ℕ). n + 1) tabs ∙ sym (counted s) ∙ ap length (sym (within c.args.longest s c.if-longest-s.false))
