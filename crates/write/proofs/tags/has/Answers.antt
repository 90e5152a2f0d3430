-- A set of 64 tags has none from 64 on. Assumes nothing.
use mathlib.Core.Path.{sym, ◌∙◌}
use native.Mathlib.Omega.{arith}
use borrow.Author.Tests.{le-ltb, ne_eqb}
use Rattle.laws.specs.Tags.{digit}
use Rattle.laws.proofs.Tags.{member_less}
use borrow.Author.Rules.{rules}
use Rattle.write.proofs.tags.has.Goals as goal

pub returns-else-t-lt-TAGS : goal.returns-else-t-lt-TAGS
returns-else-t-lt-TAGS c = let a = c.args in
    le-ltb a.t 64 c.if-t-lt-TAGS.false
    ∙ sym (ne_eqb (digit a.tags a.t) 1 (λ e. let less = member_less 64 a.tags a.t (search rules) e in omega arith))
