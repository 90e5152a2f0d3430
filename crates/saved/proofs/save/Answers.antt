-- Each refusal is a cause of `save_causes` in its order; with room for every line and the rules kept, the line is put whole. Assumes nothing.
use mathlib.Core.Path.{sym, ◌∙◌}
use native.Mathlib.Omega.{arith}
use borrow.Author.Rules.{rules}
use Rattle.saved.specs.Saved.{newest}
use Rattle.saved.proofs.Puts.{line_saved}
use Rattle.saved.proofs.save.Goals as goal

pub returns : goal.returns
returns c =
    let kept = sym c.keeps_rules.ensures ∙ c.if-not-keeps_rules.false in
    line_saved newest _ (omega arith) c.if-out-lt-ROOM.false kept (search rules)
