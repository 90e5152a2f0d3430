-- The number of fields tells the cases of `command_of`: one is a word, five are START's if START is the first, and all else is
-- bad, as is a line that is too long, which has none. Assumes nothing.
use mathlib.Core.Path.{sym, ◌∙◌}
use Rattle.runs.proofs.Commands.{one_word, start_line, bad_line}
use Rattle.runs.proofs.read_line.Goals as goal

pub returns-then-n-eq1 : goal.returns-then-n-eq1
returns-then-n-eq1 c = c.command_named.ensures ∙ sym (one_word c.args.s.now c.field_count-n.result c.field_count-n.ensures c.if-n-eq1.true)

pub returns-then-n-same : goal.returns-then-n-same
returns-then-n-same c =
    c.start_of.ensures ∙ sym (start_line c.args.s.now c.field_count-n.result c.field_count-n.ensures (rw (← c.field_at.ensures, ← c.same.ensures) c.if-n-same.true))

pub returns : goal.returns
returns c =
    sym (bad_line c.args.s.now c.field_count-n.result c.field_count-n.ensures c.if-n-eq1.false (rw (← c.field_at.ensures, ← c.same.ensures) c.if-n-same.false))
