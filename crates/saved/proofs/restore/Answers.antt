-- A line is taken if it has a form and the state that was read keeps the rules. Assumes nothing.
use Rattle.std.proofs.Common.{◌≡◌, sym, ap, ◌∙◌, false}
use Rattle.saved.specs.Saved.{newest, taken, restored}
use Rattle.saved.proofs.Shapes.{taken_read, untaken}
use Rattle.saved.proofs.Calls.{restore_taken, restore_other}
use Rattle.saved.proofs.restore.Goals as goal
use Rattle.saved.proofs.restore.Goals.{in_default-via-in-Some+else-keeps_rules, in_default-via-in_default}

pub returns-in-Some : goal.returns-in-Some
returns-in-Some c =
    let line = c.args.line.now in
    let is = taken_read newest line c.in-Some.t c.in-Some.ensures in
    ap restored is.0 ∙ sym (restore_taken line (is.1 ∙ sym c.keeps_rules.ensures ∙ c.if-keeps_rules.true))

pub returns-in_default : goal.returns-in_default
returns-in_default c =
    let line = c.args.line.now in
    let off : taken newest line ≡ false =
    elim c.in_default.branch [
      | in_default-via-in-Some+else-keeps_rules w ↦ (taken_read newest line w.in-Some.t w.in-Some.ensures).1 ∙ sym w.keeps_rules.ensures ∙ w.if-keeps_rules.false
      | in_default-via-in_default w ↦ untaken newest line w.in_default.ensures
    ] in
    c.unrestored.ensures ∙ sym (restore_other line off)
