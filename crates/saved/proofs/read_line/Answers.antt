-- Where ten columns are read and a phase is named behind them, the first and the ninth number decide; otherwise the line has no form.
-- Assumes nothing.
use Rattle.std.proofs.Common.{sym, ap, ◌∙◌, Option, Some}
use Rattle.transfer.specs.declared.Transfer.{Transfer}
use Rattle.saved.specs.Saved.{newest}
use Rattle.saved.proofs.Shapes.{no_phase, has_shape, has_state, unread, was_read}
use Rattle.saved.proofs.read_line.Goals as goal

abbrev some : Transfer → Option Transfer
some t = Some t

pub returns-in_err-phase : goal.returns-in_err-phase
returns-in_err-phase c =
    c.from_residual-in_err-phase.ensures ∙ unread newest c.args.line.now (no_phase newest c.args.line.now c.in_ok-columns.ensures (sym c.in_err-phase.ensures))

pub returns-then-ns : goal.returns-then-ns
returns-then-ns c =
    let line = c.args.line.now in
    let named = sym c.in_ok-phase.ensures in
    let shape = has_shape newest line c.in_ok-columns.ensures named ∙ c.if-ns.true in
    ap some (c.state_by.ensures ∙ has_state newest line c.in_ok-columns.ensures named) ∙ was_read newest line shape

pub returns : goal.returns
returns c =
    let line = c.args.line.now in
    unread newest line (has_shape newest line c.in_ok-columns.ensures (sym c.in_ok-phase.ensures) ∙ c.if-ns.false)
