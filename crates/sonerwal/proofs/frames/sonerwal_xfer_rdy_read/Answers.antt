-- The reader found a frame, whose fields are left, or refused, and all stays. Assumes nothing.
use mathlib.Core.Path.{◌∙◌, sym}
use Rattle.ssp_frame.specs.declared.xfer_rdy.XferHead.{XferHead}
use Rattle.sonerwal.specs.Face.{xfer8}
use Rattle.sonerwal.proofs.Laws.{xfer_read}
use Rattle.sonerwal.proofs.frames.sonerwal_xfer_rdy_read.Goals as goal

pub returns-in-Ok : goal.returns-in-Ok
returns-in-Ok c =
    let lent : XferHead = let a = c.args in xfer8 a.destination.now a.source.now a.retransmit.now a.retry.now a.tag.now a.transfer.now a.offset.now a.length.now in
    xfer_read c.args.frame.now (lent) (sym c.in-Ok.is ∙ c.read_xfer_rdy.ensures)

pub returns-in-Err : goal.returns-in-Err
returns-in-Err c =
    let lent : XferHead = let a = c.args in xfer8 a.destination.now a.source.now a.retransmit.now a.retry.now a.tag.now a.transfer.now a.offset.now a.length.now in
    let w = xfer_read c.args.frame.now (lent) (sym c.in-Err.is ∙ c.read_xfer_rdy.ensures) in
    record { answer = c.from.ensures ∙ w.answer; leaves = w.leaves }
