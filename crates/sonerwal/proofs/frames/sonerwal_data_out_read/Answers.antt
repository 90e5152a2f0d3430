-- The reader found a frame, whose fields are left, or refused, and all stays. Assumes nothing.
use Rattle.ssp_frame.specs.declared.data_out.OutHead.{OutHead}
use Rattle.ssp_frame.specs.declared.Frame.{Frame}
use mathlib.Core.Path.{◌∙◌, sym}
use Rattle.sonerwal.specs.Face.{out7}
use Rattle.sonerwal.proofs.Laws.{out_read}
use Rattle.sonerwal.proofs.frames.sonerwal_data_out_read.Goals as goal

pub returns-in-Ok : goal.returns-in-Ok
returns-in-Ok c =
    let lent : (Frame OutHead) = let a = c.args in out7 a.destination.now a.source.now a.changing.now a.tag.now a.transfer.now a.offset.now a.length.now in
    out_read c.args.frame.now (lent) (sym c.in-Ok.is ∙ c.read_data_out.ensures)

pub returns-in-Err : goal.returns-in-Err
returns-in-Err c =
    let lent : (Frame OutHead) = let a = c.args in out7 a.destination.now a.source.now a.changing.now a.tag.now a.transfer.now a.offset.now a.length.now in
    let w = out_read c.args.frame.now (lent) (sym c.in-Err.is ∙ c.read_data_out.ensures) in
    record { answer = c.from.ensures ∙ w.answer; leaves = w.leaves }
