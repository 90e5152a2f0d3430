-- The reader found a frame, whose fields are left, or refused, and all stays. Assumes nothing.
use Rattle.ssp_frame.specs.declared.data.DataHead.{DataHead}
use Rattle.ssp_frame.specs.declared.Frame.{Frame}
use mathlib.Core.Path.{◌∙◌, sym}
use Rattle.sonerwal.specs.Face.{data6}
use Rattle.sonerwal.proofs.Laws.{data_read}
use Rattle.sonerwal.proofs.frames.sonerwal_data_read.Goals as goal

pub returns-in-Ok : goal.returns-in-Ok
returns-in-Ok c =
    let lent : (Frame DataHead) = let a = c.args in data6 a.destination.now a.source.now a.changing.now a.tag.now a.offset.now a.length.now in
    data_read c.args.frame.now (lent) (sym c.in-Ok.is ∙ c.read_data.ensures)

pub returns-in-Err : goal.returns-in-Err
returns-in-Err c =
    let lent : (Frame DataHead) = let a = c.args in data6 a.destination.now a.source.now a.changing.now a.tag.now a.offset.now a.length.now in
    let w = data_read c.args.frame.now (lent) (sym c.in-Err.is ∙ c.read_data.ensures) in
    record { answer = c.from.ensures ∙ w.answer; leaves = w.leaves }
