-- The reader found a frame, whose fields are left, or refused, and all stays. Assumes nothing.
use Rattle.ssp_frame.specs.declared.response.ResponseHead.{ResponseHead}
use Rattle.ssp_frame.specs.declared.Frame.{Frame}
use mathlib.Core.Path.{◌∙◌, sym}
use Rattle.sonerwal.specs.Face.{response7}
use Rattle.sonerwal.proofs.Laws.{response_read}
use Rattle.sonerwal.proofs.frames.sonerwal_response_read.Goals as goal

pub returns-in-Ok : goal.returns-in-Ok
returns-in-Ok c =
    let lent : (Frame ResponseHead) = let a = c.args in response7 a.destination.now a.source.now a.retransmit.now a.tag.now a.present.now a.status.now a.length.now in
    response_read c.args.frame.now (lent) (sym c.in-Ok.is ∙ c.read_response.ensures)

pub returns-in-Err : goal.returns-in-Err
returns-in-Err c =
    let lent : (Frame ResponseHead) = let a = c.args in response7 a.destination.now a.source.now a.retransmit.now a.tag.now a.present.now a.status.now a.length.now in
    let w = response_read c.args.frame.now (lent) (sym c.in-Err.is ∙ c.read_response.ensures) in
    record { answer = c.from.ensures ∙ w.answer; leaves = w.leaves }
