-- Each way out of `write_frame` is a way out of a frame's writer; the last writes the header, and then lends the part behind it.
-- Assumes nothing.
use mathlib.Core.Path.{◌≡◌, refl, ◌∙◌, ap, sym}
use mathlib.Core.List.{◌++◌}
use mathlib.Core.Bool.{true}
use Prim.Native.Nat.{ℕ, ◌+◌}
use lib.ListN.{length, drop, replicate}
use Rattle.wire.specs.Fields.{lay_bytes}
use Rattle.refusals.proofs.Frames.{wrote_done}
use Rattle.ssp_frame.specs.Header.{header_fields}
use Rattle.ssp_frame.specs.Data.{frame_left, data_sized}
use Rattle.ssp_frame.proofs.Payload.{framed}
use Rattle.ssp_frame.proofs.data.write_frame.Goals as goal

pub returns : goal.returns
returns c =
    let sized : let a = c.args in data_sized (length a.body.now) (length a.out.now) ≡ true = sym c.data_sized.ensures ∙ c.if-not-data_sized.false in
    let a = c.args in
    let body = a.body.now in
    let out = a.out.now in
    let front = lay_bytes (header_fields a.h) in
    let w = wrote_done (frame_left a.h body out) out (sized) c.if-not-listed.false in
    let frame = framed 24 front body out c.put_header.new.out c.put_payload.new.out c.fill_of.result refl c.put_header.ensures c.put_payload.ensures in
    let fill = c.fill_of.result in
    let same : (front ++ (body ++ replicate fill 0)) ++ drop (24 + length body + fill) out ≡ frame_left a.h body out =
    ap (λ (f : ℕ). (front ++ (body ++ replicate f 0)) ++ drop (24 + length body + f) out) c.fill_of.ensures in
    record { answer = w.answer; bytes = frame ∙ same ∙ w.bytes }
