-- Each way out of `write_response` is a way out of a frame's writer; the last two write the front, and lend the part behind it
-- where there is data. Assumes nothing.
use Rattle.std.specs.Prelude.{Ok}
use mathlib.Core.Path.{◌≡◌, refl, ◌∙◌, ap, sym}
use mathlib.Core.List.{◌++◌}
use mathlib.Core.Bool.{true}
use Prim.Native.Nat.{ℕ, ◌+◌}
use lib.ListN.{length, drop, replicate}
use Rattle.refusals.specs.Causes.{Wrote}
use Rattle.refusals.proofs.Frames.{wrote_done}
use Rattle.ssp_frame.specs.Response.{response_front, response_left, response_sized, response_listed, write_causes}
use Rattle.ssp_frame.proofs.Payload.{framed}
use Rattle.ssp_frame.proofs.response.write_response.Goals as goal

pub returns-then-n-ne0 : goal.returns-then-n-ne0
returns-then-n-ne0 c =
    let sized : let a = c.args in response_sized a.h.present (length a.body.now) (length a.out.now) ≡ true = sym c.response_sized.ensures ∙ c.if-not-response_sized.false in
    let listed : response_listed c.args.h ≡ true = sym c.response_listed.ensures ∙ c.if-not-response_listed.false in
    let done : let a = c.args in let new = response_left a.h a.body.now a.out.now in Wrote (write_causes a.h a.body.now a.out.now) new a.out.now (Ok tt) new =
    let a = c.args in
    wrote_done (response_left a.h a.body.now a.out.now) a.out.now (sized) (listed) in
    let a = c.args in
    let body = a.body.now in
    let out = a.out.now in
    let front = response_front a.h (length body) in
    let fill = c.fill_of.result in
    let w = done in
    let frame = framed 48 front body out c.put_front.new.out c.put_payload.new.out fill refl c.put_front.ensures c.put_payload.ensures in
    let same : (front ++ (body ++ replicate fill 0)) ++ drop (48 + length body + fill) out ≡ response_left a.h body out =
    ap (λ (f : ℕ). (front ++ (body ++ replicate f 0)) ++ drop (48 + length body + f) out) c.fill_of.ensures in
    record { answer = w.answer; bytes = frame ∙ same ∙ w.bytes }
