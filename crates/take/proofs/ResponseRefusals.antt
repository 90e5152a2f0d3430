-- `respond` is refused exactly by the first of its grounds that holds, since each of its tests decides one ground, and then state and output are as they
-- were. Assumes nothing.
use Rattle.std.specs.Prelude.{Err}
use Prim.Native.Nat.{ℕ}
use mathlib.Core.List.{List}
use mathlib.Core.Path.{refl, ap}
use lib.ListN.{length}
use Rattle.laws.specs.Tests.{Says}
use Rattle.laws.proofs.Bools.{never}
use Rattle.refusals.proofs.Causes.{decides_append}
use Rattle.refusals.proofs.Frames.{frame_decides}
use Rattle.ssp_frame.specs.Response.{response_sized, response_listed}
use Rattle.ssp_frame.specs.declared.response.ResponseHead.{ResponseHead}
use Rattle.reply.specs.Steps.{refused, responded}
use Rattle.reply.specs.Calls.{respond}
use Rattle.reply.specs.History.{is_refused}
use Rattle.reply.specs.declared.Reply.{Reply}
use Rattle.reply.specs.declared.Stepped.{Stepped}
use Rattle.reply.proofs.Refusals.{decides, one}
use Rattle.take.specs.Respond.{respond_causes, respond_step, respond_bytes}
use Rattle.take.specs.Grounds.{respond_grounds, Refuses}
use Rattle.take.proofs.Told.{told}

-- with what the writer's tests say of the data and of the fields
module _ (s : Reply) (h : ResponseHead) (body out : List ℕ) {right listed : Type 0}
    (sized : Says (response_sized h.present (length body) (length out)) right) (fields : Says (response_listed h) listed) where
  pub respond_refuses : let st = respond_step s h body out in
      Refuses Err (respond_grounds right listed s) st.answer s st.state out (respond_bytes s h body out)
  unfolding respond_step respond_bytes
  respond_refuses =
      told (λ (st : Stepped). st.answer) (λ (st : Stepped). st.state) (refused s) (responded s) one
      (λ j e. never (ap is_refused e)) s (λ j. refl) (respond_causes s h body out)
      (decides_append (frame_decides sized fields) (decides s respond))
      (λ j. (λ f. f, λ f. f))
      _
      out
