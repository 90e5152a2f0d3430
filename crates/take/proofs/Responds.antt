-- A RESPONSE's frame is written where the reply sends it: its writer's two tests come first, so that it refuses nothing. Assumes nothing.
use Rattle.std.specs.Prelude.{Result}
use mathlib.Core.Bool.{Bool, true, false}
use mathlib.Core.List.{List}
use mathlib.Core.Path.{◌≡◌, refl, subst}
use Prim.Native.Nat.{ℕ}
use lib.ListN.{length}
use Rattle.refusals.specs.Causes.{Wrote}
use Rattle.refusals.specs.declared.Refusal.{Refusal}
use Rattle.refusals.proofs.Frames.{wrote_is}
use Rattle.ssp_frame.specs.Response.{response_left, response_sized, response_listed, write_causes}
use Rattle.ssp_frame.specs.declared.response.ResponseHead.{ResponseHead}
use Rattle.reply.specs.Steps.{refused, responded}
use Rattle.reply.specs.Calls.{respond, causes_of, step_of}
use Rattle.reply.specs.declared.Reply.{Reply}
use Rattle.reply.specs.declared.Stepped.{Stepped}
use Rattle.take.specs.Respond.{respond_causes, respond_step, respond_bytes, Responds, is_sent}
use Rattle.take.proofs.Sends.{Sends}
use Rattle.take.proofs.Sends as sends

abbrev goes_out : Stepped → Bool
goes_out st = is_sent st.answer

module _ (s : Reply) (h : ResponseHead) (body out : List ℕ) where
  abbrev Sent : Stepped → List ℕ → Type 0
  Sent = Sends (refused s) (respond_causes s h body out) (responded s) (response_left h body out) out

  as_responded : {r : Stepped} {after : List ℕ} → Sent r after → Responds s h body out r after
  unfolding respond_step respond_bytes
  as_responded d = record { step = d.step; bytes = d.bytes }

  pub short : response_sized h.present (length body) (length out) ≡ false → Responds s h body out (refused s Refusal.Length) out
  short l = as_responded (sends.short (refused s) _ goes_out (λ j. refl) refl (causes_of respond s) _ (response_listed h) _ out l)

  module _ (room : response_sized h.present (length body) (length out) ≡ true) where
    pub unlisted : response_listed h ≡ false → Responds s h body out (refused s Refusal.Unlisted) out
    unlisted f = as_responded (sends.unlisted (refused s) _ goes_out (λ j. refl) refl (causes_of respond s) _ _ _ out room f)

    module _ (fields : response_listed h ≡ true) {st : Stepped} (is : st ≡ step_of respond s) where
      pub not_sent : goes_out st ≡ false → Responds s h body out st out
      not_sent e = as_responded (sends.not_sent (refused s) (responded s) goes_out (λ j. refl) refl (causes_of respond s) _ _ _ out room fields is e)

      pub sent : goes_out st ≡ true → {g : ResponseHead} {w : Result (Unit {0}) Refusal} {after : List ℕ} → g ≡ h
          → Wrote (write_causes g body out) (response_left g body out) out w after → Responds s h body out st after
      sent e {g} {w} {after} named p =
          let q = subst (λ (x : ResponseHead). Wrote (write_causes x body out) (response_left x body out) out w after) named p in
          let wrote = (wrote_is (response_left h body out) out q room fields).1 in
          as_responded (sends.sends (refused s) (responded s) goes_out (λ j. refl) refl (causes_of respond s) _ _ _ out room fields is e wrote)
