-- A RESPONSE that went is read back out of its bytes as it was meant, and then its call is the plain one: the causes of the call are the writer's and
-- RESPONSE's. Assumes nothing.
use Rattle.ssp_frame.specs.declared.Frame.{Frame}
use Rattle.std.specs.Prelude.{Ok, Result}
use Prim.Native.Nat.{ℕ, ◌<◌}
use mathlib.Core.List.{List}
use mathlib.Core.Path.{◌≡◌, refl, ap, ◌∙◌}
use lib.ListN.{length, take, drop}
use lib.Seq.{take_at}
use borrow.Author.Tests.{not-false}
use Rattle.refusals.specs.declared.Refusal.{Refusal}
use Rattle.refusals.proofs.Causes.{NoneGiven, none_append, Verdict, stopped, passes, verdict, unrefused}
use Rattle.ssp_frame.specs.Response.{response_bytes, response_end, write_causes, read_response}
use Rattle.ssp_frame.specs.declared.response.ResponseHead.{ResponseHead}
use Rattle.ssp_frame.proofs.ResponseFields.{fitting, listed}
use Rattle.ssp_frame.proofs.ResponseTrip.{frame_long, body_held, read_written}
use Rattle.reply.specs.Steps.{refused, responded, retransmit_of}
use Rattle.reply.specs.Calls as plainly
use Rattle.reply.specs.Calls.{causes_of}
use Rattle.reply.specs.declared.Reply.{Reply}
use Rattle.reply.specs.declared.Stepped.{Stepped}
use Rattle.take.specs.Respond.{response_head, respond_causes, respond_step, respond_bytes}
use Rattle.take_history.specs.Replies.{found, Carries}

module _ (s : Reply) (destination source tag present status : ℕ) (body out : List ℕ) where
  abbrev pub head : ResponseHead
  head = response_head s destination source tag present status

  abbrev pub frame : Frame ResponseHead
  frame = record { head = head; length = length body }

  -- the bytes that the call wrote
  abbrev pub wrote : List ℕ
  wrote = take (response_end (length body)) (respond_bytes s head body out)

  -- the call is refused
  pub record Kept : Type 0 where
    pub why : Refusal
    pub step : respond_step s head body out ≡ refused s why

  -- or it is RESPONSE, and its bytes are the frame's
  pub record Passed : Type 0 where
    pub off : NoneGiven (write_causes head body out)
    pub step : respond_step s head body out ≡ plainly.step_of plainly.Call.respond s
    pub bytes : wrote ≡ response_bytes head body

  pub data Outcome : Type 0 where
    kept : Kept → Outcome
    passed : Passed → Outcome

  pub outcome : Outcome
  unfolding respond_step respond_bytes
  outcome = by (verdict (respond_causes s head body out))
    where
      end : ℕ
      end = response_end (length body)

      by : Verdict (respond_causes s head body out) → Outcome
      by (stopped r v) = kept (record { why = r; step = v Stepped (refused s) _ })
      by (passes off v) =
          let both = none_append (write_causes head body out) (causes_of plainly.Call.respond s) off in
          passed
          (record {
            off = both.0;
            step = v Stepped (refused s) _ ∙ unrefused (refused s) (responded s) (causes_of plainly.Call.respond s) both.1;
            bytes = ap (take end) (v (List ℕ) (λ _. out) _) ∙ take_at (response_bytes head body) (drop end out) end (frame_long head body);
          })

  module _ (typed : (tag < 65536) × (status < 256)) (p : Passed) where
    -- the reader takes it
    pub read : read_response wrote ≡ Ok frame
    read =
        let off = p.off in
        let fit = (fitting present (length body) (length out)).0 (not-false _ off.0) in
        ap read_response p.bytes
        ∙ read_written head body ((listed head).0 (not-false _ off.1.0)) (record { tag = typed.0; status = typed.1 }) fit.most fit.kind

    pub body_read : take (length body) (drop 48 wrote) ≡ body
    body_read = ap (λ (b : List ℕ). take (length body) (drop 48 b)) p.bytes ∙ body_held head body

    -- the history's RESPONSE has the reply's bit
    pub bit_is : (found (read_response wrote) wrote).retransmit ≡ retransmit_of s
    bit_is = ap (λ (r : Result (Frame ResponseHead) Refusal). (found r wrote).retransmit) read

    -- and carries what the call was given
    pub carries : Carries wrote destination source tag present status body
    carries = record { frame = frame; taken = read; destined = refl; sourced = refl; tagged = refl; kind = refl; answered = refl; holds = body_read }
