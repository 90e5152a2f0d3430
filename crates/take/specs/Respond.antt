-- RESPONSE with its frame: the call that writes a reply's RESPONSE. Assumes nothing.
use Rattle.refusals.specs.declared.Refusal.{Refusal}
use Rattle.std.specs.Prelude.{ℕ, Bool, true, false, List, ◌++◌, ◌≡◌, Err, Ok, Result}
use Rattle.refusals.specs.Causes.{Cause, refuse}
use Rattle.ssp_frame.specs.Response.{response_left, write_causes}
use Rattle.ssp_frame.specs.declared.response.ResponseHead.{ResponseHead}
use Rattle.reply.specs.Steps.{refused, responded, retransmit_of}
use Rattle.reply.specs.Calls.{respond, causes_of}
use Rattle.reply.specs.declared.Reply.{Reply}
use Rattle.reply.specs.declared.Stepped.{Stepped}
use Rattle.reply.specs.declared.Answer.{Answer}

-- retransmit 1 exactly for a RESPONSE that is sent again; the rest is given
abbrev pub response_head : Reply → ℕ → ℕ → ℕ → ℕ → ℕ → ResponseHead
response_head s destination source tag present status =
    record {
      destination = destination;
      source = source;
      retransmit = retransmit_of s;
      tag = tag;
      present = present;
      status = status;
    }

-- 1 the data's length or an output below the frame's, 2 fields not listed, then 3 and 6 as RESPONSE
abbrev pub respond_causes : Reply → ResponseHead → List ℕ → List ℕ → List Cause
respond_causes s h body out = write_causes h body out ++ causes_of respond s

unfoldable pub respond_step : Reply → ResponseHead → List ℕ → List ℕ → Stepped
respond_step s h body out = refuse (refused s) (respond_causes s h body out) (responded s)

-- the output with the frame at its front, or as it was
unfoldable pub respond_bytes : Reply → ResponseHead → List ℕ → List ℕ → List ℕ
respond_bytes s h body out = refuse (λ _. out) (respond_causes s h body out) (response_left h body out)

-- what the call promises of its answer and state r, and of the output as it leaves it
pub record Responds (s : Reply) (h : ResponseHead) (body before : List ℕ) (r : Stepped) (after : List ℕ) : Type 0 where
  pub step : r ≡ respond_step s h body before
  pub bytes : after ≡ respond_bytes s h body before

abbrev pub is_sent : Result Answer Refusal → Bool
is_sent (Ok Answer.Ok) = false
is_sent (Ok Answer.Sent) = true
is_sent (Ok Answer.Retry) = false
is_sent (Ok Answer.Done) = false
is_sent (Ok Answer.Fail) = false
is_sent (Ok Answer.End) = false
is_sent (Err k) = false
