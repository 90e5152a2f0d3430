-- What each method of a reply answers is the step that the definitions give, since its promise is that equation: so what is shown of steps is shown of
-- what the code does. Assumes nothing.
use mathlib.Core.Path.{◌≡◌}
use Rattle.reply.specs.Calls.{respond, ack, nak, timeout, lost, nexus, cancel, step_of}
use Rattle.take.specs.Respond.{respond_bytes}
use Rattle.take_history.specs.Replies as writing
use Rattle.claims.proofs.ReplyCalls.{Start, Respond, Ack, Nak, Timeout, Lost, Nexus, Cancel, Write, starting, head, body, lent, left, writing_call}

-- 02 c.3
pub record ReplySteps : Type 0 where
  pub starts : (c : Start) → c.answer ≡ step_of (starting c) c.args.0
  pub responds : (c : Respond) → c.answer ≡ step_of respond c.args.0
  pub acks : (c : Ack) → c.answer ≡ step_of ack c.args.0
  pub naks : (c : Nak) → c.answer ≡ step_of nak c.args.0
  pub timeouts : (c : Timeout) → c.answer ≡ step_of timeout c.args.0
  pub losts : (c : Lost) → c.answer ≡ step_of lost c.args.0
  pub nexuses : (c : Nexus) → c.answer ≡ step_of nexus c.args.0
  pub cancels : (c : Cancel) → c.answer ≡ step_of cancel c.args.0
  -- the call with bytes: the step, and what it leaves of the output
  pub writes : (c : Write) → (c.answer ≡ writing.step_of (writing_call c) c.args.0) × (left c ≡ respond_bytes c.args.0 (head c) (body c) (lent c))

pub reply_steps : ReplySteps
reply_steps = record {
  starts = λ c. c.met;
  responds = λ c. c.met;
  acks = λ c. c.met;
  naks = λ c. c.met;
  timeouts = λ c. c.met;
  losts = λ c. c.met;
  nexuses = λ c. c.met;
  cancels = λ c. c.met;
  writes = λ c. (c.met.step, c.met.bytes);
}
