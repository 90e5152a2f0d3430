-- Demand 2, transfer steps: what each method answers is the step that document 01's rows define, since its promise is that equation.
-- So what is shown of steps is shown of what the code does. Assumes nothing.
use mathlib.Core.Path.{◌≡◌}
use Rattle.transfer.specs.Steps.{limit}
use Rattle.transfer.specs.Calls.{frame, ack, nak, timeout, lost, nexus, cancel, step_of}
use Rattle.send.specs.Send.{next_bytes}
use Rattle.send.specs.Calls as sending
use Rattle.claims.proofs.Calls.{Start, Frame, Ack, Nak, Timeout, Lost, Nexus, Cancel, NextFrame}
use Rattle.claims.proofs.Named.{asking, next_call, next_write}

-- 02 c.5
-- 01 READ.4 01 READ.5 01 READ.6 01 READ.8 01 READ.9 01 READ.10 01 READ.11 01 READ.12 01 READ.13 01 READ.14
pub record Steps : Type 0 where
  pub starts : (c : Start) → c.answer ≡ step_of limit (asking c) c.args.0
  pub frames : (c : Frame) → c.answer ≡ step_of limit frame c.args.0
  pub acks : (c : Ack) → c.answer ≡ step_of limit ack c.args.0
  pub naks : (c : Nak) → c.answer ≡ step_of limit nak c.args.0
  pub timeouts : (c : Timeout) → c.answer ≡ step_of limit timeout c.args.0
  pub losts : (c : Lost) → c.answer ≡ step_of limit lost c.args.0
  pub nexuses : (c : Nexus) → c.answer ≡ step_of limit nexus c.args.0
  pub cancels : (c : Cancel) → c.answer ≡ step_of limit cancel c.args.0
  pub nexts : (c : NextFrame) → let w = next_write c in
      (c.answer ≡ sending.step_of limit (next_call c) c.args.0) × (w.left ≡ next_bytes limit c.args.0 w.given.head w.given.body w.lent)

pub steps : Steps
unfolding step_of
steps = record {
  starts = λ c. c.met;
  frames = λ c. c.met;
  acks = λ c. c.met;
  naks = λ c. c.met;
  timeouts = λ c. c.met;
  losts = λ c. c.met;
  nexuses = λ c. c.met;
  cancels = λ c. c.met;
  nexts = λ c. (c.met.step, c.met.bytes);
}
