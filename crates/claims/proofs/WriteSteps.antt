-- What each method of a write answers is the step that the definitions give, since its promise is that equation: so what is shown of steps is shown
-- of what the code does. Assumes nothing.
use mathlib.Core.Path.{◌≡◌}
use Rattle.write.specs.Steps.{limit}
use Rattle.write.specs.Calls.{ack, nak, timeout, lost, nexus, cancel, step_of}
use Rattle.take.specs.Ask.{ask_bytes}
use Rattle.take.specs.Take.{take_store}
use Rattle.take_history.specs.Calls as taking
use Rattle.claims.proofs.WriteCalls.{Start, Xfer, Ack, Nak, Timeout, Lost, Got, Nexus, Cancel, Ask, Take}
use Rattle.claims.proofs.WriteCalls.{starting, asking, getting, ask_others, ask_number, ask_out, ask_left, ask_call, take_number, take_frame, take_store_lem, take_left, take_call}

pub record WriteSteps : Type 0 where
  pub starts : (c : Start) → c.answer ≡ step_of limit (starting c) c.args.0
  pub xfers : (c : Xfer) → c.answer ≡ step_of limit (asking c) c.args.0
  pub acks : (c : Ack) → c.answer ≡ step_of limit ack c.args.0
  pub naks : (c : Nak) → c.answer ≡ step_of limit nak c.args.0
  pub timeouts : (c : Timeout) → c.answer ≡ step_of limit timeout c.args.0
  pub losts : (c : Lost) → c.answer ≡ step_of limit lost c.args.0
  pub gots : (c : Got) → c.answer ≡ step_of limit (getting c) c.args.0
  pub nexuses : (c : Nexus) → c.answer ≡ step_of limit nexus c.args.0
  pub cancels : (c : Cancel) → c.answer ≡ step_of limit cancel c.args.0
  -- the calls with bytes: the step, and what they leave of the output and of the store
  pub asks : (c : Ask) →
      (c.answer ≡ taking.step_of limit (ask_call c) c.args.0) × (ask_left c ≡ ask_bytes limit (ask_others c) c.args.0 (ask_number c 0) (ask_number c 1) (ask_number c 2) (ask_out c))
  pub takes : (c : Take) →
      (c.answer ≡ taking.step_of limit (take_call c) c.args.0) × (take_left c ≡ take_store limit c.args.0 (take_number c 0) (take_number c 1) (take_number c 2) (take_frame c) (take_store_lem c))

pub write_steps : WriteSteps
unfolding step_of
write_steps = record {
  starts = λ c. c.met;
  xfers = λ c. c.met;
  acks = λ c. c.met;
  naks = λ c. c.met;
  timeouts = λ c. c.met;
  losts = λ c. c.met;
  gots = λ c. c.met;
  nexuses = λ c. c.met;
  cancels = λ c. c.met;
  asks = λ c. (c.met.step, c.met.bytes);
  takes = λ c. (c.met.step, c.met.store);
}
