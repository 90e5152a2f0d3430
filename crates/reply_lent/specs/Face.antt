-- What C sees of each call: the reply's own step, of the reply that the numbers say. Assumes nothing.
use Rattle.std.specs.Prelude.{ℕ, List, ◌≡◌}
use Rattle.reply.specs.Calls as plainly
use Rattle.take.specs.Respond.{response_head, respond_bytes}
use Rattle.take_history.specs.Replies as machine
use Rattle.take_history.specs.Replies.{plain, step_of}
use Rattle.reply_lent.specs.Lent.{state_of, seen}
use Rattle.reply_lent.specs.declared.State.{State}
use Rattle.reply_lent.specs.declared.Step.{Step}

pub data Call : Type 0 where
  start : ℕ → Call
  ack nak timeout lost nexus cancel : Call
  -- hashed destination, hashed source, tag, data present and status, the data, and the output as it was
  respond : ℕ → ℕ → ℕ → ℕ → ℕ → List ℕ → List ℕ → Call

-- the reply's own call
abbrev pub call_of : Call → machine.Call
call_of (start r) = plain (plainly.Call.start r)
call_of ack = plain plainly.Call.ack
call_of nak = plain plainly.Call.nak
call_of timeout = plain plainly.Call.timeout
call_of lost = plain plainly.Call.lost
call_of nexus = plain plainly.Call.nexus
call_of cancel = plain plainly.Call.cancel
call_of (respond destination source tag present status body out) = machine.Call.respond destination source tag present status body out

-- numbers that aren't formed are refused where a reply is that breaks its rules: first of all by START, answers and ends; by respond behind 1 and 2
-- for what it was given
abbrev pub face_of : Call → State → Step
face_of c s = seen s (step_of (call_of c) (state_of s))

-- the output as a respond call leaves it
abbrev pub bytes_of : ℕ → ℕ → ℕ → ℕ → ℕ → List ℕ → List ℕ → State → List ℕ
bytes_of destination source tag present status body out s = respond_bytes (state_of s) (response_head (state_of s) destination source tag present status) body out

-- what a respond call promises of its answer and state r, and of the output as it leaves it
pub record Responded (s : State) (destination source tag present status : ℕ) (body before : List ℕ) (r : Step) (after : List ℕ) : Type 0 where
  pub step : r ≡ face_of (respond destination source tag present status body before) s
  pub bytes : after ≡ bytes_of destination source tag present status body before s
