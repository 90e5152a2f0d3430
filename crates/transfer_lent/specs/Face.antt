-- What C sees of each call: the transfer's own step, of the transfer that the numbers say. Assumes nothing.
use Rattle.std.specs.Prelude.{ℕ, cond, List, ◌≡◌}
use Rattle.transfer.specs.Steps.{limit, start_step, frame_step, ack_step, nak_step, drop_step, end_step}
use Rattle.transfer.specs.declared.Transfer.{Transfer}
use Rattle.transfer.specs.declared.Stepped.{Stepped}
use Rattle.send.specs.Send.{head_of, next_step, next_bytes}
use Rattle.transfer_lent.specs.Lent.{formed, state_of, told, malformed, next_length}
use Rattle.transfer_lent.specs.declared.State.{State}
use Rattle.transfer_lent.specs.declared.Step.{Step}

-- with what each call is given besides the state: START's B, N, M and R; of the next-frame call the hashed destination, the hashed source and
-- the tag, the data, and the output as it was
pub data Call : Type 0 where
  start : ℕ → ℕ → ℕ → ℕ → Call
  frame ack nak timeout lost nexus cancel : Call
  next : ℕ → ℕ → ℕ → List ℕ → List ℕ → Call

-- 3 comes first: numbers that name no transfer are refused before anything else is looked at
abbrev pub seen : (Transfer → Stepped) → State → Step
seen step s = cond (formed s) (told (step (state_of s))) (malformed s)

abbrev pub face_of : Call → State → Step
face_of (start b n m r) s = seen (start_step limit b n m r) s
face_of frame s = seen (frame_step limit) s
face_of ack s = seen (ack_step limit) s
face_of nak s = seen (nak_step limit) s
face_of timeout s = seen (drop_step limit) s
face_of lost s = seen (drop_step limit) s
face_of nexus s = seen (end_step limit) s
face_of cancel s = seen (end_step limit) s
-- 01 REFUSAL.11: Checked in ascending order; the next-frame call checks 3, 6, 7, 8, 10, 2, then 1.
face_of (next destination source tag body out) s = seen (λ t. next_step limit t (head_of t destination source tag) body out) s

-- the output as a next-frame call leaves it
abbrev pub bytes_of : ℕ → ℕ → ℕ → List ℕ → List ℕ → State → List ℕ
bytes_of destination source tag body out s = cond (formed s) (next_bytes limit (state_of s) (head_of (state_of s) destination source tag) body out) out

-- what a next-frame call promises of its answer and state r, and of the output as it leaves it
pub record Next (s : State) (destination source tag : ℕ) (body before : List ℕ) (r : Step) (after : List ℕ) : Type 0 where
  pub step : r ≡ face_of (next destination source tag body before) s
  pub bytes : after ≡ bytes_of destination source tag body before s

-- of the next frame; 0 where FRAME is refused
abbrev pub length_of : State → ℕ
length_of s = cond (formed s) (next_length limit (state_of s)) 0
