-- Calls from C, each lent the state that the one before it gave back, and their history: it is read from the calls, from the numbers that C sees, and from
-- the bytes that were written. Assumes nothing.
use Rattle.std.specs.Prelude.{ℕ, cond, List, [], ◌∷◌, ◌++◌, ◌⊎◌, ◌≡◌, length, take}
use Rattle.ssp_frame.specs.Response.{response_end}
use Rattle.reply.specs.History.{started, sent, acked, nacked, timed_out, was_lost, ended}
use Rattle.take_history.specs.Replies as machine
use Rattle.take_history.specs.Replies.{Entry, response_in}
use Rattle.reply_lent.specs.Lent.{is_refusal}
use Rattle.reply_lent.specs.Face.{Call, start, ack, nak, timeout, lost, nexus, cancel, respond, call_of, face_of, bytes_of}
use Rattle.reply_lent.specs.declared.State.{State}

-- the state before START
abbrev pub zeros : State
zeros = record { resends = 0; used = 0; zero2 = 0; zero1 = 0; phase = 0 }

-- the state after some calls, the first first
abbrev pub run : List Call → State → State
run [] s = s
run (c ∷ cs) s = run cs (face_of c s).state

-- a tag has two bytes, and a status one
abbrev pub Typed : Call → Type 0
Typed c = machine.Typed (call_of c)

abbrev pub AllTyped : List Call → Type 0
AllTyped [] = Unit {0}
AllTyped (c ∷ cs) = Typed c × AllTyped cs

-- the refusal of an answer, 0 where there is none
abbrev pub refusal_in : ℕ → ℕ
refusal_in n = cond (is_refusal n) n 0

-- what the history holds of a call that was taken: of a RESPONSE what its reader finds in the bytes that were written
abbrev pub entry_of : Call → State → Entry
entry_of (start r) s = started r
entry_of ack s = acked
entry_of nak s = nacked
entry_of timeout s = timed_out
entry_of lost s = was_lost
entry_of nexus s = ended
entry_of cancel s = ended
entry_of (respond destination source tag present status body out) s =
    sent (response_in (take (response_end (length body)) (bytes_of destination source tag present status body out s)))

-- a refused call adds nothing
abbrev pub entries_of : Call → State → List Entry
entries_of c s = cond (is_refusal (face_of c s).answer) [] (entry_of c s ∷ [])

-- the history that some calls of s add to h, its latest entry first
abbrev pub history : List Call → State → List Entry → List Entry
history [] s h = h
history (c ∷ cs) s h = history cs (face_of c s).state (entries_of c s ++ h)

-- a START of all zeros is taken, and the calls after it leave s
pub record Left (s : State) : Type 0 where
  pub r : ℕ
  pub taken : (face_of (start r) zeros).answer ≡ 0
  pub calls : List Call
  pub leave : run calls (face_of (start r) zeros).state ≡ s

-- some calls gave s back
abbrev pub Reached : State → Type 0
Reached s = (s ≡ zeros) ⊎ Left s

-- some calls deliver the RESPONSE
abbrev pub Finishes : State → Type 0
Finishes s = (cs : List Call) × ((run cs s).phase ≡ 3)
