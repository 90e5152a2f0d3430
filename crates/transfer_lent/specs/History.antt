-- Calls from C, each lent the state that the one before it gave back, and their history: it is read from the calls, from the numbers that C sees
-- and from the bytes that were written. Assumes nothing.
use Rattle.std.specs.Prelude.{ℕ, Bool, cond, ◌&&◌, List, [], ◌∷◌, ◌++◌, map, ◌⊎◌, ◌≡◌, ltb, length}
use Rattle.transfer.specs.Calls as machine
use Rattle.transfer.specs.History.{EntryOf, entry_of}
use Rattle.send.specs.Send.{changing_of}
use Rattle.send.specs.Calls as sending
use Rattle.send.specs.Calls.{plain, plain_of}
use Rattle.send.specs.History.{Sent, written, FromImage}
use Rattle.transfer_lent.specs.Lent.{state_of}
use Rattle.transfer_lent.specs.Face.{Call, start, frame, ack, nak, timeout, lost, nexus, cancel, next, face_of, bytes_of, length_of}
use Rattle.transfer_lent.specs.declared.State.{State}

-- 01 READ.16
-- the state before START
abbrev pub zeros : State
zeros = record { offset = 0; count = 0; size = 0; resends = 0; read = 0; balance = 0; unanswered = 0; used = 0; zero2 = 0; sent = 0; phase = 0 }

-- the state after some calls, the first first
abbrev pub run : List Call → State → State
run [] s = s
run (c ∷ cs) s = run cs (face_of c s).state

-- 1 to 10
abbrev pub is_refusal : ℕ → Bool
is_refusal n = ltb 0 n && ltb n 11

-- the transfer's call
abbrev pub call_of : Call → sending.Call
call_of (start b n m r) = plain (machine.Call.start b n m r)
call_of frame = plain machine.Call.frame
call_of ack = plain machine.Call.ack
call_of nak = plain machine.Call.nak
call_of timeout = plain machine.Call.timeout
call_of lost = plain machine.Call.lost
call_of nexus = plain machine.Call.nexus
call_of cancel = plain machine.Call.cancel
call_of (next destination source tag body out) = sending.Call.next destination source tag body out

-- the frame that the caller of FRAME writes itself: at the read offset, as long as the length call says
abbrev pub unwritten : State → Sent
unwritten s = record { at = s.read; len = length_of s; changing = changing_of (state_of s); bytes = [] }

-- what the DATA reader finds in the bytes that a next-frame call left
abbrev pub frame_by : sending.Call → State → Sent
frame_by (plain c) s = unwritten s
frame_by (sending.Call.next destination source tag body out) s = written (length body) (bytes_of destination source tag body out s)

-- 01 READ.7: The history holds each frame with the offset in its header and its data length.
-- a refused call adds nothing
abbrev pub entries_of : Call → State → List (EntryOf Sent)
entries_of c s = cond (is_refusal (face_of c s).answer) [] (entry_of (plain_of (call_of c)) (frame_by (call_of c) s) ∷ [])

-- the history that some calls of s add to h, its latest entry first
abbrev pub history : List Call → State → List (EntryOf Sent) → List (EntryOf Sent)
history [] s h = h
history (c ∷ cs) s h = history cs (face_of c s).state (entries_of c s ++ h)

-- C's tag has two bytes
abbrev pub Typed : Call → Type 0
Typed c = sending.Typed (call_of c)

abbrev pub AllTyped : List Call → Type 0
AllTyped cs = sending.AllTyped (map call_of cs)

-- each next-frame call was given the bytes of one image at its offset, and no frame goes without its bytes
abbrev pub AllFromImage : List ℕ → List Call → State → Type 0
AllFromImage image [] s = Unit {0}
AllFromImage image (c ∷ cs) s = FromImage image (call_of c) (state_of s) × AllFromImage image cs (face_of c s).state

-- a START of all zeros is taken, and the calls after it leave s
pub record Left (s : State) : Type 0 where
  pub b : ℕ
  pub n : ℕ
  pub m : ℕ
  pub r : ℕ
  pub taken : (face_of (start b n m r) zeros).answer ≡ 0
  pub calls : List Call
  pub typed : AllTyped calls
  pub leave : run calls (face_of (start b n m r) zeros).state ≡ s

-- 01 READ.16
abbrev pub Reached : State → Type 0
Reached s = (s ≡ zeros) ⊎ Left s

-- some calls deliver all
abbrev pub Finishes : State → Type 0
Finishes s = (cs : List Call) × ((run cs s).phase ≡ 3)
