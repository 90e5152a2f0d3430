-- The history of a transfer whose frames are written: of a next-frame call it holds what the DATA reader reads back out of the bytes
-- that the call wrote, and nothing of the transfer's own word. Assumes nothing.
use Rattle.ssp_frame.specs.declared.data.DataHead.{DataHead}
use Rattle.ssp_frame.specs.declared.Frame.{Frame as FrameOf}
use Rattle.refusals.specs.declared.Refusal.{Refusal}
use Rattle.std.specs.Prelude.{ℕ, ◌+◌, ◌-◌, ◌≤◌, ◌<◌, List, [], ◌∷◌, ◌++◌, map, ◌⊎◌, ◌≡◌, length, get_or, take, drop, Err as NotData, Ok as Data, Result}
use Rattle.ssp_frame.specs.Data.{frame_end, read_data}
use Rattle.transfer.specs.Calls as plainly
use Rattle.transfer.specs.Log.{next_frame}
use Rattle.transfer.specs.History.{Frame, EntryOf, started, sent, acked, nacked, timed_out, was_lost, ended, Entry, entries}
use Rattle.transfer.specs.Words.{Asked, asked_after}
use Rattle.transfer.specs.declared.Transfer.{Transfer}
use Rattle.send.specs.Send.{changing_of, head_of, next_bytes}
use Rattle.send.specs.Calls.{Call, plain, next, plain_of, step_of}

-- what is known of a frame that went: where its data lies, how long it is, its changing data pointer, and the data
pub record Sent : Type 0 where
  pub at : ℕ
  pub len : ℕ
  pub changing : ℕ
  pub bytes : List ℕ

-- what the DATA reader finds in the bytes of a frame
abbrev pub found : Result (FrameOf DataHead) Refusal → List ℕ → Sent
found (Data f) frame = record { at = f.head.offset; len = f.length; changing = f.head.changing; bytes = take f.length (drop 24 frame) }
found (NotData k) frame = record { at = 0; len = 0; changing = 0; bytes = [] }

-- a call with n bytes of data writes a frame to the front of its output
abbrev pub written : ℕ → List ℕ → Sent
written n out = found (read_data (take (frame_end n) out)) (take (frame_end n) out)

-- the output as a next-frame call leaves it; a plain call has none
abbrev pub output_of : ℕ → Call → Transfer → List ℕ
output_of bound (plain c) s = []
output_of bound (next destination source tag body out) s = next_bytes bound s (head_of s destination source tag) body out

-- the DATA reader takes the frame of n bytes of data at the front of the output, and finds in it these addresses, tag and offset
pub record Addressed (out : List ℕ) (n destination source tag offset : ℕ) : Type 0 where
  pub frame : FrameOf DataHead
  pub taken : read_data (take (frame_end n) out) ≡ Data frame
  pub destined : frame.head.destination ≡ destination
  pub sourced : frame.head.source ≡ source
  pub tagged : frame.head.tag ≡ tag
  pub placed : frame.head.offset ≡ offset
  pub long : frame.length ≡ n

-- the frame that a plain frame call sends, of whose bytes nothing is known but what they are to say
abbrev pub unwritten : Transfer → Sent
unwritten s = record { at = (next_frame s).at; len = (next_frame s).len; changing = changing_of s; bytes = [] }

-- 01 READ.7: The history holds each frame with the offset in its header and its data length.
abbrev pub entries_of : ℕ → Call → Transfer → List (EntryOf Sent)
entries_of bound (plain c) s = entries c (unwritten s) (plainly.step_of bound c s).answer
entries_of bound (next destination source tag body out) s = entries plainly.Call.frame (written (length body) (next_bytes bound s (head_of s destination source tag) body out)) (step_of bound (next destination source tag body out) s).answer

-- the history that some calls of s add to h, its latest entry first
abbrev pub history : ℕ → List Call → Transfer → List (EntryOf Sent) → List (EntryOf Sent)
history bound [] s h = h
history bound (c ∷ cs) s h = history bound cs (step_of bound c s).state (entries_of bound c s ++ h)

-- the numbers of the last START that was taken of some calls of s, a where none was
abbrev pub asked : ℕ → List Call → Transfer → Asked → Asked
asked bound [] s a = a
asked bound (c ∷ cs) s a = asked bound cs (step_of bound c s).state (asked_after (plain_of c) (step_of bound c s).answer a)

-- offset and length alone, as demand 3 reads them
abbrev pub frame_of : Sent → Frame
frame_of f = record { at = f.at; len = f.len }

abbrev pub entry_of : EntryOf Sent → Entry
entry_of started = started
entry_of (sent f) = sent (frame_of f)
entry_of acked = acked
entry_of nacked = nacked
entry_of timed_out = timed_out
entry_of was_lost = was_lost
entry_of ended = ended

abbrev pub frames : List (EntryOf Sent) → List Entry
frames h = map entry_of h

-- a call that sends no frame without its bytes
abbrev pub NoFrame : plainly.Call → Type 0
NoFrame (plainly.Call.start b n m r) = Unit {0}
NoFrame plainly.Call.frame = ⊥
NoFrame plainly.Call.ack = Unit {0}
NoFrame plainly.Call.nak = Unit {0}
NoFrame plainly.Call.timeout = Unit {0}
NoFrame plainly.Call.lost = Unit {0}
NoFrame plainly.Call.nexus = Unit {0}
NoFrame plainly.Call.cancel = Unit {0}

-- each next-frame call was given the bytes of one image at its offset
abbrev pub FromImage : List ℕ → Call → Transfer → Type 0
FromImage image (plain c) s = NoFrame c
FromImage image (next destination source tag body out) s = body ≡ take (length body) (drop s.read image)

abbrev pub AllFromImage : List ℕ → ℕ → List Call → Transfer → Type 0
AllFromImage image bound [] s = Unit {0}
AllFromImage image bound (c ∷ cs) s = FromImage image c s × AllFromImage image bound cs (step_of bound c s).state

-- byte x stands in one of the frames, as it stands in the image
abbrev pub Shown : List ℕ → ℕ → List Sent → Type 0
Shown image x [] = ⊥
Shown image x (f ∷ fs) = ((f.at ≤ x) × ((x < f.at + f.len) × (get_or f.bytes (x - f.at) 0 ≡ get_or image x 0))) ⊎ Shown image x fs
