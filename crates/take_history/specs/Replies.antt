-- A call on a reply, a plain one or RESPONSE with what it is given of bytes, and the history: of a RESPONSE it holds what the RESPONSE reader finds in
-- the bytes that were written, and the bytes; nothing of the reply's own word. Assumes nothing.
use Rattle.ssp_frame.specs.declared.Frame.{Frame}
use Rattle.refusals.specs.declared.Refusal.{Refusal}
use Rattle.std.specs.Prelude.{ℕ, ◌<◌, not, cond, List, [], ◌∷◌, ◌++◌, ◌≡◌, length, take, drop, Err, Ok, Result}
use Rattle.ssp_frame.specs.Response.{response_end, response_sized, response_listed, read_response}
use Rattle.ssp_frame.specs.declared.response.ResponseHead.{ResponseHead}
use Rattle.reply.specs.Steps.{retransmit_of}
use Rattle.reply.specs.Calls as plainly
use Rattle.reply.specs.History.{EntryOf, entries}
use Rattle.reply.specs.Words as plainly'
use Rattle.reply.specs.declared.Reply.{Reply}
use Rattle.reply.specs.declared.Stepped.{Stepped}
use Rattle.take.specs.Respond.{response_head, respond_step, respond_bytes}
use Rattle.take_history.specs.History.{blank_bits}

pub data Call : Type 0 where
  plain : plainly.Call → Call
  -- hashed destination, hashed source, tag, data present and status, the data, and the output as it was
  respond : ℕ → ℕ → ℕ → ℕ → ℕ → List ℕ → List ℕ → Call

-- RESPONSE that writes its frame
abbrev pub plain_of : Call → plainly.Call
plain_of (plain c) = c
plain_of (respond destination source tag present status body out) = plainly.Call.respond

abbrev pub step_of : Call → Reply → Stepped
step_of (plain c) s = plainly.step_of c s
step_of (respond destination source tag present status body out) s = respond_step s (response_head s destination source tag present status) body out

-- the state after some calls, the first first
abbrev pub run : List Call → Reply → Reply
run [] s = s
run (c ∷ cs) s = run cs (step_of c s).state

-- a tag has two bytes, and a status one
abbrev pub Typed : Call → Type 0
Typed (plain c) = Unit {0}
Typed (respond destination source tag present status body out) = (tag < 65536) × (status < 256)

abbrev pub AllTyped : List Call → Type 0
AllTyped [] = Unit {0}
AllTyped (c ∷ cs) = Typed c × AllTyped cs

-- what the history holds of a RESPONSE
pub record Response : Type 0 where
  pub retransmit : ℕ
  pub bytes : List ℕ

abbrev pub Entry : Type 0
Entry = EntryOf Response

abbrev pub bit_of : Response → ℕ
bit_of f = f.retransmit

-- what the RESPONSE reader finds in these bytes
abbrev pub found : Result (Frame ResponseHead) Refusal → List ℕ → Response
found (Ok f) bytes = record { retransmit = f.head.retransmit; bytes = bytes }
found (Err k) bytes = record { retransmit = 0; bytes = [] }

abbrev pub response_in : List ℕ → Response
response_in bytes = found (read_response bytes) bytes

-- the RESPONSE that a call sends: of a plain call's bytes nothing is known; a frame is at the front of the output, as long as its data has it
abbrev pub response_by : Call → Reply → Response
response_by (plain c) s = record { retransmit = retransmit_of s; bytes = [] }
response_by (respond destination source tag present status body out) s =
    response_in (take (response_end (length body)) (respond_bytes s (response_head s destination source tag present status) body out))

abbrev pub entries_of : Call → Reply → List Entry
entries_of c s = entries (plain_of c) (response_by c s) (step_of c s).answer

-- the history that some calls of s add to h, its latest entry first
abbrev pub history : List Call → Reply → List Entry → List Entry
history [] s h = h
history (c ∷ cs) s h = history cs (step_of c s).state (entries_of c s ++ h)

-- the data of a frame that was read from these bytes
abbrev pub body_in : Frame ResponseHead → List ℕ → List ℕ
body_in f bytes = take f.length (drop 48 bytes)

-- in these bytes the RESPONSE reader finds what a respond call was given, data and all
pub record Carries (bytes : List ℕ) (destination source tag present status : ℕ) (body : List ℕ) : Type 0 where
  pub frame : Frame ResponseHead
  pub taken : read_response bytes ≡ Ok frame
  pub destined : frame.head.destination ≡ destination
  pub sourced : frame.head.source ≡ source
  pub tagged : frame.head.tag ≡ tag
  pub kind : frame.head.present ≡ present
  pub answered : frame.head.status ≡ status
  pub holds : body_in frame bytes ≡ body

-- two heads with the same fields but retransmit
pub record SameFields (g h : ResponseHead) : Type 0 where
  pub destination : g.destination ≡ h.destination
  pub source : g.source ≡ h.source
  pub tag : g.tag ≡ h.tag
  pub present : g.present ≡ h.present
  pub status : g.status ≡ h.status

-- the bytes of two RESPONSEs with the same fields and data are the same but for byte 10
abbrev pub SameBytes : List ℕ → List ℕ → Type 0
SameBytes a b =
    (f g : Frame ResponseHead) → read_response a ≡ Ok f → read_response b ≡ Ok g → SameFields f.head g.head → body_in f a ≡ body_in g b
    → blank_bits a ≡ blank_bits b

-- the fields that a respond call is given are listed; retransmit is the reply's own
abbrev pub given : ℕ → ℕ → ℕ → ℕ → ℕ → ResponseHead
given destination source tag present status =
    record { destination = destination; source = source; retransmit = 0; tag = tag; present = present; status = status }

-- what a call is refused for by the history, 0 if it is taken: 1 and 2 for what respond is given, then as the plain call
abbrev pub refusal_by : List Entry → Call → ℕ
refusal_by h (plain c) = plainly'.refusal_by h c
refusal_by h (respond destination source tag present status body out) =
    cond (not (response_sized present (length body) (length out))) 1
    (cond (not (response_listed (given destination source tag present status))) 2 (plainly'.refusal_by h plainly.Call.respond))
