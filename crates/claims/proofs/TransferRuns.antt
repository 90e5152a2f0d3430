-- Demand 3, sentence by sentence, over any calls of C from the struct of all zeros, each lent the state that the one before it gave back, refused ones
-- and later STARTs among them, in the numbers that C sees. The history is read from the calls, and of a next-frame call from the bytes that it
-- wrote. Assumes nothing.
use Prim.Native.Nat.{ℕ, ◌+◌, ◌*◌, ◌≤◌, ◌<◌}
use mathlib.Core.Bool.{false, cond}
use mathlib.Core.List.{List, [], ◌∷◌, ◌++◌}
use mathlib.Core.Path.{◌≡◌}
use lib.ListN.{length}
use Rattle.transfer.specs.Rules.{frames as frames_in}
use Rattle.transfer.specs.History.{Frame, Entry, sent, view, first_resent, frames_sent, Covered}
use Rattle.send.specs.History.{Sent, Addressed, frames, FromImage, Shown}
use Rattle.transfer_lent.specs.Lent.{state_of}
use Rattle.transfer_lent.specs.Face as face
use Rattle.transfer_lent.specs.Face.{Call, face_of, bytes_of}
use Rattle.transfer_lent.specs.History.{zeros, run, is_refusal, call_of, entries_of, history, Typed, AllTyped, AllFromImage, Reached, Finishes}
use Rattle.transfer_lent.specs.Demand.{Unfinished, DemandSeen}
use Rattle.transfer_lent.specs.declared.State.{State}
use Rattle.transfer_lent.specs.declared.Step.{Step}
use Rattle.transfer_lent.proofs.Demand.{demand_seen, changing_seen, addressed_seen, image_seen, ends_seen}
use Rattle.transfer_lent.proofs.Reach.{unstuck_seen}

-- some calls from all zeros, and one call more; tags are of two bytes
pub record Run : Type 0 where
  pub calls : List Call
  pub typed : AllTyped calls
  pub last : Call
  pub tagged : Typed last

-- the state before the last call, the history, what the last call adds to it, and what it answers
abbrev pub now : Run → State
now r = run r.calls zeros

abbrev pub past : Run → List Entry
past r = frames (history r.calls zeros [])

abbrev pub added : Run → List Entry
added r = frames (entries_of r.last (now r))

abbrev pub next : Run → Step
next r = face_of r.last (now r)

-- 01 READ.3 01 READ.7 01 READ.12 01 READ.15
pub record TransferRuns : Type 0 where
  -- "For one read transfer over any calls from its start, refused ones among them: the balance point lies within the request;
  pub within : (r : Run) → ((now r).offset ≤ (now r).balance) × ((now r).balance ≤ (now r).offset + (now r).count)
  -- every requested byte before it was in a frame whose ACK was reported, by the history of frames and answers;
  pub sure : (r : Run) (x : ℕ) → (now r).offset ≤ x → x < (now r).balance → Covered x (view (past r)).acked
  -- each resend begins at the balance point;
  pub resend : (r : Run) (f : Frame) → added r ≡ sent f ∷ [] → (view (past r)).attempt ≡ [] → f.at ≡ (now r).balance
  -- if frames were sent in the present attempt and all were ACKed, it stands at the end of the last;
  pub settled : (r : Run) (f : Frame) (fs : List Frame) → (view (past r)).attempt ≡ f ∷ fs → (view (past r)).good ≡ (view (past r)).attempt → (now r).balance ≡ f.at + f.len
  -- "delivered", 19, is answered only once every requested byte was ACKed;
  pub delivers : (r : Run) → (next r).answer ≡ 19 → (x : ℕ) → (now r).offset ≤ x → x < (now r).offset + (now r).count → Covered x (view (added r ++ past r)).acked
  -- at most 64 frames are unanswered.
  pub few : (r : Run) → length (view (past r)).waiting ≤ 64
  -- Frames and answers are never matched by a short number."
  pub counted : (r : Run) → Unfinished (now r) → (now r).unanswered ≡ length (view (past r)).waiting
  pub over : (r : Run) → (Unfinished (now r) → ⊥) → (now r).unanswered ≡ 0
  -- what `settled` asks for comes about: with none unanswered in run, and once done, all frames of the attempt were ACKed
  pub all_acked : (r : Run) → (now r).phase ≡ 1 → (now r).unanswered ≡ 0 → (view (past r)).good ≡ (view (past r)).attempt
  pub all_done : (r : Run) → (now r).phase ≡ 3 → (view (past r)).good ≡ (view (past r)).attempt
  -- 01 DATA.1
  -- a frame's changing data pointer is one exactly if its attempt is a resend in which none went before it
  pub changing : (r : Run) (f : Sent) → entries_of r.last (now r) ≡ sent f ∷ [] → f.changing ≡ cond (first_resent (view (past r))) 1 0
  -- 01 DATA.1
  -- in the bytes that a next-frame call left, the DATA reader finds what the call was given, and the read offset of the state that was lent
  pub addressed : (r : Run) (destination source tag : ℕ) (body out : List ℕ) → r.last ≡ face.Call.next destination source tag body out → is_refusal (next r).answer ≡ false → Addressed (bytes_of destination source tag body out (now r)) (length body) destination source tag (now r).read
  -- with the bytes of one image lent to each next-frame call at its offset, at "delivered" the payloads that the DATA reader finds in the
  -- ACKed frames' bytes cover the request, byte for byte of that image
  pub image : (r : Run) (image : List ℕ) → AllFromImage image r.calls zeros → FromImage image (call_of r.last) (state_of (now r)) → (next r).answer ≡ 19 → (x : ℕ) → (now r).offset ≤ x → x < (now r).offset + (now r).count → Shown image x (view (entries_of r.last (now r) ++ history r.calls zeros [])).acked
  -- no stuck state: from every unfinished state that calls gave back some calls reach done
  pub unstuck : (s : State) → Reached s → Unfinished s → Finishes s
  -- no endless sending: at most (R+1) times ⌈N/M⌉ frames go for one START
  pub ends : (r : Run) → frames_sent (past r) ≤ ((now r).resends + 1) * frames_in (now r).count (now r).size

all : (r : Run) → DemandSeen (now r) (past r) (added r) (next r)
all r = demand_seen r.calls r.last r.typed r.tagged

pub transfer_runs : TransferRuns
transfer_runs = record {
  within = λ r. (all r).within;
  sure = λ r. (all r).sure;
  resend = λ r. (all r).resend;
  settled = λ r. (all r).settled;
  delivers = λ r. (all r).delivered;
  few = λ r. (all r).few;
  counted = λ r. (all r).counted;
  over = λ r. (all r).over;
  all_acked = λ r. (all r).all_acked;
  all_done = λ r. (all r).all_done;
  changing = λ r. changing_seen r.calls r.last r.typed r.tagged;
  addressed = λ r. addressed_seen r.calls r.last r.typed r.tagged;
  image = λ r. image_seen r.calls r.last r.typed r.tagged;
  unstuck = unstuck_seen;
  ends = λ r. ends_seen r.calls r.last r.typed r.tagged;
}
