-- Demand 3, sentence by sentence, over any calls from the state before START, refused ones and later STARTs among them, plain frame
-- calls and next-frame calls mixed. The history is read from the calls, and of a next-frame call from the bytes that it wrote.
-- Assumes nothing.
use Rattle.std.specs.Prelude.{Ok}
use Prim.Native.Nat.{ℕ, ◌+◌, ◌*◌, ◌≤◌, ◌<◌}
use mathlib.Core.Bool.{true, false, cond}
use mathlib.Core.List.{List, [], ◌∷◌, ◌++◌}
use mathlib.Core.Path.{◌≡◌, refl}
use lib.ListN.{length}
use native.Mathlib.Omega.{arith}
use Rattle.transfer.specs.Rules.{end_of, unstarted, frames as frames_in}
use Rattle.transfer.specs.Steps.{limit, unfinished}
use Rattle.transfer.specs.Demand.{Demand3}
use Rattle.transfer.specs.History.{Frame, Entry, sent, is_refused, view, first_resent, frames_sent, Covered}
use Rattle.transfer.specs.declared.Transfer.{Transfer}
use Rattle.transfer.specs.declared.Stepped.{Stepped}
use Rattle.transfer.specs.declared.Answer.{Answer}
use Rattle.transfer.specs.declared.Phase.{Phase}
use Rattle.transfer.specs.Calls as plainly
use Rattle.transfer.proofs.Stuck.{unstuck}
use Rattle.send.specs.Calls.{Call, step_of, run, Typed, AllTyped}
use Rattle.send.specs.History.{Sent, output_of, Addressed, entries_of, history, frames, FromImage, AllFromImage, Shown}
use Rattle.send.proofs.Address.{addressed_by}
use Rattle.send.proofs.Demand.{demand_3}
use Rattle.send.proofs.Image.{delivered}
use Rattle.send.proofs.Pointer.{changing_is}
use Rattle.send.proofs.Plain.{sends_end}

-- some calls from the state before START, and one call more; tags are of two bytes
pub record Run : Type 0 where
  pub calls : List Call
  pub typed : AllTyped calls
  pub last : Call
  pub tagged : Typed last

-- the transfer before the last call, its history, what the last call adds to it, and what it answers
abbrev pub now : Run → Transfer
now r = run limit r.calls unstarted

abbrev pub past : Run → List Entry
past r = frames (history limit r.calls unstarted [])

abbrev pub added : Run → List Entry
added r = frames (entries_of limit r.last (now r))

abbrev pub next : Run → Stepped
next r = step_of limit r.last (now r)

-- 01 READ.3 01 READ.7 01 READ.12 01 READ.15
-- 02 c.5: Demands 2 and 3 for reads stay.
-- 01 PROMISE.4: Sending at the first call and only nodding at ACKs falls to demand 3: the balance point must reach the last ACKed frame.
pub record Balance : Type 0 where
  -- "For one read transfer over any calls from its start, refused ones among them: the balance point lies within the request;
  pub within : (r : Run) → ((now r).offset ≤ (now r).balance) × ((now r).balance ≤ end_of (now r))
  -- every requested byte before it was in a frame whose ACK was reported, by the history of frames and answers;
  pub sure : (r : Run) (x : ℕ) → (now r).offset ≤ x → x < (now r).balance → Covered x (view (past r)).acked
  -- each resend begins at the balance point;
  pub resend : (r : Run) (f : Frame) → added r ≡ sent f ∷ [] → (view (past r)).attempt ≡ [] → f.at ≡ (now r).balance
  -- if frames were sent in the present attempt and all were ACKed, it stands at the end of the last;
  pub settled : (r : Run) (f : Frame) (fs : List Frame) → (view (past r)).attempt ≡ f ∷ fs → (view (past r)).good ≡ (view (past r)).attempt → (now r).balance ≡ f.at + f.len
  -- "delivered" is answered only once every requested byte was ACKed;
  pub delivers : (r : Run) → (next r).answer ≡ Ok Answer.Done → (x : ℕ) → (now r).offset ≤ x → x < end_of (now r) → Covered x (view (added r ++ past r)).acked
  -- at most 64 frames are unanswered.
  pub few : (r : Run) → length (view (past r)).waiting ≤ 64
  -- and as many may be
  pub bound : limit ≡ 64
  -- Frames and answers are never matched by a short number."
  pub counted : (r : Run) → unfinished (now r).phase ≡ true → (now r).unanswered ≡ length (view (past r)).waiting
  pub over : (r : Run) → unfinished (now r).phase ≡ false → (now r).unanswered ≡ 0
  -- what `settled` asks for comes about: with none unanswered in run, and once done, all frames of the attempt were ACKed
  pub all_acked : (r : Run) → (now r).phase ≡ Phase.Run → (now r).unanswered ≡ 0 → (view (past r)).good ≡ (view (past r)).attempt
  pub all_done : (r : Run) → (now r).phase ≡ Phase.Done → (view (past r)).good ≡ (view (past r)).attempt
  -- 01 DATA.1
  -- a frame's changing data pointer is one exactly if its attempt is a resend in which none went before it, by the history
  pub changing : (r : Run) (f : Sent) → entries_of limit r.last (now r) ≡ sent f ∷ [] → f.changing ≡ cond (first_resent (view (past r))) 1 0
  -- 01 DATA.1
  -- the DATA reader takes the frame that a next-frame call wrote to the front of its output, and finds in it the hashed destination, the
  -- hashed source and the tag that the call was given, and the read offset before the frame
  pub addressed : (r : Run) (destination source tag : ℕ) (body out : List ℕ) → r.last ≡ Call.next destination source tag body out → is_refused (next r).answer ≡ false → Addressed (output_of limit r.last (now r)) (length body) destination source tag (now r).read
  -- what the depth computation lost: with the bytes of one image lent to each next-frame call at its offset, at "delivered" the
  -- payloads that the DATA reader finds in the ACKed frames' bytes cover the request, byte for byte of that image
  pub image : (r : Run) (image : List ℕ) → AllFromImage image limit r.calls unstarted → FromImage image r.last (now r) → (next r).answer ≡ Ok Answer.Done → (x : ℕ) → (now r).offset ≤ x → x < end_of (now r) → Shown image x (view (entries_of limit r.last (now r) ++ history limit r.calls unstarted [])).acked
  -- no stuck state: from every unfinished state some calls reach done
  pub unstuck : (s : Transfer) → plainly.Reachable limit s → unfinished s.phase ≡ true → plainly.Finishes limit s
  -- no endless sending: at most (R+1) times ⌈N/M⌉ frames go for one START
  pub ends : (r : Run) → frames_sent (past r) ≤ ((now r).resends + 1) * frames_in (now r).count (now r).size

all : (r : Run) → Demand3 limit (now r) (past r) (added r) (next r)
all r = demand_3 limit r.calls r.last r.typed r.tagged

pub balance : Balance
balance = record {
  within = λ r. (all r).within;
  sure = λ r. (all r).sure;
  resend = λ r. (all r).resend;
  settled = λ r. (all r).settled;
  delivers = λ r. (all r).delivered;
  few = λ r. (all r).few;
  bound = refl;
  counted = λ r. (all r).counted;
  over = λ r. (all r).over;
  all_acked = λ r. (all r).all_acked;
  all_done = λ r. (all r).all_done;
  changing = λ r. changing_is limit r.calls r.last r.typed r.tagged;
  addressed = λ r. addressed_by limit (now r) r.last r.tagged;
  image = λ r image given this. delivered image limit r.calls r.last r.typed r.tagged given this;
  unstuck = λ s. unstuck limit (omega arith) s;
  ends = λ r. sends_end limit r.calls r.typed;
}
