-- The target's write side over any calls of C from the struct of all zeros, each lent the state that the one before it gave back, in the numbers that
-- C sees. Assumes nothing.
use Rattle.std.specs.Prelude.{Ok}
use Prim.Native.Nat.{ℕ, ◌+◌, ◌-◌, ◌^◌, ◌≤◌, ◌<◌, min}
use mathlib.Core.Bool.{true, false}
use mathlib.Core.List.{List, [], ◌∷◌, ◌++◌}
use mathlib.Core.Logic.{◌↔◌}
use mathlib.Core.Path.{◌≡◌, ap, subst, ◌∙◌}
use lib.ListN.{length, take, drop}
use Rattle.laws.specs.Tags.{digit}
use Rattle.ssp_frame.specs.Xfer.{read_xfer_rdy}
use Rattle.write.specs.Steps.{limit}
use Rattle.write_history.specs.History.{Request, Xfer, Data, Entry, asked, came, View, due, good, failed, view, takes, end_of_data, Among}
use Rattle.write_history.specs.Words.{word_by, underway}
use Rattle.write_history.specs.Demand.{end_of_request, last_end, EndToEnd, Covers, ranges, Answered, Takes}
use Rattle.take.specs.Ask.{head_of}
use Rattle.take_history.specs.Calls.{Call, ask, Typed, AllTyped}
use Rattle.take_history.specs.History.{data_in, SameBytes}
use Rattle.take_history.specs.Store.{Lent, payloads, FromImage}
use Rattle.write_lent.specs.Numbers.{answer_number}
use Rattle.write_lent.specs.Lent.{state_of, is_refusal}
use Rattle.write_lent.specs.Face.{face_of, bytes_of, store_of}
use Rattle.write_lent.specs.History.{zeros, run, history, entries_of, Reached, Finishes}
use Rattle.write_lent.specs.Store.{store_after, store_run, AllLent, first_run}
use Rattle.write_lent.specs.Demand.{Unfinished, request_of, LateSeen, WriteSeen}
use Rattle.write_lent.specs.declared.State.{State}
use Rattle.write_lent.specs.declared.Step.{Step}
use Rattle.write_lent.proofs.Demand.{demand_seen}
use Rattle.write_lent.proofs.Store.{stored_seen, image_seen, late_seen, same_seen}
use Rattle.write_lent.proofs.Bytes.{addressed_seen}
use Rattle.write_lent.proofs.Reach.{unstuck_seen}

-- some calls of C from all zeros, and one call more
pub record Run : Type 0 where
  pub calls : List Call
  pub typed : AllTyped limit calls
  pub last : Call
  pub tagged : Typed limit last

abbrev pub now : Run → State
now r = run r.calls zeros

abbrev pub past : Run → List Entry
past r = history r.calls zeros []

abbrev pub said : Run → View
said r = view (past r)

abbrev pub added : Run → List Entry
added r = entries_of r.last (now r)

abbrev pub next : Run → Step
next r = face_of r.last (now r)

-- the first byte that was not taken, and B+N
abbrev pub reached : Run → ℕ
reached r = last_end (now r).offset (said r).taken

abbrev pub end : Run → ℕ
end r = (now r).offset + (now r).count

pub record WriteRuns : Type 0 where
  -- the struct holds B, N, X and R as START was given them
  pub request : (r : Run) → (said r).request ≡ request_of (now r)
  -- the taken frames lie end to end from B, and the next byte is behind them
  pub order : (r : Run) → EndToEnd (now r).offset (said r).taken
  pub next_byte : (r : Run) → (now r).next ≡ reached r
  -- 19 is answered only if each byte from B to B+N-1 lies in exactly one taken frame, and no taken frame lies outside; and then it is
  pub complete : (r : Run) → (next r).answer ≡ 19 → Covers (now r).offset (end r) (view (added r ++ past r)).taken
  pub completes : (r : Run) (d : Data) → added r ≡ came d ∷ [] → takes (said r) d ≡ true → end_of_data d ≡ end r → (next r).answer ≡ 19
  -- a taken frame begins with the first byte that was not taken, in the range of the XFER_RDY whose tag it carries, which was ACKed
  pub asked_for : (r : Run) (d : Data) → added r ≡ came d ∷ [] → takes (said r) d ≡ true → Takes (said r) d
  -- an XFER_RDY names the first byte that was not taken and X bytes, or what is left; none goes while the one before it is due or good
  pub asks : (r : Run) (x : Xfer) → added r ≡ asked x ∷ [] → (x.offset ≡ reached r) × (x.length ≡ min (said r).request.burst (end r - x.offset))
  pub one_by_one : (r : Run) (x : Xfer) → added r ≡ asked x ∷ [] → ((said r).fate ≡ due → ⊥) × ((said r).fate ≡ good → ⊥)
  pub answers : (r : Run) → Answered (added r) → (said r).fate ≡ due
  -- its tag is one of 64, and differs from the previous one's, from the write's own in use and from the others'
  pub listed : (r : Run) (x : Xfer) → added r ≡ asked x ∷ [] → x.transfer < 64
  pub differs : (r : Run) (x y : Xfer) (ys : List Xfer) → added r ≡ asked x ∷ [] → (said r).asks ≡ y ∷ ys → x.transfer ≡ y.transfer → ⊥
  pub fresh : (r : Run) (x : Xfer) → added r ≡ asked x ∷ [] → Among x.transfer (said r).busy → ⊥
  pub others : (r : Run) (x : Xfer) → added r ≡ asked x ∷ [] → digit x.others x.transfer ≡ 0
  -- its retransmit bit is one exactly for a retry, whose bytes are those of the one that failed but for byte 10 and the transfer tag
  pub retransmit : (r : Run) (x : Xfer) → added r ≡ asked x ∷ [] → (x.retransmit ≡ 1) ↔ ((said r).fate ≡ failed)
  pub same : (r : Run) (x y : Xfer) (ys : List Xfer) → added r ≡ asked x ∷ [] → (said r).fate ≡ failed → (said r).asks ≡ y ∷ ys → SameBytes x.bytes y.bytes
  -- in the bytes that an ask wrote the reader finds the addresses and the tag that it was given, the next byte and the range's rest
  pub addressed : (s : State) (others destination source tag : ℕ) (out : List ℕ) → s.tags < 2 ^ limit → tag < 65536 → is_refusal (face_of (ask others destination source tag out) s).answer ≡ false
      → read_xfer_rdy (take 36 (bytes_of others destination source tag out s)) ≡ Ok (head_of limit others (state_of s) destination source tag)
  -- the struct's tags are those in use by the history, none once finished; its count of retries is that of the failures
  pub tags : (r : Run) → Unfinished (now r) → (t : ℕ) → (digit (now r).tags t ≡ 1) ↔ Among t (said r).busy
  pub freed : (r : Run) → (Unfinished (now r) → ⊥) → (now r).tags ≡ 0
  pub used : (r : Run) → Unfinished (now r) → (now r).used ≡ (said r).failures
  pub bounded : (r : Run) → (now r).used ≤ (now r).resends
  -- 20 is answered exactly at failure R+1, and at most ⌈N/X⌉ + R XFER_RDYs go for one START
  pub fails : (r : Run) → ((next r).answer ≡ 20) ↔ (((said r).failures ≡ (now r).resends) × ((view (added r ++ past r)).failures ≡ (now r).resends + 1))
  pub few : (r : Run) → length (said r).asks ≤ ranges (now r).count (now r).burst + (now r).resends
  -- the store: the payloads of the taken frames, one behind the other, and behind them what was lent at START; at 19 the image
  pub stored : (r : Run) (store : List ℕ) → AllLent r.calls zeros store → let front = payloads (said r).taken in
      store_run r.calls zeros store ≡ front ++ drop (length front) (first_run r.calls zeros store store)
  pub image : (r : Run) (store image : List ℕ) → AllLent r.calls zeros store → Lent r.last (store_run r.calls zeros store)
      → FromImage image (view (added r ++ past r)).taken → (next r).answer ≡ 19
      → take (now r).count (store_after r.last (now r) (store_run r.calls zeros store)) ≡ take (now r).count (drop (now r).offset image)
  -- late data is answered 22, and leaves state and store
  pub late : (r : Run) (d : Data) → added r ≡ came d ∷ [] → takes (said r) d ≡ false → LateSeen (now r) (said r) d (next r)
  pub late_store : (r : Run) (destination source tag : ℕ) (frame store : List ℕ) → takes (said r) (data_in frame) ≡ false → store_of destination source tag frame store (now r) ≡ store
  -- every call that is taken answers the number of the history's word, and the struct is unfinished exactly if the history says so
  pub word : (r : Run) (e : Entry) → added r ≡ e ∷ [] → (next r).answer ≡ answer_number (word_by (said r) e)
  pub lives : (r : Run) → Unfinished (now r) ↔ (underway (past r) ≡ true)
  -- from every unfinished struct that calls gave back, some calls reach phase 4
  pub unstuck : (s : State) → Reached s → Unfinished s → Finishes s

all : (r : Run) → WriteSeen (now r) (past r) (added r) (next r)
all r = demand_seen r.calls r.last r.typed r.tagged

-- B and B+N by the history are the struct's
from : (r : Run) (x : Xfer) → added r ≡ asked x ∷ [] → x.offset ≡ reached r
from r x e = subst (λ (q : Request). x.offset ≡ last_end q.offset (said r).taken) (all r).request ((all r).asks x e).from

long : (r : Run) (x : Xfer) → added r ≡ asked x ∷ [] → x.length ≡ min (said r).request.burst (end r - x.offset)
long r x e = ((all r).asks x e).long ∙ ap (λ (q : Request). min (said r).request.burst (end_of_request q - x.offset)) (all r).request

pub write_runs : WriteRuns
write_runs = record {
  request = λ r. (all r).request;
  order = λ r. (all r).order;
  next_byte = λ r. (all r).next_is;
  complete = λ r. (all r).complete;
  completes = λ r. (all r).completes;
  asked_for = λ r. (all r).received;
  asks = λ r x e. (from r x e, long r x e);
  one_by_one = λ r x e. ((all r).asks x e).alone;
  answers = λ r. (all r).answers;
  listed = λ r x e. ((all r).asks x e).listed;
  differs = λ r x y ys e. ((all r).asks x e).apart y ys;
  fresh = λ r x e. ((all r).asks x e).fresh;
  others = λ r x e. ((all r).asks x e).others;
  retransmit = λ r x e. ((all r).asks x e).retry;
  same = λ r. same_seen r.calls r.last r.typed r.tagged;
  addressed = λ s others destination source tag out small typed. addressed_seen s destination source tag others out small typed;
  tags = λ r. (all r).tags;
  freed = λ r. (all r).freed;
  used = λ r. (all r).used;
  bounded = λ r. (all r).bounded;
  fails = λ r. (all r).fails;
  few = λ r. (all r).few;
  stored = λ r store lent. stored_seen r.calls store r.typed lent;
  image = λ r store picture lent this from done. image_seen r.calls store r.typed lent r.last r.tagged this picture from done;
  late = λ r. (all r).late;
  late_store = λ r. late_seen r.calls r.typed;
  word = λ r. (all r).word;
  lives = λ r. (all r).lives;
  unstuck = unstuck_seen;
}
