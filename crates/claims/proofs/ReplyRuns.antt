-- Request c), the reply, sentence by sentence, over any calls of C from the struct of all zeros, each lent the state that the one before it gave back, refused
-- ones and later STARTs among them, in the numbers that C sees. The history is read from the calls, and of a RESPONSE from the bytes that were written.
-- Assumes nothing.
use Prim.Native.Nat.{ℕ, ◌+◌, ◌≤◌}
use mathlib.Core.Bool.{true, false}
use mathlib.Core.List.{List, [], ◌∷◌, ◌++◌}
use mathlib.Core.Logic.{◌⊎◌, ◌↔◌}
use mathlib.Core.Path.{◌≡◌}
use lib.ListN.{length, take}
use Rattle.laws.specs.Names.{flag}
use Rattle.ssp_frame.specs.Response.{response_end}
use Rattle.reply.specs.History.{sent, Went, due, good, failed, view, allowed, last_failed, failures, Latest, is_answer}
use Rattle.reply.specs.Words.{underway, word_by}
use Rattle.take_history.specs.Replies.{Response, Entry, bit_of, Carries, SameBytes, refusal_by}
use Rattle.reply_lent.specs.Numbers.{answer_number}
use Rattle.reply_lent.specs.Lent.{is_refusal}
use Rattle.reply_lent.specs.Face.{Call, respond, call_of, face_of, bytes_of}
use Rattle.reply_lent.specs.History.{zeros, run, Typed, AllTyped, refusal_in, entries_of, history, Reached, Finishes}
use Rattle.reply_lent.specs.Demand.{Unfinished, RepliesSeen}
use Rattle.reply_lent.specs.declared.State.{State}
use Rattle.reply_lent.specs.declared.Step.{Step}
use Rattle.reply_lent.proofs.Demand.{demand_seen, refused_seen, same_seen, carries_seen}
use Rattle.reply_lent.proofs.Reach.{unstuck_seen}

-- some calls from all zeros, and one call more; a tag is of two bytes, a status of one
pub record Run : Type 0 where
  pub calls : List Call
  pub typed : AllTyped calls
  pub last : Call
  pub tagged : Typed last

-- the state before the last call, the history and the RESPONSEs in it since START, what the last call adds to it, and what it answers
abbrev pub now : Run → State
now r = run r.calls zeros

abbrev pub past : Run → List Entry
past r = history r.calls zeros []

abbrev pub went : Run → List (Went Response)
went r = view (past r)

abbrev pub added : Run → List Entry
added r = entries_of r.last (now r)

abbrev pub next : Run → Step
next r = face_of r.last (now r)

-- 02 c.3
pub record ReplyRuns : Type 0 where
  -- delivered, 19, is answered only if the latest RESPONSE's ACK was reported, and a reply is done only then;
  pub delivered : (r : Run) → (next r).answer ≡ 19 → Latest good (view (added r ++ past r))
  pub sure : (r : Run) → (now r).phase ≡ 3 → Latest good (went r)
  -- a RESPONSE's retransmit bit, as its reader finds it, is one exactly if the RESPONSE before it since START failed, else zero;
  pub retransmit : (r : Run) (f : Response) → added r ≡ sent f ∷ [] → f.retransmit ≡ flag (last_failed (went r))
  -- none goes while the one before it is due or good, and an answer is taken only while one is due;
  pub goes : (r : Run) (f : Response) → added r ≡ sent f ∷ [] → (went r ≡ []) ⊎ Latest failed (went r)
  pub awaited : (r : Run) (e : Entry) → added r ≡ e ∷ [] → is_answer e ≡ true → Latest due (went r)
  -- at most R+1 go for one START;
  pub few : (r : Run) → length (went r) ≤ allowed (past r) + 1
  -- with the same fields and data, the bytes of a RESPONSE are those of each that went before it since START but for byte 10;
  pub same : (r : Run) (f : Response) → added r ≡ sent f ∷ [] → (newer older : List (Went Response)) (w : Went Response) → went r ≡ newer ++ (w ∷ older)
      → SameBytes f.bytes w.response.bytes
  -- and its reader finds in the bytes that a respond call left what the call was given, data and all;
  pub carries : (s : State) (destination source tag present status : ℕ) (body out : List ℕ) → Typed (respond destination source tag present status body out)
      → is_refusal (face_of (respond destination source tag present status body out) s).answer ≡ false
      → Carries (take (response_end (length body)) (bytes_of destination source tag present status body out s)) destination source tag present status body
  -- R is the last START's; while unfinished, retries used is the number of failures, at most R;
  pub asked : (r : Run) → (now r).resends ≡ allowed (past r)
  pub used : (r : Run) → Unfinished (now r) → ((now r).used ≡ failures (went r)) × (failures (went r) ≤ allowed (past r))
  -- failed, 20, is answered exactly at failure R+1;
  pub fails : (r : Run) → ((next r).answer ≡ 20) ↔ ((failures (went r) ≡ allowed (past r)) × (failures (view (added r ++ past r)) ≡ allowed (past r) + 1))
  -- the reply is unfinished exactly if the history says so, every call that is taken answers the history's word, and every other the history's refusal;
  pub lives : (r : Run) → Unfinished (now r) ↔ (underway (past r) ≡ true)
  pub word : (r : Run) (e : Entry) → added r ≡ e ∷ [] → (next r).answer ≡ answer_number (word_by (past r) e)
  pub refuses : (r : Run) → refusal_in (next r).answer ≡ refusal_by (past r) (call_of r.last)
  -- from every unfinished state that calls gave back some calls deliver the RESPONSE
  pub unstuck : (s : State) → Reached s → Unfinished s → Finishes s

all : (r : Run) → RepliesSeen bit_of (now r) (past r) (added r) (next r)
all r = demand_seen r.calls r.last r.tagged

pub reply_runs : ReplyRuns
reply_runs = record {
  delivered = λ r. (all r).delivered;
  sure = λ r. (all r).sure;
  retransmit = λ r. (all r).retransmit;
  goes = λ r. (all r).goes;
  awaited = λ r. (all r).awaited;
  few = λ r. (all r).few;
  same = λ r. same_seen r.calls r.last r.typed r.tagged;
  carries = carries_seen;
  asked = λ r. (all r).asked;
  used = λ r. (all r).used;
  fails = λ r. (all r).fails;
  lives = λ r. (all r).lives;
  word = λ r. (all r).word;
  refuses = λ r. refused_seen r.calls r.last;
  unstuck = unstuck_seen;
}
