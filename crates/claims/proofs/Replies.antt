-- Request c), the reply, sentence by sentence, over any calls from the state before START, refused ones and later STARTs among them, with bytes and
-- without. The history is read from the calls, and of a RESPONSE that was written from its bytes. Assumes nothing.
use Rattle.std.specs.Prelude.{Ok}
use Prim.Native.Nat.{ℕ, ◌+◌, ◌≤◌}
use mathlib.Core.Bool.{true, false}
use mathlib.Core.List.{List, [], ◌∷◌, ◌++◌}
use mathlib.Core.Logic.{◌⊎◌, ◌↔◌}
use mathlib.Core.Path.{◌≡◌, subst}
use lib.ListN.{length, take}
use Rattle.laws.specs.Names.{flag}
use Rattle.ssp_frame.specs.Response.{response_end}
use Rattle.reply.specs.Rules.{unstarted}
use Rattle.reply.specs.Steps.{unfinished}
use Rattle.reply.specs.Calls as plainly
use Rattle.reply.specs.Demand as demand
use Rattle.reply.specs.History.{sent, is_refused, Went, due, good, failed, view, allowed, last_failed, failures, Latest, is_answer}
use Rattle.reply.specs.Words.{underway, word_by, refusal_of}
use Rattle.reply.specs.declared.Reply.{Reply}
use Rattle.reply.specs.declared.Stepped.{Stepped}
use Rattle.reply.specs.declared.Answer.{Answer}
use Rattle.reply.specs.declared.Phase.{Phase}
use Rattle.reply.proofs.Exact.{sound}
use Rattle.reply.proofs.Stuck.{unstuck}
use Rattle.take.specs.Respond.{response_head, respond_bytes}
use Rattle.take_history.specs.Replies.{Call, respond, step_of, run, Typed, AllTyped, Response, Entry, bit_of, entries_of, history, Carries, SameBytes, refusal_by}
use Rattle.take_history.proofs.Replies.{demand_bytes, carries_by, refused_bytes}
use Rattle.take_history.proofs.SameReplies.{same}

-- some calls from the state before START, and one call more; a tag is of two bytes, a status of one
pub record Run : Type 0 where
  pub calls : List Call
  pub typed : AllTyped calls
  pub last : Call
  pub tagged : Typed last

-- the reply before the last call, its history and the RESPONSEs in it since START, what the last call adds to it, and what it answers
abbrev pub now : Run → Reply
now r = run r.calls unstarted

abbrev pub past : Run → List Entry
past r = history r.calls unstarted []

abbrev pub went : Run → List (Went Response)
went r = view (past r)

abbrev pub added : Run → List Entry
added r = entries_of r.last (now r)

abbrev pub next : Run → Stepped
next r = step_of r.last (now r)

-- 02 c.3
pub record Replies : Type 0 where
  -- delivered is answered only if the latest RESPONSE's ACK was reported, and a reply is done only then;
  pub delivered : (r : Run) → (next r).answer ≡ Ok Answer.Done → Latest good (view (added r ++ past r))
  pub sure : (r : Run) → (now r).phase ≡ Phase.Done → Latest good (went r)
  -- a RESPONSE's retransmit bit, as its reader finds it, is one exactly if the RESPONSE before it since START failed, else zero;
  pub retransmit : (r : Run) (f : Response) → added r ≡ sent f ∷ [] → f.retransmit ≡ flag (last_failed (went r))
  -- none goes while the one before it is due or good, and an answer is taken only while one is due;
  pub goes : (r : Run) (f : Response) → added r ≡ sent f ∷ [] → (went r ≡ []) ⊎ Latest failed (went r)
  pub awaited : (r : Run) (e : Entry) → added r ≡ e ∷ [] → is_answer e ≡ true → Latest due (went r)
  -- at most R+1 go for one START;
  pub few : (r : Run) → length (went r) ≤ allowed (past r) + 1
  -- with the same fields and data, the bytes of a RESPONSE are those of each that went before it since START but for byte 10;
  pub same : (r : Run) (f : Response) → added r ≡ sent f ∷ [] → (newer older : List (Went Response)) (w : Went Response) → went r ≡ newer ++ (w ∷ older)
      → SameBytes f.bytes w.response.bytes
  -- and its reader finds in them what the call was given, data and all;
  pub carries : (r : Run) (destination source tag present status : ℕ) (body out : List ℕ) → r.last ≡ respond destination source tag present status body out
      → is_refused (next r).answer ≡ false
      → Carries (take (response_end (length body)) (respond_bytes (now r) (response_head (now r) destination source tag present status) body out)) destination source tag present status body
  -- R is the last START's; while unfinished, retries used is the number of failures, at most R;
  pub asked : (r : Run) → (now r).resends ≡ allowed (past r)
  pub used : (r : Run) → unfinished (now r).phase ≡ true → ((now r).used ≡ failures (went r)) × (failures (went r) ≤ allowed (past r))
  -- failed is answered exactly at failure R+1;
  pub fails : (r : Run) → ((next r).answer ≡ Ok Answer.Fail) ↔ ((failures (went r) ≡ allowed (past r)) × (failures (view (added r ++ past r)) ≡ allowed (past r) + 1))
  -- the reply is unfinished exactly if the history says so, every call that is taken answers the history's word, and every other the history's refusal;
  pub lives : (r : Run) → unfinished (now r).phase ≡ underway (past r)
  pub word : (r : Run) (e : Entry) → added r ≡ e ∷ [] → (next r).answer ≡ word_by (past r) e
  pub refuses : (r : Run) → refusal_of (next r).answer ≡ refusal_by (past r) r.last
  -- from every unfinished state that calls leave some calls deliver the RESPONSE
  pub unstuck : (s : Reply) → plainly.Reachable s → unfinished s.phase ≡ true → plainly.Finishes s

all : (r : Run) → demand.Replies bit_of (now r) (past r) (added r) (next r)
all r = demand_bytes r.calls r.last r.tagged

-- a respond call that went
carried : (s : Reply) (c : Call) → Typed c → (destination source tag present status : ℕ) (body out : List ℕ) → c ≡ respond destination source tag present status body out
    → is_refused (step_of c s).answer ≡ false
    → Carries (take (response_end (length body)) (respond_bytes s (response_head s destination source tag present status) body out)) destination source tag present status body
carried s c typed destination source tag present status body out is went =
    carries_by s destination source tag present status body out (subst Typed is typed) (subst (λ (d : Call). is_refused (step_of d s).answer ≡ false) is went)

pub replies : Replies
replies = record {
  delivered = λ r. (all r).delivered;
  sure = λ r. (all r).sure;
  retransmit = λ r. (all r).retransmit;
  goes = λ r. (all r).goes;
  awaited = λ r. (all r).awaited;
  few = λ r. (all r).few;
  same = λ r. same r.calls r.last r.typed r.tagged;
  carries = λ r. carried (now r) r.last r.tagged;
  asked = λ r. (all r).asked;
  used = λ r. (all r).used;
  fails = λ r. (all r).fails;
  lives = λ r. (all r).lives;
  word = λ r. (all r).word;
  refuses = λ r. refused_bytes r.calls r.last;
  unstuck = λ s left. unstuck s (sound s left);
}
