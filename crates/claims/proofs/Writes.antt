-- The target's write side, sentence by sentence, over any calls from the state before START, refused ones and later STARTs among them, with bytes
-- and without. The history is read from the calls, from the bytes of each XFER_RDY that was written and of each DATA frame that came. Assumes nothing.
use Rattle.std.specs.Prelude.{Ok}
use Prim.Native.Nat.{ℕ, ◌+◌, ◌-◌, ◌≤◌, ◌<◌, min}
use mathlib.Core.Bool.{true, false}
use mathlib.Core.List.{List, [], ◌∷◌, ◌++◌}
use mathlib.Core.Logic.{◌↔◌}
use mathlib.Core.Path.{◌≡◌, refl, sym, ap, subst, ◌∙◌}
use native.Mathlib.Omega.{arith}
use lib.ListN.{length, take, drop}
use Rattle.laws.specs.Tags.{digit}
use Rattle.write.specs.Rules.{unstarted}
use Rattle.write.specs.Steps.{limit, unfinished}
use Rattle.write.specs.Calls as plainly
use Rattle.write.specs.Calls.{is_refused}
use Rattle.write.specs.declared.Write.{Write}
use Rattle.write.specs.declared.Stepped.{Stepped}
use Rattle.write.specs.declared.Answer.{Answer}
use Rattle.write.proofs.Sound.{kept}
use Rattle.write.proofs.Exact.{left_good}
use Rattle.write.proofs.Stuck.{unstuck}
use Rattle.write_history.specs.History.{Xfer, Data, Entry, asked, came, View, due, good, failed, view, takes, end_of_data, end_of_xfer, Among}
use Rattle.write_history.specs.Words.{word_by, underway}
use Rattle.write_history.specs.Log.{request_of}
use Rattle.write_history.specs.Demand.{end_of_request, last_end, EndToEnd, Covers, ranges, Answered, WriteDemand}
use Rattle.write_history.specs.Apart.{Turn, idle, AllFair, turns, Disjoint}
use Rattle.write_history.proofs.Apart.{apart}
use Rattle.write_history.proofs.Demand.{at_first}
use Rattle.take.specs.Ask.{ask_bytes}
use Rattle.take.specs.Take.{take_store}
use Rattle.take_history.specs.Calls.{Call, step_of, run, Typed, AllTyped}
use Rattle.take_history.specs.History.{data_in, entries_of, history, SameBytes, Names, Comes}
use Rattle.take_history.specs.Store.{store_after, store_of, Lent, AllLent, first_of, payloads, FromImage}
use Rattle.take_history.proofs.Demand.{all_small, all_keep, demand_bytes}
use Rattle.take_history.proofs.Address.{names, comes}
use Rattle.take_history.proofs.Same.{same}
use Rattle.take_history.proofs.Stored.{stored}
use Rattle.take_history.proofs.Image.{image, late}

-- some calls from the state before START, and one call more; the others' tags are of eight bytes, and a tag is of two
pub record Run : Type 0 where
  pub calls : List Call
  pub typed : AllTyped limit calls
  pub last : Call
  pub tagged : Typed limit last

-- the write before the last call, its history and what that says, what the last call adds to it, and what it answers
abbrev pub now : Run → Write
now r = run limit r.calls unstarted

abbrev pub past : Run → List Entry
past r = history limit r.calls unstarted []

abbrev pub said : Run → View
said r = view (past r)

abbrev pub added : Run → List Entry
added r = entries_of limit r.last (now r)

abbrev pub next : Run → Stepped
next r = step_of limit r.last (now r)

-- B and B+N, as the last START was given them
abbrev pub begin : Run → ℕ
begin r = (said r).request.offset

abbrev pub end : Run → ℕ
end r = end_of_request (said r).request

-- the first byte that was not taken
abbrev pub reached : Run → ℕ
reached r = last_end (begin r) (said r).taken

-- the latest XFER_RDY, under whose tag and in whose range data lies
pub record AskedFor (v : View) (d : Data) : Type 0 where
  pub answered : v.fate ≡ good
  pub latest : Xfer
  pub earlier : List Xfer
  pub is : v.asks ≡ latest ∷ earlier
  pub under : d.transfer ≡ latest.transfer
  pub lies : (latest.offset ≤ d.offset) × (end_of_data d ≤ end_of_xfer latest)

pub record LateData (v : View) (d : Data) : Type 0 where
  pub busy : Among d.transfer v.busy
  pub latest : Xfer
  pub earlier : List Xfer
  pub is : v.asks ≡ latest ∷ earlier
  pub lies : (latest.offset ≤ d.offset) × (end_of_data d ≤ end_of_xfer latest)

pub record Writes : Type 0 where
  -- the write holds B, N, X and R as START was given them
  pub request : (r : Run) → (said r).request ≡ request_of (now r)
  -- 02 c.2 02 c.4
  -- the taken frames lie end to end from B: each begins where the one before it ended
  pub order : (r : Run) → EndToEnd (begin r) (said r).taken
  -- the state's next byte is behind them
  pub next_byte : (r : Run) → (now r).next ≡ reached r
  -- 02 c.4
  -- complete is answered only if each byte from B to B+N-1 lies in exactly one taken frame, and no taken frame lies outside;
  pub complete : (r : Run) → (next r).answer ≡ Ok Answer.Done → Covers (begin r) (end r) (view (added r ++ past r)).taken
  -- 02 c.4
  -- and a taken frame that ends at B+N is answered so
  pub completes : (r : Run) (d : Data) → added r ≡ came d ∷ [] → takes (said r) d ≡ true → end_of_data d ≡ end r → (next r).answer ≡ Ok Answer.Done
  -- 02 c.2
  -- a taken frame begins with the first byte that was not taken,
  pub in_order : (r : Run) (d : Data) → added r ≡ came d ∷ [] → takes (said r) d ≡ true → d.offset ≡ reached r
  -- and lies in the range of the XFER_RDY whose transfer tag it carries, and that one's ACK was reported
  pub asked_for : (r : Run) (d : Data) → added r ≡ came d ∷ [] → takes (said r) d ≡ true → AskedFor (said r) d
  -- 02 c.2
  -- an XFER_RDY's bytes name the first byte that was not taken and X bytes, or what is left of the request
  pub asks : (r : Run) (x : Xfer) → added r ≡ asked x ∷ [] → (x.offset ≡ reached r) × (x.length ≡ min (said r).request.burst (end r - x.offset))
  -- none goes while the one before it is due or good, and an answer is taken only while one is due
  pub one_by_one : (r : Run) (x : Xfer) → added r ≡ asked x ∷ [] → ((said r).fate ≡ due → ⊥) × ((said r).fate ≡ good → ⊥)
  pub answers : (r : Run) → Answered (added r) → (said r).fate ≡ due
  -- its tag is one of 64, and differs from the previous one's since START,
  pub listed : (r : Run) (x : Xfer) → added r ≡ asked x ∷ [] → x.transfer < 64
  -- 02 c.2
  pub differs : (r : Run) (x y : Xfer) (ys : List Xfer) → added r ≡ asked x ∷ [] → (said r).asks ≡ y ∷ ys → x.transfer ≡ y.transfer → ⊥
  -- 02 c.2
  -- from each of the write's own in use, and from each of the others'
  pub fresh : (r : Run) (x : Xfer) → added r ≡ asked x ∷ [] → Among x.transfer (said r).busy → ⊥
  -- 02 c.2
  pub others : (r : Run) (x : Xfer) → added r ≡ asked x ∷ [] → digit x.others x.transfer ≡ 0
  -- 02 c.2
  -- its retransmit bit is one exactly if the XFER_RDY before it since START failed, else zero; retry data frames is zero
  pub retransmit : (r : Run) (x : Xfer) → added r ≡ asked x ∷ [] → (x.retransmit ≡ 1) ↔ ((said r).fate ≡ failed)
  pub first : (r : Run) (x : Xfer) → added r ≡ asked x ∷ [] → ((said r).fate ≡ failed → ⊥) → x.retransmit ≡ 0
  pub no_retry_data : (r : Run) (x : Xfer) → added r ≡ asked x ∷ [] → x.retry ≡ 0
  -- 02 c.2
  -- a retry's bytes are those of the one that failed but for byte 10 and the transfer tag, to the same host under the same tag
  pub same : (r : Run) (x y : Xfer) (ys : List Xfer) → added r ≡ asked x ∷ [] → (said r).fate ≡ failed → (said r).asks ≡ y ∷ ys → SameBytes x.bytes y.bytes
  -- while the write is unfinished its tags are those in use by the history; once finished there are none
  pub tags : (r : Run) → unfinished (now r).phase ≡ true → (t : ℕ) → (digit (now r).tags t ≡ 1) ↔ Among t (said r).busy
  pub freed : (r : Run) → unfinished (now r).phase ≡ false → (now r).tags ≡ 0
  -- retries used is the number of failures, at most R; failed is answered exactly at failure R+1
  pub used : (r : Run) → unfinished (now r).phase ≡ true → (now r).used ≡ (said r).failures
  pub bounded : (r : Run) → (now r).used ≤ (now r).resends
  pub fails : (r : Run) → ((next r).answer ≡ Ok Answer.Fail) ↔ (((said r).failures ≡ (said r).request.resends) × ((view (added r ++ past r)).failures ≡ (said r).request.resends + 1))
  -- at most ⌈N/X⌉ + R XFER_RDYs go for one START
  pub few : (r : Run) → length (said r).asks ≤ ranges (said r).request.count (said r).request.burst + (said r).request.resends
  -- 02 c.4
  -- with each call lent the store that the last one left, its front is the payloads of the taken frames, one behind the other, and behind them
  -- it is as it was at START
  pub stored : (r : Run) (store : List ℕ) → AllLent limit r.calls unstarted store → let front = payloads (said r).taken in
      store_of limit r.calls unstarted store ≡ front ++ drop (length front) (first_of limit r.calls unstarted store store)
  -- 02 c.1: The recorder must also take calibration files.
  -- if each taken frame carries one image's bytes at its offset, at complete the store's first N bytes are the image's from B on
  pub image : (r : Run) (store image : List ℕ) → AllLent limit r.calls unstarted store → Lent r.last (store_of limit r.calls unstarted store)
      → FromImage image (view (added r ++ past r)).taken → (next r).answer ≡ Ok Answer.Done
      → take (said r).request.count (store_after limit r.last (now r) (store_of limit r.calls unstarted store)) ≡ take (said r).request.count (drop (begin r) image)
  -- 02 c.6
  -- data that is not taken carries a tag in use, lies in the latest XFER_RDY's range, and leaves state and store
  pub late : (r : Run) (d : Data) → added r ≡ came d ∷ [] → takes (said r) d ≡ false → LateData (said r) d × (next r ≡ record { answer = Ok Answer.Late; state = now r })
  pub late_store : (r : Run) (destination source tag : ℕ) (frame store : List ℕ) → takes (said r) (data_in frame) ≡ false → take_store limit (now r) destination source tag frame store ≡ store
  -- every call that is taken answers the word of the history: complete, a range is full, late, a retry, failed and so on; and the write is
  -- unfinished exactly if that says so
  pub word : (r : Run) (e : Entry) → added r ≡ e ∷ [] → (next r).answer ≡ word_by (said r) e
  pub lives : (r : Run) → unfinished (now r).phase ≡ underway (past r)
  -- an XFER_RDY names whom it was sent to: in the bytes that `ask` wrote the reader finds the addresses and the tag that the call was given
  pub addressed : (r : Run) (others destination source tag : ℕ) (out : List ℕ) → r.last ≡ Call.ask others destination source tag out → is_refused (next r).answer ≡ false
      → Names (take 36 (ask_bytes limit others (now r) destination source tag out)) destination source tag
  -- data is the write's: in the bytes that `take` was lent the reader finds the same addresses, crosswise, and the tag
  pub sent_by : (r : Run) (destination source tag : ℕ) (frame store : List ℕ) → r.last ≡ Call.take destination source tag frame store → is_refused (next r).answer ≡ false
      → Comes frame destination source tag
  -- from every unfinished state that calls leave, some calls with no other write's tags reach complete
  pub unstuck : (s : Write) → plainly.Reachable limit s → unfinished s.phase ≡ true → plainly.Finishes limit s
  -- 02 c.2
  -- two writes, calls in any order, each XFER given at least the other's tags, never have a tag in common
  pub apart : (cs : List Turn) → AllFair limit cs idle → Disjoint (turns limit cs idle).one.tags (turns limit cs idle).other.tags
  -- the bound
  pub bound : limit ≡ 64

all : (r : Run) → WriteDemand limit (now r) (past r) (added r) (next r)
all r = demand_bytes limit (omega arith) r.calls r.last r.typed r.tagged

pub writes : Writes
writes = record {
  request = λ r. (all r).request;
  order = λ r. (all r).order;
  next_byte = λ r. (all r).next_is;
  complete = λ r. (all r).complete;
  completes = λ r. (all r).completes;
  in_order = λ r d e t. ((all r).received d e t).order;
  asked_for = λ r d e t.
      let w = (all r).received d e t in
      record { answered = w.answered; latest = w.latest; earlier = w.earlier; is = w.is; under = w.under; lies = w.lies };
  asks = λ r x e. (((all r).asks x e).from, ((all r).asks x e).long);
  one_by_one = λ r x e. ((all r).asks x e).alone;
  answers = λ r. (all r).answers;
  listed = λ r x e. ((all r).asks x e).listed;
  differs = λ r x y ys e. ((all r).asks x e).apart y ys;
  fresh = λ r x e. ((all r).asks x e).fresh;
  others = λ r x e. ((all r).asks x e).others;
  retransmit = λ r x e. ((all r).asks x e).retry;
  first = λ r x e. ((all r).asks x e).first;
  no_retry_data = λ r x e. ((all r).asks x e).plain;
  same = λ r. same limit (omega arith) r.calls r.last r.typed r.tagged;
  tags = λ r. (all r).tags;
  freed = λ r. (all r).freed;
  used = λ r. (all r).used;
  bounded = λ r. (all r).bounded;
  fails = λ r. (all r).fails;
  few = λ r. (all r).few;
  stored = λ r store lent. (stored limit (omega arith) r.calls store r.typed lent).holds;
  image = λ r store picture lent this. image limit (omega arith) r.calls r.last store r.typed r.tagged lent this picture;
  late = λ r d e t.
      let l = (all r).late d e t in
      (record { busy = l.busy; latest = l.latest; earlier = l.earlier; is = l.is; lies = l.lies }, l.stays);
  late_store = λ r destination source tag frame store. late limit (omega arith) r.calls destination source tag frame store r.typed;
  word = λ r. (all r).word;
  lives = λ r. (all r).lives;
  addressed = λ r others destination source tag out is on.
      let small = all_small limit (now r) (past r) (all_keep limit (omega arith) r.calls unstarted [] r.typed (at_first limit)) in
      let typed = (subst (Typed limit) is r.tagged).1 in
      names limit (now r) destination source tag (omega arith) small typed others out (sym (ap (λ (c : Call). is_refused (step_of limit c (now r)).answer) is) ∙ on);
  sent_by = λ r destination source tag frame store is on. comes limit (now r) destination source tag frame store (sym (ap (λ (c : Call). is_refused (step_of limit c (now r)).answer) is) ∙ on);
  unstuck = λ s left. let g = left_good limit s left in unstuck limit (omega arith) s g.small (kept limit s g);
  apart = λ cs. apart limit cs;
  bound = refl;
}
