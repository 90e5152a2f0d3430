-- What the calls of a transfer answer and leave, a second time: by the history of calls, frames and answers, and not by the transfer's
-- own count, phase or balance point. Over any calls from the state before START, refused ones and later STARTs among them, plain calls and
-- next-frame calls mixed. Assumes nothing.
use Rattle.std.specs.Prelude.{Err, Ok}
use Prim.Native.Nat.{ℕ, ◌+◌, ◌-◌, ◌≤◌, min}
use mathlib.Core.Bool.{true, false, not, ◌&&◌, ◌||◌}
use mathlib.Core.List.{[], ◌∷◌, map}
use mathlib.Core.Logic.{◌↔◌}
use mathlib.Core.Path.{◌≡◌, sym, ap, subst, ◌∙◌}
use lib.ListN.{replicate}
use Rattle.refusals.specs.declared.Refusal.{Refusal}
use Rattle.transfer.specs.Rules.{unstarted}
use Rattle.transfer.specs.Steps.{limit, unfinished}
use Rattle.transfer.specs.Calls as plainly
use Rattle.transfer.specs.Examples.{in_ranges, past_ranges}
use Rattle.transfer.specs.Grounds.{OutOfRange}
use Rattle.transfer.specs.History.{Frame, sent as went, is_refused, View, view}
use Rattle.transfer.specs.Log.{asked_of}
use Rattle.transfer.specs.Words as history
use Rattle.transfer.specs.Words.{Asked, unasked, last_due, resends, last_end, balance_by, Kind, kind_of, Word, word_of, spent, whole, failing, after_nak, word_by, refusal_of}
use Rattle.transfer.specs.declared.Answer.{Answer}
use Rattle.transfer.proofs.Examples.{takes, takes_no_more}
use Rattle.send.specs.Calls.{plain_of}
use Rattle.send.specs.History.{asked}
use Rattle.send.specs.Words.{refusal_by}
use Rattle.send.proofs.Refused.{lives, refusal_is}
use Rattle.send.proofs.Words.{asked_is, tally_is, allowed, reads, word_is, never_three, stays_either, frame_is}
use Rattle.claims.proofs.Balance.{Run, now, past, added, next}

-- B, N, M and R of the last START that was taken
abbrev request : Run → Asked
request r = asked limit r.calls unstarted unasked

-- what the history says of the frames
abbrev seen : Run → View
seen r = view (past r)

-- the last call is taken; which it is, and its word
abbrev Taken : Run → Type 0
Taken r = is_refused (next r).answer ≡ false

abbrev kind : Run → Kind
kind r = kind_of (plain_of r.last)

abbrev word : Run → Word
word r = word_of (next r).answer

pub record Words : Type 0 where
  -- 01 READ.1 01 READ.5
  -- the transfer holds the numbers of the last START that was taken
  pub asked : (r : Run) → asked_of (now r) ≡ request r
  -- 01 READ.1
  -- START takes the least and the largest numbers, and is refused with 3 one past each
  pub takes : map (λ (c : plainly.Call). (plainly.step_of limit c unstarted).answer) in_ranges ≡ replicate 5 (Ok Answer.Ok)
  pub takes_no_more : map (λ (c : plainly.Call). (plainly.step_of limit c unstarted).answer) past_ranges ≡ replicate 6 (Err Refusal.Rules)
  -- 01 TEXT.2: of a call that is taken, each word exactly if
  -- 01 READ.5 01 READ.8 01 READ.9
  -- ok: START; or an ACK in an attempt with no NAK reported, while frames are unanswered or the last frame does not end at B+N
  pub ok : (r : Run) → Taken r → (word r).ok ≡ ((kind r).start || ((kind r).ack && (not (seen r).nak && (not (last_due (seen r)) || not (whole (request r) (past r))))))
  -- 01 READ.6
  -- sent: FRAME and the next-frame call
  pub sent : (r : Run) → Taken r → (word r).sent ≡ (kind r).frame
  -- 01 READ.11
  -- drain: an ACK or NAK, with a NAK reported in the attempt, that leaves frames unanswered and does not fail
  pub drain : (r : Run) → Taken r → (word r).drain ≡ (not (failing (request r) (past r) (plain_of r.last)) && (after_nak (past r) (plain_of r.last) && not (last_due (seen r))))
  -- 01 READ.10 01 READ.11 01 READ.12
  -- retry: TIMEOUT or LOST, or an ACK or NAK with a NAK reported in the attempt that leaves none unanswered, and does not fail
  pub retry : (r : Run) → Taken r → (word r).retry ≡ (not (failing (request r) (past r) (plain_of r.last)) && ((kind r).drop || (after_nak (past r) (plain_of r.last) && last_due (seen r))))
  -- 01 READ.9
  -- done: an ACK that leaves none unanswered, with no NAK reported in the attempt, whose last frame ends at B+N
  pub done : (r : Run) → Taken r → (word r).done ≡ ((kind r).ack && (not (seen r).nak && (last_due (seen r) && whole (request r) (past r))))
  -- 01 READ.11 01 READ.12
  -- fail: NAK, TIMEOUT or LOST with R resends used
  pub fail : (r : Run) → Taken r → (word r).fail ≡ (((kind r).nak || (kind r).drop) && spent (request r) (past r))
  -- 01 READ.13
  -- end: NEXUS and CANCEL
  pub end : (r : Run) → Taken r → (word r).end ≡ (kind r).end
  -- 01 READ.14
  -- while unfinished the resends used are those begun since START, and no more than R
  pub used : (r : Run) → unfinished (now r).phase ≡ true → (now r).used ≡ resends (past r)
  pub allowed : (r : Run) → unfinished (now r).phase ≡ true → resends (past r) ≤ (request r).resends
  -- 01 READ.6 01 READ.14
  -- while unfinished the read offset is the end of the attempt's last frame, or the balance point where none was sent
  pub reads : (r : Run) → unfinished (now r).phase ≡ true → (now r).read ≡ last_end (now r).balance (seen r).attempt
  -- 01 READ.9
  -- the balance point is B, or the end of the attempt's last frame at the last ACK that left none unanswered with no NAK reported
  pub balances : (r : Run) → (now r).balance ≡ balance_by (request r).offset (past r)
  -- 01 READ.8 01 READ.15
  -- finishing moves neither the read offset nor the resends used
  pub stays : (r : Run) → unfinished (next r).state.phase ≡ false → ((next r).state.read ≡ (now r).read) × ((next r).state.used ≡ (now r).used)
  -- 01 READ.2 01 READ.6
  -- a frame goes at the read offset, and is min(M, B+N - read offset) long
  pub goes : (r : Run) (f : Frame) → added r ≡ went f ∷ [] → (f.at ≡ (now r).read) × (f.len ≡ min (request r).size ((request r).offset + (request r).count - f.at))
  -- 01 REFUSAL.13
  -- the transfer is unfinished exactly if the last call that was taken did not finish it
  pub underway : (r : Run) → unfinished (now r).phase ≡ history.underway (request r) (past r)
  -- 01 REFUSAL.3 01 REFUSAL.6 01 REFUSAL.7 01 REFUSAL.8 01 REFUSAL.10 01 REFUSAL.11 01 REFUSAL.13
  -- the number of a refusal, 0 where there is none, is what the numbers asked for, the frames and the answers say
  pub refuses : (r : Run) → refusal_of (next r).answer ≡ refusal_by limit (request r) (past r) r.last
  -- 01 REFUSAL.3
  -- no call answers refusal 3, but a START whose own numbers are out of range, and that one does
  pub never_three : (r : Run) → ((next r).answer ≡ Err Refusal.Rules) ↔ OutOfRange (plain_of r.last)

by_history : (r : Run) → Taken r → word r ≡ word_by (request r) (past r) (plain_of r.last)
by_history r = word_is limit r.calls r.typed r.last r.tagged

numbers : (r : Run) → asked_of (now r) ≡ request r
numbers r = asked_is limit r.calls r.typed

-- a frame that goes, with the numbers that were asked for
goes_run : (r : Run) (f : Frame) → added r ≡ went f ∷ [] → (f.at ≡ (now r).read) × (f.len ≡ min (request r).size ((request r).offset + (request r).count - f.at))
goes_run r f e =
    let same = frame_is limit (now r) r.last r.tagged f e in (
      ap (λ (g : Frame). g.at) same,
      ap (λ (g : Frame). g.len) same ∙ (λ i. min (numbers r i).size ((numbers r i).offset + (numbers r i).count - sym (ap (λ (g : Frame). g.at) same) i)),
    )

pub words : Words
words = record {
  asked = numbers;
  takes = takes;
  takes_no_more = takes_no_more;
  ok = λ r e. ap (λ (w : Word). w.ok) (by_history r e);
  sent = λ r e. ap (λ (w : Word). w.sent) (by_history r e);
  drain = λ r e. ap (λ (w : Word). w.drain) (by_history r e);
  retry = λ r e. ap (λ (w : Word). w.retry) (by_history r e);
  done = λ r e. ap (λ (w : Word). w.done) (by_history r e);
  fail = λ r e. ap (λ (w : Word). w.fail) (by_history r e);
  end = λ r e. ap (λ (w : Word). w.end) (by_history r e);
  used = λ r. (tally_is limit r.calls r.typed).used;
  allowed = λ r u. subst (λ (n : ℕ). n ≤ (request r).resends) ((tally_is limit r.calls r.typed).used u) (subst (λ (a : Asked). (now r).used ≤ a.resends) (numbers r) (allowed limit r.calls r.typed u));
  reads = λ r. reads limit r.calls r.typed;
  balances = λ r. (tally_is limit r.calls r.typed).point ∙ ap (λ (a : Asked). balance_by a.offset (past r)) (numbers r);
  stays = λ r. stays_either limit (now r) r.last r.tagged;
  goes = goes_run;
  underway = λ r. lives limit r.calls r.typed ∙ ap (λ (a : Asked). history.underway a (past r)) (numbers r);
  refuses = λ r. refusal_is limit r.calls r.typed r.last;
  never_three = λ r. never_three limit r.calls r.typed r.last r.tagged;
}
