-- Document 01's words, columns and refusals a second time, by the history: from the numbers that the last START asked for, the frames and
-- answers before a call, and the call itself. No state is read here. Assumes nothing.
use Rattle.refusals.specs.declared.Refusal.{Refusal}
use Rattle.std.specs.Prelude.{ℕ, suc, ◌+◌, Bool, true, false, not, cond, ◌&&◌, ◌||◌, List, [], ◌∷◌, leb, eqb, length, Err, Ok, Result}
use Rattle.refusals.specs.Refusals.{number_of}
use Rattle.transfer.specs.Rules.{in_range}
use Rattle.transfer.specs.Calls.{Call, start, frame, ack, nak, timeout, lost, nexus, cancel}
use Rattle.transfer.specs.History.{Frame, EntryOf, started, sent, acked, nacked, timed_out, was_lost, ended, Entry, is_refused, ViewOf, view}
use Rattle.transfer.specs.declared.Answer.{Answer}

-- 01 READ.1: B, N, M and R
pub record Asked : Type 0 where
  pub offset : ℕ
  pub count : ℕ
  pub size : ℕ
  pub resends : ℕ

abbrev pub unasked : Asked
unasked = record { offset = 0; count = 0; size = 0; resends = 0 }

-- a START asks anew
abbrev pub asked_by : Call → Asked → Asked
asked_by (start b n m r) a = record { offset = b; count = n; size = m; resends = r }
asked_by frame a = a
asked_by ack a = a
asked_by nak a = a
asked_by timeout a = a
asked_by lost a = a
asked_by nexus a = a
asked_by cancel a = a

-- if it is taken
abbrev pub asked_after : Call → Result Answer Refusal → Asked → Asked
asked_after c x a = cond (is_refused x) a (asked_by c a)

-- one frame is unanswered, so that its answer leaves none
abbrev pub last_due : {F : Type 0} → ViewOf F → Bool
last_due v = eqb (length v.waiting) 1

-- 01 READ.14: how many resends were begun since the last START: each TIMEOUT and LOST begins one, and each answer that leaves none
-- unanswered in an attempt in which a NAK was reported
abbrev pub resends : {F : Type 0} → List (EntryOf F) → ℕ
resends [] = 0
resends (started ∷ older) = 0
resends (sent f ∷ older) = resends older
resends (acked ∷ older) = cond ((view older).nak && last_due (view older)) (suc (resends older)) (resends older)
resends (nacked ∷ older) = cond (last_due (view older)) (suc (resends older)) (resends older)
resends (timed_out ∷ older) = suc (resends older)
resends (was_lost ∷ older) = suc (resends older)
resends (ended ∷ older) = resends older

-- the end of the latest of the frames, b where there is none
abbrev pub last_end : ℕ → List Frame → ℕ
last_end b [] = b
last_end b (f ∷ fs) = f.at + f.len

-- 01 READ.9: the balance point of a transfer from b: an ACK that leaves none unanswered, with no NAK reported in the attempt, moves it to
-- the end of the attempt's last frame, and nothing else moves it
abbrev pub balance_by : ℕ → List Entry → ℕ
balance_by b [] = b
balance_by b (started ∷ older) = b
balance_by b (sent f ∷ older) = balance_by b older
balance_by b (acked ∷ older) = cond (not (view older).nak && last_due (view older)) (last_end b (view older).attempt) (balance_by b older)
balance_by b (nacked ∷ older) = balance_by b older
balance_by b (timed_out ∷ older) = balance_by b older
balance_by b (was_lost ∷ older) = balance_by b older
balance_by b (ended ∷ older) = balance_by b older

-- which call it is: TIMEOUT and LOST are drop, NEXUS and CANCEL are end
pub record Kind : Type 0 where
  pub start : Bool
  pub frame : Bool
  pub ack : Bool
  pub nak : Bool
  pub drop : Bool
  pub end : Bool

abbrev pub kind_of : Call → Kind
kind_of (start b n m r) = record { start = true; frame = false; ack = false; nak = false; drop = false; end = false }
kind_of frame = record { start = false; frame = true; ack = false; nak = false; drop = false; end = false }
kind_of ack = record { start = false; frame = false; ack = true; nak = false; drop = false; end = false }
kind_of nak = record { start = false; frame = false; ack = false; nak = true; drop = false; end = false }
kind_of timeout = record { start = false; frame = false; ack = false; nak = false; drop = true; end = false }
kind_of lost = record { start = false; frame = false; ack = false; nak = false; drop = true; end = false }
kind_of nexus = record { start = false; frame = false; ack = false; nak = false; drop = false; end = true }
kind_of cancel = record { start = false; frame = false; ack = false; nak = false; drop = false; end = true }

-- 01 TEXT.2: which of the seven words an answer is; a refusal is none of them
pub record Word : Type 0 where
  pub ok : Bool
  pub sent : Bool
  pub drain : Bool
  pub retry : Bool
  pub done : Bool
  pub fail : Bool
  pub end : Bool

abbrev pub word_of : Result Answer Refusal → Word
word_of (Ok Answer.Ok) = record { ok = true; sent = false; drain = false; retry = false; done = false; fail = false; end = false }
word_of (Ok Answer.Sent) = record { ok = false; sent = true; drain = false; retry = false; done = false; fail = false; end = false }
word_of (Ok Answer.Drain) = record { ok = false; sent = false; drain = true; retry = false; done = false; fail = false; end = false }
word_of (Ok Answer.Retry) = record { ok = false; sent = false; drain = false; retry = true; done = false; fail = false; end = false }
word_of (Ok Answer.Done) = record { ok = false; sent = false; drain = false; retry = false; done = true; fail = false; end = false }
word_of (Ok Answer.Fail) = record { ok = false; sent = false; drain = false; retry = false; done = false; fail = true; end = false }
word_of (Ok Answer.End) = record { ok = false; sent = false; drain = false; retry = false; done = false; fail = false; end = true }
word_of (Err k) = record { ok = false; sent = false; drain = false; retry = false; done = false; fail = false; end = false }

-- R resends are used
abbrev pub spent : Asked → List Entry → Bool
spent a h = leb a.resends (resends h)

-- the last frame of the attempt ends at B+N
abbrev pub whole : Asked → List Entry → Bool
whole a h = eqb (last_end a.offset (view h).attempt) (a.offset + a.count)

-- 01 READ.9: an ACK now delivers all
abbrev pub delivers : Asked → List Entry → Bool
delivers a h = not (view h).nak && (last_due (view h) && whole a h)

-- 01 READ.11 01 READ.12: NAK, TIMEOUT and LOST, with R resends used
abbrev pub failing : Asked → List Entry → Call → Bool
failing a h c = ((kind_of c).nak || (kind_of c).drop) && spent a h

-- an answer in an attempt in which a NAK was reported, its own among them
abbrev pub after_nak : List Entry → Call → Bool
after_nak h c = (kind_of c).nak || ((kind_of c).ack && (view h).nak)

-- the word of a call c that is taken, with the history h before it
abbrev pub word_by : Asked → List Entry → Call → Word
word_by a h c =
    record {
      -- 01 READ.5 01 READ.8 01 READ.9
      ok = (kind_of c).start || ((kind_of c).ack && (not (view h).nak && (not (last_due (view h)) || not (whole a h))));
      -- 01 READ.6
      sent = (kind_of c).frame;
      -- 01 READ.11
      drain = not (failing a h c) && (after_nak h c && not (last_due (view h)));
      -- 01 READ.10 01 READ.11 01 READ.12
      retry = not (failing a h c) && ((kind_of c).drop || (after_nak h c && last_due (view h)));
      -- 01 READ.9
      done = (kind_of c).ack && delivers a h;
      -- 01 READ.11 01 READ.12
      fail = failing a h c;
      -- 01 READ.13
      end = (kind_of c).end;
    }

-- the transfer is unfinished: the last call that was taken did not finish it
abbrev pub underway : Asked → List Entry → Bool
underway a [] = false
underway a (started ∷ older) = true
underway a (sent f ∷ older) = true
underway a (acked ∷ older) = not (delivers a older)
underway a (nacked ∷ older) = not (spent a older)
underway a (timed_out ∷ older) = not (spent a older)
underway a (was_lost ∷ older) = not (spent a older)
underway a (ended ∷ older) = false

-- the number of a refusal, 0 where there is none
abbrev pub refusal_of : Result Answer Refusal → ℕ
refusal_of (Ok Answer.Ok) = 0
refusal_of (Ok Answer.Sent) = 0
refusal_of (Ok Answer.Drain) = 0
refusal_of (Ok Answer.Retry) = 0
refusal_of (Ok Answer.Done) = 0
refusal_of (Ok Answer.Fail) = 0
refusal_of (Ok Answer.End) = 0
refusal_of (Err k) = number_of k

-- 01 REFUSAL.6 01 REFUSAL.7 01 REFUSAL.8 01 REFUSAL.10 01 REFUSAL.13
-- what a frame is refused for where at most `bound` frames may be unanswered, x where these causes do not hold
abbrev pub frame_refusal : ℕ → Asked → List Entry → ℕ → ℕ
frame_refusal bound a h x = cond (not (underway a h)) 6 (cond (view h).nak 7 (cond (whole a h) 8 (cond (leb bound (length (view h).waiting)) 10 x)))

-- 01 REFUSAL.6 01 REFUSAL.13: an answer is refused once finished, before START, and with none unanswered
abbrev pub answer_refusal : Asked → List Entry → ℕ
answer_refusal a h = cond (not (underway a h) || eqb (length (view h).waiting) 0) 6 0

-- 01 REFUSAL.13
abbrev pub end_refusal : Asked → List Entry → ℕ
end_refusal a h = cond (not (underway a h)) 6 0

-- 01 REFUSAL.3 01 REFUSAL.13
-- what a call is refused for, 0 if it is taken
abbrev pub refusal_by : ℕ → Asked → List Entry → Call → ℕ
refusal_by bound a h (start b n m r) = cond (not (in_range b n m r)) 3 (cond (underway a h) 6 0)
refusal_by bound a h frame = frame_refusal bound a h 0
refusal_by bound a h ack = answer_refusal a h
refusal_by bound a h nak = answer_refusal a h
refusal_by bound a h timeout = answer_refusal a h
refusal_by bound a h lost = answer_refusal a h
refusal_by bound a h nexus = end_refusal a h
refusal_by bound a h cancel = end_refusal a h
