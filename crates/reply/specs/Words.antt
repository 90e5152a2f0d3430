-- The words and refusals of a reply a second time, by the history: from the RESPONSEs and answers before a call, and the call itself. No state
-- is read here. Assumes nothing.
use Rattle.refusals.specs.declared.Refusal.{Refusal}
use Rattle.std.specs.Prelude.{ℕ, Bool, true, false, not, cond, ◌&&◌, List, [], ◌∷◌, ltb, Err, Ok, Result}
use Rattle.refusals.specs.Refusals.{number_of}
use Rattle.reply.specs.Rules.{in_range}
use Rattle.reply.specs.Calls.{Call, start, respond, ack, nak, timeout, lost, nexus, cancel}
use Rattle.reply.specs.History.{EntryOf, started, sent, acked, nacked, timed_out, was_lost, ended, view, allowed, last_due, failures}
use Rattle.reply.specs.declared.Answer.{Answer}

-- fewer than R RESPONSEs failed
abbrev pub left : {F : Type 0} → List (EntryOf F) → Bool
left h = ltb (failures (view h)) (allowed h)

-- the reply is unfinished: the last call that was taken did not finish it
abbrev pub underway : {F : Type 0} → List (EntryOf F) → Bool
underway [] = false
underway (started r ∷ older) = true
underway (sent f ∷ older) = true
underway (acked ∷ older) = false
underway (nacked ∷ older) = left older
underway (timed_out ∷ older) = left older
underway (was_lost ∷ older) = left older
underway (ended ∷ older) = false

-- the word of a call that is taken and adds an entry, with the history before it
abbrev pub word_by : {F : Type 0} → List (EntryOf F) → EntryOf F → Result Answer Refusal
word_by h (started r) = Ok Answer.Ok
word_by h (sent f) = Ok Answer.Sent
word_by h acked = Ok Answer.Done
word_by h nacked = cond (left h) (Ok Answer.Retry) (Ok Answer.Fail)
word_by h timed_out = cond (left h) (Ok Answer.Retry) (Ok Answer.Fail)
word_by h was_lost = cond (left h) (Ok Answer.Retry) (Ok Answer.Fail)
word_by h ended = Ok Answer.End

-- the number of a refusal, 0 where there is none
abbrev pub refusal_of : Result Answer Refusal → ℕ
refusal_of (Ok a) = 0
refusal_of (Err k) = number_of k

-- what a call is refused for, 0 if it is taken: a START with R out of range, or of an unfinished reply; a RESPONSE but where one is due, an
-- answer but where its RESPONSE is out, NEXUS and CANCEL but while unfinished
abbrev pub refusal_by : {F : Type 0} → List (EntryOf F) → Call → ℕ
refusal_by h (start r) = cond (not (in_range r)) 3 (cond (underway h) 6 0)
refusal_by h respond = cond (not (underway h && not (last_due (view h)))) 6 0
refusal_by h ack = cond (not (underway h && last_due (view h))) 6 0
refusal_by h nak = cond (not (underway h && last_due (view h))) 6 0
refusal_by h timeout = cond (not (underway h && last_due (view h))) 6 0
refusal_by h lost = cond (not (underway h && last_due (view h))) 6 0
refusal_by h nexus = cond (not (underway h)) 6 0
refusal_by h cancel = cond (not (underway h)) 6 0
