-- Document 01, 'Port': its times a second time, read from the calls that were taken and from their answers alone: when a request was
-- retried, when it was opened since its last reset, from when a destination's loss timer runs. No state is read here. Assumes nothing.
use Rattle.refusals.specs.declared.Refusal.{Refusal}
use Rattle.std.specs.Prelude.{ℕ, ◌+◌, ◌*◌, Bool, true, false, not, cond, ◌&&◌, ◌||◌, List, [], ◌∷◌, eqb, leb, ltb, Err, Ok, Result}
use Rattle.port_parts.specs.Parts.{no_slot, no_stamp, stamped, is_set, is_ssp}
use Rattle.port_parts.specs.Reasons.{reason_of}
use Rattle.port_parts.specs.declared.Reason.{Reason}
use Rattle.port_parts.specs.declared.Reason.TheVariants.{Other}
use Rattle.port_parts.specs.declared.Stamp.{Stamp}
use Rattle.port_rows.specs.declared.Key.{Key}
use Rattle.port_rows.specs.declared.Word.{Word}
use Rattle.port_rows.specs.declared.Word.TheVariants.{Taken, Submitted, Nothing, Send, Open, Close, StopArb, Retried, Waiting, CancelAcknowledged, Ended, NexusLoss, ConnectionLost, Status}
use Rattle.port.specs.History.{Call, setup, submit, cancel, choose, opened, open_failed, frame_status, closed, enable, disable, Entry, is_last}
use Rattle.port_history.specs.Standing.{is_setup, is_submitted, accepts, speaks}
use Rattle.port_history.specs.Marks.{is_going, is_choose, is_close}

-- 01 PORT.3
-- the time that a call gives; a setup gives none, and the last time is 0 then
abbrev pub time_of : Call → ℕ
time_of (setup count loss) = 0
time_of (submit x) = x.now
time_of (cancel x) = x.now
time_of (choose x) = x.now
time_of (opened x) = x.now
time_of (open_failed x) = x.now
time_of (frame_status x) = x.now
time_of (closed x) = x.now
time_of (enable x) = x.now
time_of (disable x) = x.now

-- the reason of an Open Failed; any other call has none of document 01's
abbrev pub why_of : Call → Reason
why_of (setup count loss) = Other
why_of (submit x) = Other
why_of (cancel x) = Other
why_of (choose x) = Other
why_of (opened x) = Other
why_of (open_failed x) = reason_of x.why
why_of (frame_status x) = Other
why_of (closed x) = Other
why_of (enable x) = Other
why_of (disable x) = Other

abbrev pub is_opened : Call → Bool
is_opened (setup count loss) = false
is_opened (submit x) = false
is_opened (cancel x) = false
is_opened (choose x) = false
is_opened (opened x) = true
is_opened (open_failed x) = false
is_opened (frame_status x) = false
is_opened (closed x) = false
is_opened (enable x) = false
is_opened (disable x) = false

abbrev pub is_open : Result Word Refusal → Bool
is_open (Ok Taken) = false
is_open (Ok Submitted) = false
is_open (Ok Nothing) = false
is_open (Ok Send) = false
is_open (Ok Open) = true
is_open (Ok Close) = false
is_open (Ok StopArb) = false
is_open (Ok Retried) = false
is_open (Ok Waiting) = false
is_open (Ok CancelAcknowledged) = false
is_open (Ok (Ended why)) = false
is_open (Ok NexusLoss) = false
is_open (Ok ConnectionLost) = false
is_open (Ok (Status byte)) = false
is_open (Err k) = false

abbrev pub is_retry : Result Word Refusal → Bool
is_retry (Ok Taken) = false
is_retry (Ok Submitted) = false
is_retry (Ok Nothing) = false
is_retry (Ok Send) = false
is_retry (Ok Open) = false
is_retry (Ok Close) = false
is_retry (Ok StopArb) = false
is_retry (Ok Retried) = true
is_retry (Ok Waiting) = false
is_retry (Ok CancelAcknowledged) = false
is_retry (Ok (Ended why)) = false
is_retry (Ok NexusLoss) = false
is_retry (Ok ConnectionLost) = false
is_retry (Ok (Status byte)) = false
is_retry (Err k) = false

abbrev pub is_nexus_loss : Result Word Refusal → Bool
is_nexus_loss (Ok Taken) = false
is_nexus_loss (Ok Submitted) = false
is_nexus_loss (Ok Nothing) = false
is_nexus_loss (Ok Send) = false
is_nexus_loss (Ok Open) = false
is_nexus_loss (Ok Close) = false
is_nexus_loss (Ok StopArb) = false
is_nexus_loss (Ok Retried) = false
is_nexus_loss (Ok Waiting) = false
is_nexus_loss (Ok CancelAcknowledged) = false
is_nexus_loss (Ok (Ended why)) = false
is_nexus_loss (Ok NexusLoss) = true
is_nexus_loss (Ok ConnectionLost) = false
is_nexus_loss (Ok (Status byte)) = false
is_nexus_loss (Err k) = false

-- 01 REFUSAL.5
-- the time of the last call that was taken
abbrev pub last_time : List Entry → ℕ
last_time [] = 0
last_time (e ∷ older) = time_of e.call

-- ---- of one request

-- the times of the entries of a kind that name x, the latest first, since its submit and since the last entry that begins anew
abbrev pub times_of : (Entry → Bool) → (Entry → Bool) → Key → List Entry → List ℕ
times_of anew kind x [] = []
times_of anew kind x (e ∷ older) =
    cond (is_setup e.call) []
    (cond (accepts x e) []
    (cond (speaks x e) (cond (anew e) [] (cond (kind e) (time_of e.call ∷ times_of anew kind x older) (times_of anew kind x older)))
    (times_of anew kind x older)))

abbrev pub nothing_anew : Entry → Bool
nothing_anew e = false

-- 01 PORT.12
-- when x was retried since its submit
abbrev pub retries : Entry → Bool
retries e = is_retry e.answer.word

abbrev pub retries_of : Key → List Entry → List ℕ
retries_of = times_of nothing_anew retries

-- choose names x: its frame goes, an open for it, or a phy is closed for it
abbrev pub picks : Entry → Bool
picks e = is_choose e.call && (is_going e.answer.word || is_close e.answer.word)

-- 01 PORT.19
-- a retry by another reason than Pathway Blocked
abbrev pub resets : (Reason → Bool) → Entry → Bool
resets blocked e = is_retry e.answer.word && not (blocked (why_of e.call))

abbrev pub opens : Entry → Bool
opens e = is_open e.answer.word

-- 01 PORT.16
-- when x was opened since its submit and its last reset
abbrev pub opens_of : (Reason → Bool) → Key → List Entry → List ℕ
opens_of blocked = times_of (resets blocked) opens

-- the first of some times, the latest of which comes first; `now` where there are none
abbrev pub first_time : ℕ → List ℕ → ℕ
first_time now [] = now
first_time now (t ∷ older) = first_time t older

-- ---- of a destination

-- the head in the answer is that of an SSP request to the destination
abbrev pub is_for : ℕ → Entry → Bool
is_for destination e = eqb e.answer.frame.head.destination destination && is_ssp e.answer.frame.head

-- the answer names an SSP request to the destination
abbrev pub concerns : ℕ → Entry → Bool
concerns destination e = ltb e.answer.slot no_slot && is_for destination e

-- without a number
abbrev pub without : ℕ → List ℕ → List ℕ
without n [] = []
without n (m ∷ ms) = cond (eqb m n) (without n ms) (m ∷ without n ms)

-- the tags of its SSP requests that are there: Submitted brings one, a last word takes it away
abbrev pub tags_of : ℕ → List Entry → List ℕ
tags_of destination [] = []
tags_of destination (e ∷ older) =
    cond (is_setup e.call) []
    (cond (is_last e.answer.word && is_for destination e) (without e.answer.frame.head.tag (tags_of destination older))
    (cond (is_submitted e.answer.word && is_for destination e) (e.answer.frame.head.tag ∷ tags_of destination older) (tags_of destination older)))

abbrev pub is_none : List ℕ → Bool
is_none [] = true
is_none (n ∷ ns) = false

-- 01 PORT.24
-- what a confirmation of an SSP request makes of its destination's timer: Opened and a stopping reason stop it, a starting one starts it
-- if it isn't running
abbrev pub confirmed : (Reason → Bool) → (Reason → Bool) → Call → Stamp → Stamp
confirmed stops starts c t =
    cond (is_opened c || stops (why_of c)) no_stamp (cond (is_set t) t (cond (starts (why_of c)) (stamped (time_of c)) t))

-- 01 PORT.24 01 PORT.26
-- its loss timer, which no setup and no moment without an SSP request to it outlasts
abbrev pub timer_of : (Reason → Bool) → (Reason → Bool) → ℕ → List Entry → Stamp
timer_of stops starts destination [] = no_stamp
timer_of stops starts destination (e ∷ older) =
    cond (is_setup e.call) no_stamp
    (cond (is_none (tags_of destination (e ∷ older))) no_stamp
    (cond (concerns destination e) (confirmed stops starts e.call (timer_of stops starts destination older)) (timer_of stops starts destination older)))

-- 01 PORT.1
-- the loss time that the last setup gave
abbrev pub loss_or : ℕ → Call → ℕ
loss_or n (setup count loss) = loss
loss_or n (submit x) = n
loss_or n (cancel x) = n
loss_or n (choose x) = n
loss_or n (opened x) = n
loss_or n (open_failed x) = n
loss_or n (frame_status x) = n
loss_or n (closed x) = n
loss_or n (enable x) = n
loss_or n (disable x) = n

abbrev pub loss_time : List Entry → ℕ
loss_time [] = 0
loss_time (e ∷ older) = loss_or (loss_time older) e.call

-- 01 PORT.25
-- the timer runs, and has run for the loss time, in milliseconds, or longer; 65,535 is never
abbrev pub is_due : ℕ → ℕ → Stamp → Bool
is_due loss now t = is_set t && (not (eqb loss 65535) && leb (t.at + loss * 1000) now)
