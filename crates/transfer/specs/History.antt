-- Document 01, 'Read transfer': the history of a transfer, and what it says of the frames. It is read from the calls that were taken
-- and from the frames that went alone: no state is read here, and of an answer only whether it is a refusal. Assumes nothing.
use Rattle.refusals.specs.declared.Refusal.{Refusal}
use Rattle.std.specs.Prelude.{ℕ, suc, ◌+◌, ◌≤◌, ◌<◌, Bool, true, false, cond, ◌&&◌, List, [], ◌∷◌, ◌++◌, ◌⊎◌, Err, Ok, Result}
use Rattle.transfer.specs.Calls.{Call, start, frame, ack, nak, timeout, lost, nexus, cancel}
use Rattle.transfer.specs.declared.Answer.{Answer}

-- 01 READ.7: The history holds each frame with the offset in its header and its data length.
pub record Frame : Type 0 where
  pub at : ℕ
  pub len : ℕ

-- what the history holds of a call that was taken, where F is what it holds of a frame; `nacked` is a NAK, as `acked` is an ACK
pub data EntryOf (F : Type 0) : Type 0 where
  started : EntryOf F
  sent : F → EntryOf F
  acked nacked timed_out was_lost ended : EntryOf F

abbrev pub Entry : Type 0
Entry = EntryOf Frame

abbrev pub entry_of : {F : Type 0} → Call → F → EntryOf F
entry_of (start b n m r) f = started
entry_of frame f = sent f
entry_of ack f = acked
entry_of nak f = nacked
entry_of timeout f = timed_out
entry_of lost f = was_lost
entry_of nexus f = ended
entry_of cancel f = ended

abbrev pub is_refused : Result Answer Refusal → Bool
is_refused (Ok Answer.Ok) = false
is_refused (Ok Answer.Sent) = false
is_refused (Ok Answer.Drain) = false
is_refused (Ok Answer.Retry) = false
is_refused (Ok Answer.Done) = false
is_refused (Ok Answer.Fail) = false
is_refused (Ok Answer.End) = false
is_refused (Err k) = true

-- what a call adds to the history, where f is the frame that it sent if it is a frame call; a refused call adds nothing
abbrev pub entries : {F : Type 0} → Call → F → Result Answer Refusal → List (EntryOf F)
entries c f a = cond (is_refused a) [] (entry_of c f ∷ [])

-- what a history says of the frames of the transfer that its last START began
pub record ViewOf (F : Type 0) : Type 0 where
  -- the frames whose ACK was reported, the latest first
  pub acked : List F
  -- the frames with no answer, the oldest first
  pub waiting : List F
  -- the frames sent in the present attempt, the latest first
  pub attempt : List F
  -- those of them whose ACK was reported, the latest first
  pub good : List F
  -- whether a NAK was reported in the present attempt
  pub nak : Bool
  -- whether the present attempt is a resend
  pub resend : Bool

abbrev pub View : Type 0
View = ViewOf Frame

abbrev pub nothing : {F : Type 0} → ViewOf F
nothing = record { acked = []; waiting = []; attempt = []; good = []; nak = false; resend = false }

-- another attempt, a resend; no frame of the old one is waited for
abbrev pub anew : {F : Type 0} → ViewOf F → ViewOf F
anew v = record { acked = v.acked; waiting = []; attempt = []; good = []; nak = false; resend = true }

-- an attempt ends once a NAK was reported and none is unanswered
abbrev pub close_by : {F : Type 0} → List F → ViewOf F → ViewOf F
close_by [] v = cond v.nak (anew v) v
close_by (f ∷ fs) v = v

abbrev pub close : {F : Type 0} → ViewOf F → ViewOf F
close v = close_by v.waiting v

-- 01 READ.3: Answers belong to the oldest unanswered frame.
abbrev pub pop_ack : {F : Type 0} → List F → ViewOf F → ViewOf F
pop_ack [] v = v
pop_ack (f ∷ fs) v = close (record { acked = f ∷ v.acked; waiting = fs; attempt = v.attempt; good = f ∷ v.good; nak = v.nak; resend = v.resend })

abbrev pub pop_nak : {F : Type 0} → List F → ViewOf F → ViewOf F
pop_nak [] v = v
pop_nak (f ∷ fs) v = close (record { acked = v.acked; waiting = fs; attempt = v.attempt; good = v.good; nak = true; resend = v.resend })

abbrev pub note : {F : Type 0} → EntryOf F → ViewOf F → ViewOf F
note started v = nothing
note (sent f) v = record { acked = v.acked; waiting = v.waiting ++ (f ∷ []); attempt = f ∷ v.attempt; good = v.good; nak = v.nak; resend = v.resend }
note acked v = pop_ack v.waiting v
note nacked v = pop_nak v.waiting v
note timed_out v = anew v
note was_lost v = anew v
note ended v = v

-- a history has its latest entry first
abbrev pub view : {F : Type 0} → List (EntryOf F) → ViewOf F
view [] = nothing
view (e ∷ older) = note e (view older)

abbrev pub none : {F : Type 0} → List F → Bool
none [] = true
none (f ∷ fs) = false

-- whether a frame that goes now is the first of a resend
abbrev pub first_resent : {F : Type 0} → ViewOf F → Bool
first_resent v = v.resend && none v.attempt

-- how many frames went since the last START
abbrev pub frames_sent : {F : Type 0} → List (EntryOf F) → ℕ
frames_sent [] = 0
frames_sent (started ∷ older) = 0
frames_sent (sent f ∷ older) = suc (frames_sent older)
frames_sent (acked ∷ older) = frames_sent older
frames_sent (nacked ∷ older) = frames_sent older
frames_sent (timed_out ∷ older) = frames_sent older
frames_sent (was_lost ∷ older) = frames_sent older
frames_sent (ended ∷ older) = frames_sent older

-- byte x was in one of the frames
abbrev pub Covered : ℕ → List Frame → Type 0
Covered x [] = ⊥
Covered x (f ∷ fs) = ((f.at ≤ x) × (x < f.at + f.len)) ⊎ Covered x fs
