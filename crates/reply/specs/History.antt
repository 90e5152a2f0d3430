-- The history of a reply, and what it says of the RESPONSEs. It is read from the calls that were taken and from the RESPONSEs that went
-- alone: no state is read here, and of an answer only whether it is a refusal. Assumes nothing.
use Rattle.refusals.specs.declared.Refusal.{Refusal}
use Rattle.std.specs.Prelude.{ℕ, suc, Bool, true, false, cond, List, [], ◌∷◌, ◌≡◌, Result, is_err}
use Rattle.reply.specs.Calls.{Call, start, respond, ack, nak, timeout, lost, nexus, cancel}
use Rattle.reply.specs.declared.Answer.{Answer}

-- what the history holds of a call that was taken, where F is what it holds of a RESPONSE: a START with its R; `nacked` is a NAK, as
-- `acked` is an ACK
pub data EntryOf (F : Type 0) : Type 0 where
  started : ℕ → EntryOf F
  sent : F → EntryOf F
  acked nacked timed_out was_lost ended : EntryOf F

abbrev pub entry_of : {F : Type 0} → Call → F → EntryOf F
entry_of (start r) f = started r
entry_of respond f = sent f
entry_of ack f = acked
entry_of nak f = nacked
entry_of timeout f = timed_out
entry_of lost f = was_lost
entry_of nexus f = ended
entry_of cancel f = ended

abbrev pub is_refused : Result Answer Refusal → Bool
is_refused a = is_err a

-- what a call adds to the history, where f is the RESPONSE that it sent if it sends one; a refused call adds nothing
abbrev pub entries : {F : Type 0} → Call → F → Result Answer Refusal → List (EntryOf F)
entries c f a = cond (is_refused a) [] (entry_of c f ∷ [])

-- what became of a RESPONSE: its answer is due; its ACK was reported; its NAK, TIMEOUT or LOST was
pub data Fate : Type 0 where
  due good failed : Fate

pub record Went (F : Type 0) : Type 0 where
  pub response : F
  pub fate : Fate

-- an answer is that of the latest RESPONSE
abbrev pub settle : {F : Type 0} → Fate → List (Went F) → List (Went F)
settle k [] = []
settle k (w ∷ ws) = record { response = w.response; fate = k } ∷ ws

abbrev pub note : {F : Type 0} → EntryOf F → List (Went F) → List (Went F)
note (started r) v = []
note (sent f) v = record { response = f; fate = due } ∷ v
note acked v = settle good v
note nacked v = settle failed v
note timed_out v = settle failed v
note was_lost v = settle failed v
note ended v = v

-- the RESPONSEs that went since the last START, and what became of each, the latest first; a history has its latest entry first
abbrev pub view : {F : Type 0} → List (EntryOf F) → List (Went F)
view [] = []
view (e ∷ older) = note e (view older)

-- R, as the last START named it
abbrev pub allowed : {F : Type 0} → List (EntryOf F) → ℕ
allowed [] = 0
allowed (started r ∷ older) = r
allowed (sent f ∷ older) = allowed older
allowed (acked ∷ older) = allowed older
allowed (nacked ∷ older) = allowed older
allowed (timed_out ∷ older) = allowed older
allowed (was_lost ∷ older) = allowed older
allowed (ended ∷ older) = allowed older

abbrev pub has_failed : Fate → Bool
has_failed due = false
has_failed good = false
has_failed failed = true

abbrev pub is_due : Fate → Bool
is_due due = true
is_due good = false
is_due failed = false

-- a RESPONSE went, and the latest's answer is due
abbrev pub last_due : {F : Type 0} → List (Went F) → Bool
last_due [] = false
last_due (w ∷ ws) = is_due w.fate

-- a RESPONSE went, and the latest failed
abbrev pub last_failed : {F : Type 0} → List (Went F) → Bool
last_failed [] = false
last_failed (w ∷ ws) = has_failed w.fate

abbrev pub failures : {F : Type 0} → List (Went F) → ℕ
failures [] = 0
failures (w ∷ ws) = cond (has_failed w.fate) (suc (failures ws)) (failures ws)

-- a RESPONSE went, and this became of the latest
abbrev pub Latest : {F : Type 0} → Fate → List (Went F) → Type 0
Latest k [] = ⊥
Latest k (w ∷ ws) = w.fate ≡ k

-- an ACK, NAK, TIMEOUT or LOST
abbrev pub is_answer : {F : Type 0} → EntryOf F → Bool
is_answer (started r) = false
is_answer (sent f) = false
is_answer acked = true
is_answer nacked = true
is_answer timed_out = true
is_answer was_lost = true
is_answer ended = false
