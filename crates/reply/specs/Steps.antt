-- The reply: what each call answers and leaves, row by row, and when it is refused. Assumes nothing.
use Rattle.std.specs.Prelude.{ℕ, ◌+◌, Bool, true, false, not, cond, ◌||◌, List, [], ◌∷◌, ltb, Err, Ok, Result}
use Rattle.laws.specs.Names.{flag}
use Rattle.refusals.specs.Causes.{Cause, ◌when◌}
use Rattle.refusals.specs.declared.Refusal.{Refusal}
use Rattle.reply.specs.Rules.{keeps_rules}
use Rattle.reply.specs.declared.Reply.{Reply}
use Rattle.reply.specs.declared.Stepped.{Stepped}
use Rattle.reply.specs.declared.Answer.{Answer}
use Rattle.reply.specs.declared.Phase.{Phase}

abbrev pub say : Result Answer Refusal → Reply → Stepped
say a s = record { answer = a; state = s }

-- a refusal leaves the state as it was
abbrev pub refused : Reply → Refusal → Stepped
refused s k = say (Err k) s

abbrev pub in_phase : Phase → Reply → Reply
in_phase p s = record { resends = s.resends; used = s.used; phase = p }

-- a RESPONSE is due
abbrev pub asks : Phase → Bool
asks Phase.New = false
asks Phase.Ask = true
asks Phase.Wait = false
asks Phase.Done = false
asks Phase.Fail = false
asks Phase.End = false

-- its ACK, NAK or loss is due
abbrev pub waits : Phase → Bool
waits Phase.New = false
waits Phase.Ask = false
waits Phase.Wait = true
waits Phase.Done = false
waits Phase.Fail = false
waits Phase.End = false

abbrev pub unfinished : Phase → Bool
unfinished p = asks p || waits p

-- START R: Ask (ok)
abbrev pub started : ℕ → Stepped
started r = say (Ok Answer.Ok) (record { resends = r; used = 0; phase = Phase.Ask })

-- 02 c.3: Also RESPONSE frames with their retry.
-- RESPONSE in Ask: Wait (sent)
abbrev pub responded : Reply → Stepped
responded s = say (Ok Answer.Sent) (in_phase Phase.Wait s)

-- retransmit 1 exactly if used > 0
abbrev pub retransmit_of : Reply → ℕ
retransmit_of s = flag (ltb 0 s.used)

-- in Wait, ACK: Done (done)
abbrev pub acked : Reply → Stepped
acked s = say (Ok Answer.Done) (in_phase Phase.Done s)

-- in Wait, NAK, TIMEOUT and LOST: used+1, Ask (retry), or with used = R Fail (fail)
unfoldable pub failed : Reply → Stepped
failed s =
    cond (ltb s.used s.resends)
    (say (Ok Answer.Retry) (record { resends = s.resends; used = s.used + 1; phase = Phase.Ask }))
    (say (Ok Answer.Fail) (in_phase Phase.Fail s))

-- NEXUS, CANCEL in Ask or Wait: End (end)
abbrev pub ended : Reply → Stepped
ended s = say (Ok Answer.End) (in_phase Phase.End s)

-- 3, a lent state breaks its rules; 6, the call doesn't fit the state
abbrev pub causes : Bool → Reply → List Cause
causes unfit s = (Refusal.Rules when not (keeps_rules s)) ∷ (Refusal.Unfit when unfit) ∷ []
