-- Document 01, 'Read transfer': what each call answers and leaves, row by row, and when it is refused. Assumes nothing.
use Rattle.std.specs.Prelude.{ℕ, ◌+◌, ◌-◌, min, Bool, true, false, not, cond, ◌||◌, List, [], ◌∷◌, leb, eqb, Err, Ok, Result}
use Rattle.refusals.specs.Causes.{Cause, ◌when◌, refuse}
use Rattle.refusals.specs.declared.Refusal.{Refusal}
use Rattle.transfer.specs.Rules.{end_of, in_range, keeps_rules}
use Rattle.transfer.specs.declared.Transfer.{Transfer}
use Rattle.transfer.specs.declared.Stepped.{Stepped}
use Rattle.transfer.specs.declared.Answer.{Answer}
use Rattle.transfer.specs.declared.Phase.{Phase}

-- the bound that the code keeps to; every definition takes it as an argument
abbrev pub limit : ℕ
limit = 64

-- 01 READ.4: The transfer state goes in and comes back by value at each step.
abbrev pub say : Result Answer Refusal → Transfer → Stepped
say a s = record { answer = a; state = s }

-- a refusal leaves the state as it was
abbrev pub refused : Transfer → Refusal → Stepped
refused s k = say (Err k) s

-- s with these in place of its own
abbrev pub with : Transfer → ℕ → ℕ → ℕ → Bool → ℕ → Phase → Transfer
with s read balance unanswered sent used phase =
    record {
      offset = s.offset;
      count = s.count;
      size = s.size;
      resends = s.resends;
      read = read;
      balance = balance;
      unanswered = unanswered;
      sent = sent;
      used = used;
      phase = phase;
    }

abbrev pub in_phase : Phase → Transfer → Transfer
in_phase p s = with s s.read s.balance s.unanswered s.sent s.used p

abbrev pub unfinished : Phase → Bool
unfinished Phase.New = false
unfinished Phase.Run = true
unfinished Phase.Drain = true
unfinished Phase.Done = false
unfinished Phase.Fail = false
unfinished Phase.End = false

-- a NAK was seen in this attempt
abbrev pub draining : Phase → Bool
draining Phase.New = false
draining Phase.Run = false
draining Phase.Drain = true
draining Phase.Done = false
draining Phase.Fail = false
draining Phase.End = false

-- 01 READ.2: A frame is min(M, B+N - read offset) long.
abbrev pub frame_length : Transfer → ℕ
frame_length s = min s.size (end_of s - s.read)

-- 01 READ.5: START: read offset and balance are B, all counts 0, nothing sent.
abbrev pub started : ℕ → ℕ → ℕ → ℕ → Transfer
started b n m r =
    record { offset = b; count = n; size = m; resends = r; read = b; balance = b; unanswered = 0; sent = false; used = 0; phase = Phase.Run }

-- 01 READ.6: FRAME: written at the read offset, which moves past it; one more unanswered.
abbrev pub framed : ℕ → Transfer → Stepped
framed length s = say (Ok Answer.Sent) (with s (s.read + length) s.balance (s.unanswered + 1) true s.used s.phase)

-- 01 READ.14: Resend: read offset is the balance point, nothing is sent yet in the attempt, one resend more used.
abbrev pub resent : Transfer → Stepped
resent s = say (Ok Answer.Retry) (with s s.balance s.balance s.unanswered false (s.used + 1) Phase.Run)

abbrev pub none_left : Transfer → Transfer
none_left s = with s s.read s.balance 0 s.sent s.used s.phase

-- 01 READ.15: Finishing (done, failed, ended) sets unanswered to 0.
abbrev pub finished : Result Answer Refusal → Phase → Transfer → Stepped
finished a p s = say a (in_phase p (none_left s))

-- 01 READ.8: ACK and NAK each leave one fewer unanswered; what isn't named here stays.
abbrev pub answered : Transfer → Transfer
answered s = with s s.read s.balance (s.unanswered - 1) s.sent s.used s.phase

abbrev pub balanced : Transfer → Transfer
balanced s = with s s.read s.read s.unanswered s.sent s.used s.phase

-- every byte has been sent in this attempt
abbrev pub all_sent : Transfer → Bool
all_sent s = eqb s.read (end_of s)

-- 01 READ.9: ACK, none left unanswered: balance is the read offset; at B+N: delivered.
unfoldable pub settled : Transfer → Stepped
settled s = cond (all_sent s) (finished (Ok Answer.Done) Phase.Done (balanced s)) (say (Ok Answer.Ok) (balanced s))

-- after a NAK
unfoldable pub drained : Transfer → Stepped
drained s = cond (eqb s.unanswered 0) (resent s) (say (Ok Answer.Drain) (in_phase Phase.Drain s))

-- 01 READ.10: If a NAK was seen: resend instead.
unfoldable pub acked : Transfer → Stepped
acked s = cond (draining s.phase) (drained s) (cond (eqb s.unanswered 0) (settled s) (say (Ok Answer.Ok) s))

-- 01 READ.11: NAK: with R resends used, failed; else drain, and resend once none is unanswered.
unfoldable pub nacked : Transfer → Stepped
nacked s = cond (leb s.resends s.used) (finished (Ok Answer.Fail) Phase.Fail s) (drained s)

-- 01 READ.12: TIMEOUT, LOST: drop unanswered frames; resend, or failed if R are used.
unfoldable pub dropped : Transfer → Stepped
dropped s = cond (leb s.resends s.used) (finished (Ok Answer.Fail) Phase.Fail s) (resent (none_left s))

-- 01 READ.13: NEXUS, CANCEL: ended at once.
abbrev pub ended : Transfer → Stepped
ended s = finished (Ok Answer.End) Phase.End s

-- 01 REFUSAL.3: a setup number is out of range, or a lent state breaks its rules
-- 01 REFUSAL.13: 6, exactly: a frame, answer (ACK, NAK, TIMEOUT, LOST), NEXUS or CANCEL before START or once finished; an answer with none unanswered; START in an unfinished transfer
abbrev pub start_causes : ℕ → ℕ → ℕ → ℕ → ℕ → Transfer → List Cause
start_causes bound b n m r s = (Refusal.Rules when (not (in_range b n m r) || not (keeps_rules bound s))) ∷ (Refusal.Unfit when unfinished s.phase) ∷ []

-- 01 REFUSAL.7: a NAK was seen and answers are still due
-- 01 REFUSAL.8: every byte has been sent in this attempt
-- 01 REFUSAL.10: 32 requests are present, or 64 frames are unanswered
-- 01 REFUSAL.13
abbrev pub frame_causes : ℕ → Transfer → List Cause
frame_causes bound s =
    (Refusal.Rules when not (keeps_rules bound s))
    ∷ (Refusal.Unfit when not (unfinished s.phase))
    ∷ (Refusal.Due when draining s.phase)
    ∷ (Refusal.Sent when all_sent s)
    ∷ (Refusal.Full when leb bound s.unanswered)
    ∷ []

-- 01 REFUSAL.13
abbrev pub answer_causes : ℕ → Transfer → List Cause
answer_causes bound s = (Refusal.Rules when not (keeps_rules bound s)) ∷ (Refusal.Unfit when (not (unfinished s.phase) || eqb s.unanswered 0)) ∷ []

-- 01 REFUSAL.13
abbrev pub end_causes : ℕ → Transfer → List Cause
end_causes bound s = (Refusal.Rules when not (keeps_rules bound s)) ∷ (Refusal.Unfit when not (unfinished s.phase)) ∷ []

unfoldable pub start_step : ℕ → ℕ → ℕ → ℕ → ℕ → Transfer → Stepped
start_step bound b n m r s = refuse (refused s) (start_causes bound b n m r s) (say (Ok Answer.Ok) (started b n m r))

unfoldable pub frame_step : ℕ → Transfer → Stepped
frame_step bound s = refuse (refused s) (frame_causes bound s) (framed (frame_length s) s)

unfoldable pub ack_step : ℕ → Transfer → Stepped
ack_step bound s = refuse (refused s) (answer_causes bound s) (acked (answered s))

unfoldable pub nak_step : ℕ → Transfer → Stepped
nak_step bound s = refuse (refused s) (answer_causes bound s) (nacked (answered s))

unfoldable pub drop_step : ℕ → Transfer → Stepped
drop_step bound s = refuse (refused s) (answer_causes bound s) (dropped s)

unfoldable pub end_step : ℕ → Transfer → Stepped
end_step bound s = refuse (refused s) (end_causes bound s) (ended s)
