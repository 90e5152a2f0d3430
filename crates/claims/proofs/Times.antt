-- What the port says of times is what document 01 says of the calls and answers before, over any calls from a setup on, refused calls and
-- later setups among them: no stamp and no timer is read, but by `lasts` and `timers`, which say what they are. Assumes nothing.
use Prim.Native.Nat.{ℕ, ◌+◌, ◌-◌, ◌≤◌, ◌<◌}
use mathlib.Core.Bool.{true, not, ◌&&◌}
use mathlib.Core.List.{List, ◌∷◌}
use mathlib.Core.Path.{◌≡◌}
use lib.ListN.{get_or}
use Rattle.open_frame.specs.Wait.{wait_of}
use Rattle.port_parts.specs.Parts.{blank, is_ssp}
use Rattle.port_parts.specs.Reasons.{is_retried, is_blocked, is_starting, is_stopping}
use Rattle.port_rows.specs.declared.Answer.{Answer}
use Rattle.port_rows.specs.declared.Key.{Key}
use Rattle.port.specs.History.{Call, stepped_by}
use Rattle.port_history.specs.Turns.{keyed, Ssp}
use Rattle.port_history.specs.Runs.{Run, now, past}
use Rattle.port_history.specs.Marks.{since, cancels}
use Rattle.port_history.specs.Times.{time_of, why_of, is_open, is_nexus_loss, picks, retries_of, opens_of, first_time, confirmed, timer_of, loss_time, last_time, is_due}
use Rattle.port_history.proofs.Times.{rests, waits}
use Rattle.port_history.proofs.Losses.{lasts, timers, losses}

-- what the call c answers behind some calls
abbrev said : Run → Call → Answer
said r c = (stepped_by c (now r)).answer

-- the key of the request that it names
abbrev known : Run → Call → Key
known r c = keyed (said r c).frame.head

pub record Times : Type 0 where
  -- 01 PORT.3 01 REFUSAL.5
  -- the port's last time is that of the last call that was taken
  pub lasts : (r : Run) → (now r).port.last ≡ last_time (past r)
  -- 01 PORT.12
  -- choose lets a request go, opens or closes a phy for it only 15 or more microseconds behind its last Retried since its submit
  pub rests : (r : Run) (c : Call) → picks (record { call = c; answer = said r c }) ≡ true → (t : ℕ) (older : List ℕ) → retries_of (known r c) (past r) ≡ t ∷ older → t + 15 ≤ time_of c
  -- 01 PORT.16
  -- an Open carries the wait since the request's first Open behind its submit and its last retry by another reason than Pathway Blocked, 0 where it is the first
  pub waits : (r : Run) (c : Call) → is_open (said r c).word ≡ true → (said r c).frame.awt.0 ≡ wait_of (time_of c - first_time (time_of c) (opens_of is_blocked (known r c) (past r)))
  -- 01 PORT.24 01 PORT.26
  -- every SSP request to a destination has the loss timer that the history says
  pub timers : (r : Run) (destination slot : ℕ) → slot < 32 → Ssp destination (get_or (now r).list slot blank) → (get_or (now r).list slot blank).loss ≡ timer_of is_stopping is_starting destination (past r)
  -- 01 PORT.25
  -- a call answers I_T Nexus Loss exactly if it is an Open Failed of a retried reason and of an SSP request of which no Cancel was taken, and the destination's timer
  -- behind this confirmation has run for the loss time of the last setup
  pub losses : (r : Run) (c : Call)
      → is_nexus_loss (said r c).word
      ≡ is_retried (why_of c) && (is_ssp (said r c).frame.head && (not (since cancels (known r c) (past r)) && is_due (loss_time (past r)) (time_of c) (confirmed is_stopping is_starting c (timer_of is_stopping is_starting (said r c).frame.head.destination (past r)))))

pub times : Times
times = record { lasts = lasts; rests = rests; waits = waits; timers = timers; losses = losses }
