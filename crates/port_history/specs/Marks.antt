-- Document 01, 'Port': what happened to a request since its submit, read from calls and answers alone. Assumes nothing.
use Rattle.refusals.specs.declared.Refusal.{Refusal}
use Rattle.std.specs.Prelude.{Bool, true, false, cond, ◌&&◌, ◌||◌, List, [], ◌∷◌, Err, Ok, Result}
use Rattle.port_rows.specs.declared.Key.{Key}
use Rattle.port_rows.specs.declared.Word.{Word}
use Rattle.port_rows.specs.declared.Word.TheVariants.{Taken, Submitted, Nothing, Send, Open, Close, StopArb, Retried, Waiting, CancelAcknowledged, Ended, NexusLoss, ConnectionLost, Status}
use Rattle.port.specs.History.{Call, setup, submit, cancel, choose, opened, open_failed, frame_status, closed, enable, disable, Entry}
use Rattle.port_history.specs.Standing.{is_setup, accepts, speaks}

abbrev pub is_cancel : Call → Bool
is_cancel (setup count loss) = false
is_cancel (submit x) = false
is_cancel (cancel x) = true
is_cancel (choose x) = false
is_cancel (opened x) = false
is_cancel (open_failed x) = false
is_cancel (frame_status x) = false
is_cancel (closed x) = false
is_cancel (enable x) = false
is_cancel (disable x) = false

abbrev pub is_acknowledged : Result Word Refusal → Bool
is_acknowledged (Ok Taken) = false
is_acknowledged (Ok Submitted) = false
is_acknowledged (Ok Nothing) = false
is_acknowledged (Ok Send) = false
is_acknowledged (Ok Open) = false
is_acknowledged (Ok Close) = false
is_acknowledged (Ok StopArb) = false
is_acknowledged (Ok Retried) = false
is_acknowledged (Ok Waiting) = false
is_acknowledged (Ok CancelAcknowledged) = true
is_acknowledged (Ok (Ended why)) = false
is_acknowledged (Ok NexusLoss) = false
is_acknowledged (Ok ConnectionLost) = false
is_acknowledged (Ok (Status byte)) = false
is_acknowledged (Err k) = false

-- the request's frame goes, or an open for it
abbrev pub is_going : Result Word Refusal → Bool
is_going (Ok Taken) = false
is_going (Ok Submitted) = false
is_going (Ok Nothing) = false
is_going (Ok Send) = true
is_going (Ok Open) = true
is_going (Ok Close) = false
is_going (Ok StopArb) = false
is_going (Ok Retried) = false
is_going (Ok Waiting) = false
is_going (Ok CancelAcknowledged) = false
is_going (Ok (Ended why)) = false
is_going (Ok NexusLoss) = false
is_going (Ok ConnectionLost) = false
is_going (Ok (Status byte)) = false
is_going (Err k) = false

abbrev pub is_choose : Call → Bool
is_choose (setup count loss) = false
is_choose (submit x) = false
is_choose (cancel x) = false
is_choose (choose x) = true
is_choose (opened x) = false
is_choose (open_failed x) = false
is_choose (frame_status x) = false
is_choose (closed x) = false
is_choose (enable x) = false
is_choose (disable x) = false

abbrev pub is_close : Result Word Refusal → Bool
is_close (Ok Taken) = false
is_close (Ok Submitted) = false
is_close (Ok Nothing) = false
is_close (Ok Send) = false
is_close (Ok Open) = false
is_close (Ok Close) = true
is_close (Ok StopArb) = false
is_close (Ok Retried) = false
is_close (Ok Waiting) = false
is_close (Ok CancelAcknowledged) = false
is_close (Ok (Ended why)) = false
is_close (Ok NexusLoss) = false
is_close (Ok ConnectionLost) = false
is_close (Ok (Status byte)) = false
is_close (Err k) = false

-- since the last accepted submit of x there was an entry of some kind that names it
abbrev pub since : (Entry → Bool) → Key → List Entry → Bool
since kind x [] = false
since kind x (e ∷ older) = cond (is_setup e.call) false (cond (accepts x e) false ((kind e && speaks x e) || since kind x older))

-- 01 PORT.23
-- a Cancel of it was taken
abbrev pub cancels : Entry → Bool
cancels e = is_cancel e.call

-- 01 PORT.13
-- choose closed a phy for it; Cancel's Close is not counted
abbrev pub closes : Entry → Bool
closes e = is_choose e.call && is_close e.answer.word
