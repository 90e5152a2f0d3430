-- Document 01, 'Port': the numbers of its words and reasons, as C sees them. Assumes nothing.
use Rattle.refusals.specs.declared.Refusal.{Refusal}
use Rattle.std.specs.Prelude.{ℕ, Err, Ok, Result}
use Rattle.refusals.specs.Refusals.{number_of}
use Rattle.port_parts.specs.declared.Reason.{Reason}
use Rattle.port_parts.specs.declared.Reason.TheVariants.{NoDestination, BadDestination, WrongDestination, LinkRateNotSupported, ProtocolNotSupported, PathwayBlocked, StpResourcesBusy, Retry, OpenTimeOut, BreakReceived, Other}
use Rattle.port_rows.specs.declared.Word.{Word}
use Rattle.port_rows.specs.declared.Word.TheVariants.{Taken, Submitted, Nothing, Send, Open, Close, StopArb, Retried, Waiting, CancelAcknowledged, Ended, NexusLoss, ConnectionLost, Status}

-- a reason's number, as Open Failed takes it
abbrev pub reason_number : Reason → ℕ
reason_number NoDestination = 0
reason_number BadDestination = 1
reason_number WrongDestination = 2
reason_number LinkRateNotSupported = 3
reason_number ProtocolNotSupported = 4
reason_number PathwayBlocked = 5
reason_number StpResourcesBusy = 6
reason_number Retry = 7
reason_number OpenTimeOut = 8
reason_number BreakReceived = 9
reason_number Other = 10

-- 01 FORM.9
-- the answer: 0 taken, a refusal's own number, and from 32 on what happened
abbrev pub word_number : Result Word Refusal → ℕ
word_number (Ok Taken) = 0
word_number (Ok Submitted) = 32
word_number (Ok Nothing) = 33
word_number (Ok Send) = 34
word_number (Ok Open) = 35
word_number (Ok Close) = 36
word_number (Ok StopArb) = 37
word_number (Ok Retried) = 38
word_number (Ok Waiting) = 39
word_number (Ok CancelAcknowledged) = 40
word_number (Ok (Ended why)) = 41
word_number (Ok NexusLoss) = 42
word_number (Ok ConnectionLost) = 43
word_number (Ok (Status byte)) = 44
word_number (Err k) = number_of k

-- what goes with it: Ended's reason, Status's byte
abbrev pub detail_of : Result Word Refusal → ℕ
detail_of (Ok Taken) = 0
detail_of (Ok Submitted) = 0
detail_of (Ok Nothing) = 0
detail_of (Ok Send) = 0
detail_of (Ok Open) = 0
detail_of (Ok Close) = 0
detail_of (Ok StopArb) = 0
detail_of (Ok Retried) = 0
detail_of (Ok Waiting) = 0
detail_of (Ok CancelAcknowledged) = 0
detail_of (Ok (Ended why)) = reason_number why
detail_of (Ok NexusLoss) = 0
detail_of (Ok ConnectionLost) = 0
detail_of (Ok (Status byte)) = byte
detail_of (Err k) = 0
