-- Document 01, 'Port': calls one after another, and the history of calls and answers that they leave. Assumes nothing.
use Rattle.refusals.specs.declared.Refusal.{Refusal}
use Rattle.std.specs.Prelude.{ℕ, Bool, true, false, cond, List, [], ◌∷◌, ◌++◌, Err, Ok, Result}
use Rattle.port_parts.specs.declared.Port.{Port}
use Rattle.port_parts.specs.declared.Request.{Request}
use Rattle.port_rows.specs.declared.Answer.{Answer}
use Rattle.port_rows.specs.declared.Done.{Done}
use Rattle.port_rows.specs.declared.Word.{Word}
use Rattle.port_rows.specs.declared.Word.TheVariants.{Taken, Submitted, Nothing, Send, Open, Close, StopArb, Retried, Waiting, CancelAcknowledged, Ended, NexusLoss, ConnectionLost, Status}
use Rattle.port_rows.specs.declared.Submission.{Submission}
use Rattle.port_rows.specs.declared.Withdrawn.{Withdrawn}
use Rattle.port_rows.specs.declared.Confirmed.{Confirmed}
use Rattle.port_rows.specs.declared.Failure.{Failure}
use Rattle.port_rows.specs.declared.Report.{Report}
use Rattle.port.specs.Calls.{left_of, answered, on32, short, short_setup, Called, setup_call, submit_call, cancel_call, choose_call, opened_call, open_failed_call, frame_status_call, closed_call, enable_call, disable_call}
use Rattle.port.specs.declared.Time.{Time}
use Rattle.port.specs.declared.Stepped.{Stepped}

-- the port and the list that its caller lends
pub record State : Type 0 where
  pub port : Port
  pub list : List Request

pub data Call : Type 0 where
  setup : ℕ → ℕ → Call
  submit : Submission → Call
  cancel : Withdrawn → Call
  choose : Time → Call
  opened : Confirmed → Call
  open_failed : Failure → Call
  frame_status : Report → Call
  closed : Confirmed → Call
  enable : Confirmed → Call
  disable : Confirmed → Call

unfoldable pub done_of : Call → State → Done
done_of (setup count loss) s = setup_call s.list count loss
done_of (submit x) s = submit_call s.list s.port x
done_of (cancel x) s = cancel_call s.list s.port x
done_of (choose x) s = choose_call s.list s.port x
done_of (opened x) s = opened_call s.list s.port x
done_of (open_failed x) s = open_failed_call s.list s.port x
done_of (frame_status x) s = frame_status_call s.list s.port x
done_of (closed x) s = closed_call s.list s.port x
done_of (enable x) s = enable_call s.list s.port x
done_of (disable x) s = disable_call s.list s.port x

-- with a list of another length
abbrev pub short_of : Call → State → Stepped
short_of (setup count loss) s = short_setup count
short_of (submit x) s = short s.port
short_of (cancel x) s = short s.port
short_of (choose x) s = short s.port
short_of (opened x) s = short s.port
short_of (open_failed x) s = short s.port
short_of (frame_status x) s = short s.port
short_of (closed x) s = short s.port
short_of (enable x) s = short s.port
short_of (disable x) s = short s.port

-- what the call promises of its answer r and of the list behind it
abbrev pub Does : Call → State → Stepped → List Request → Type 0
Does c s r after = Called s.list (done_of c s) (short_of c s) r after

-- what the call answers
abbrev pub stepped_by : Call → State → Stepped
stepped_by c s = on32 s.list (answered (done_of c s)) (short_of c s)

abbrev pub is_refused : Result Word Refusal → Bool
is_refused (Ok Taken) = false
is_refused (Ok Submitted) = false
is_refused (Ok Nothing) = false
is_refused (Ok Send) = false
is_refused (Ok Open) = false
is_refused (Ok Close) = false
is_refused (Ok StopArb) = false
is_refused (Ok Retried) = false
is_refused (Ok Waiting) = false
is_refused (Ok CancelAcknowledged) = false
is_refused (Ok (Ended why)) = false
is_refused (Ok NexusLoss) = false
is_refused (Ok ConnectionLost) = false
is_refused (Ok (Status byte)) = false
is_refused (Err k) = true

-- the last word on a request
abbrev pub is_last : Result Word Refusal → Bool
is_last (Ok Taken) = false
is_last (Ok Submitted) = false
is_last (Ok Nothing) = false
is_last (Ok Send) = false
is_last (Ok Open) = false
is_last (Ok Close) = false
is_last (Ok StopArb) = false
is_last (Ok Retried) = false
is_last (Ok Waiting) = false
is_last (Ok CancelAcknowledged) = true
is_last (Ok (Ended why)) = true
is_last (Ok NexusLoss) = true
is_last (Ok ConnectionLost) = true
is_last (Ok (Status byte)) = true
is_last (Err k) = false

-- what a call leaves; a refused setup gives no port, and its caller keeps the one that he has
abbrev pub leave : Call → State → State
leave c s =
    cond (is_refused (stepped_by c s).answer.word) s (record { port = (stepped_by c s).port; list = on32 s.list (left_of s.list (done_of c s)) s.list })

-- the state after some calls, the first first
abbrev pub run : List Call → State → State
run [] s = s
run (c ∷ cs) s = run cs (leave c s)

-- what the history holds of a call that was taken
pub record Entry : Type 0 where
  pub call : Call
  pub answer : Answer

abbrev pub entries_of : Call → State → List Entry
entries_of c s = cond (is_refused (stepped_by c s).answer.word) [] (record { call = c; answer = (stepped_by c s).answer } ∷ [])

-- the history that some calls of s add to h, its latest entry first
abbrev pub history : List Call → State → List Entry → List Entry
history [] s h = h
history (c ∷ cs) s h = history cs (leave c s) (entries_of c s ++ h)
