-- What a call that is taken answers, and whether the write goes on, a second time: by the history before it and the entry that it adds. No state is
-- read here. Assumes nothing.
use Rattle.refusals.specs.declared.Refusal.{Refusal}
use Rattle.std.specs.Prelude.{◌+◌, Bool, true, false, not, cond, List, [], ◌∷◌, leb, eqb, Err, Ok, Result}
use Rattle.write.specs.declared.Answer.{Answer}
use Rattle.write_history.specs.History.{Xfer, Data, Entry, started, asked, acked, nacked, timed_out, was_lost, came, ended, View, view, takes, end_of_data, end_of_xfer}

-- every retry was used
abbrev pub spent : View → Bool
spent v = leb v.request.resends v.failures

-- data that ends the request, and data that ends the latest XFER_RDY's range
abbrev pub ends_all : View → Data → Bool
ends_all v d = eqb (end_of_data d) (v.request.offset + v.request.count)

abbrev pub ends_range : List Xfer → Data → Bool
ends_range [] d = false
ends_range (x ∷ xs) d = eqb (end_of_data d) (end_of_xfer x)

abbrev pub missed_by : View → Result Answer Refusal
missed_by v = cond (spent v) (Ok Answer.Fail) (Ok Answer.Retry)

abbrev pub word_by : View → Entry → Result Answer Refusal
word_by v (started q) = Ok Answer.Ok
word_by v (asked x) = Ok Answer.Sent
word_by v acked = Ok Answer.Ok
word_by v nacked = missed_by v
word_by v timed_out = missed_by v
word_by v was_lost = missed_by v
word_by v (came d) = cond (takes v d) (cond (ends_all v d) (Ok Answer.Done) (cond (ends_range v.asks d) (Ok Answer.More) (Ok Answer.Ok))) (Ok Answer.Late)
word_by v ended = Ok Answer.End

-- complete, failed and ended finish a write
abbrev pub final : Result Answer Refusal → Bool
final (Ok Answer.Ok) = false
final (Ok Answer.Sent) = false
final (Ok Answer.Retry) = false
final (Ok Answer.Late) = false
final (Ok Answer.More) = false
final (Ok Answer.Done) = true
final (Ok Answer.Fail) = true
final (Ok Answer.End) = true
final (Err k) = false

-- the write is unfinished: the last call that was taken did not finish it
abbrev pub underway : List Entry → Bool
underway [] = false
underway (e ∷ older) = not (final (word_by (view older) e))
