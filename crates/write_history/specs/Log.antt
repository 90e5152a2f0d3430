-- The history that calls of a write leave: each call that was taken, with the fields of the XFER_RDY that it sends or of the data that it was
-- given. Assumes nothing.
use Rattle.std.specs.Prelude.{ℕ, List, [], ◌∷◌, ◌++◌}
use Rattle.write.specs.Steps.{free, asked_length, retransmit_of}
use Rattle.write.specs.Calls.{Call, start, xfer, ack, nak, timeout, lost, got, nexus, cancel, step_of}
use Rattle.write.specs.declared.Write.{Write}
use Rattle.write_history.specs.History.{Request, Xfer, Data, Entry, started, asked, acked, nacked, timed_out, was_lost, came, ended, entries}

-- the XFER_RDY that goes in s where the others' tags are these; of its bytes nothing is known
abbrev pub xfer_of : ℕ → ℕ → Write → Xfer
xfer_of k others s =
    record {
      retransmit = retransmit_of s;
      retry = 0;
      transfer = free k others s;
      offset = s.next;
      length = asked_length s;
      others = others;
      bytes = [];
    }

abbrev pub data_of : ℕ → ℕ → ℕ → Data
data_of t o n = record { transfer = t; offset = o; length = n; bytes = [] }

-- what the history holds of a call that was taken
abbrev pub entry_of : ℕ → Call → Write → Entry
entry_of k (start b n x r) s = started (record { offset = b; count = n; burst = x; resends = r })
entry_of k (xfer others) s = asked (xfer_of k others s)
entry_of k ack s = acked
entry_of k nak s = nacked
entry_of k timeout s = timed_out
entry_of k lost s = was_lost
entry_of k (got t o n) s = came (data_of t o n)
entry_of k nexus s = ended
entry_of k cancel s = ended

abbrev pub entries_of : ℕ → Call → Write → List Entry
entries_of k c s = entries (entry_of k c s) (step_of k c s).answer

-- the history that some calls of s add to h, its latest entry first
abbrev pub history : ℕ → List Call → Write → List Entry → List Entry
history k [] s h = h
history k (c ∷ cs) s h = history k cs (step_of k c s).state (entries_of k c s ++ h)

-- B, N, X and R as s holds them
abbrev pub request_of : Write → Request
request_of s = record { offset = s.offset; count = s.count; burst = s.burst; resends = s.resends }
