-- Calls from C, each lent the state that the one before it gave back, and their history: it is read from the calls, from the numbers that C sees,
-- and from the bytes that were written and received. Assumes nothing.
use Rattle.std.specs.Prelude.{ℕ, cond, List, [], ◌∷◌, ◌++◌, map, ◌⊎◌, ◌≡◌, eqb}
use Rattle.std.proofs.Math.ListN as list
use Rattle.write.specs.Steps.{limit, asked_length}
use Rattle.write.specs.Calls as plainly
use Rattle.write.specs.Calls.{start, xfer, ack, nak, timeout, lost, got, nexus, cancel}
use Rattle.write_history.specs.History.{Xfer, Entry, started, asked, acked, nacked, timed_out, was_lost, came, ended}
use Rattle.write_history.specs.Log.{data_of}
use Rattle.take_history.specs.Calls.{Call, plain, ask, take, AllTyped}
use Rattle.take_history.specs.History.{xfer_in, data_in}
use Rattle.write_lent.specs.Lent.{state_of, is_refusal}
use Rattle.write_lent.specs.Face.{face_of, bytes_of}
use Rattle.write_lent.specs.declared.State.{State}

-- the state before START
abbrev pub zeros : State
zeros = record { tags = 0; offset = 0; count = 0; burst = 0; resends = 0; next = 0; used = 0; zero4 = 0; tag = 0; phase = 0; zero1 = 0 }

-- the state after some calls, the first first
abbrev pub run : List Call → State → State
run [] s = s
run (c ∷ cs) s = run cs (face_of c s).state

-- the XFER_RDY that the caller of XFER writes itself: from the next byte to its range's end, under the tag that comes back with the state
abbrev pub unwritten : ℕ → State → Xfer
unwritten others s =
    record {
      retransmit = cond (eqb s.tags 0) 0 1;
      retry = 0;
      transfer = (face_of (plain (xfer others)) s).state.tag;
      offset = s.next;
      length = asked_length (state_of s);
      others = others;
      bytes = [];
    }

-- what the history holds of a call that was taken
abbrev pub plain_entry : plainly.Call → State → Entry
plain_entry (start b n x r) s = started (record { offset = b; count = n; burst = x; resends = r })
plain_entry (xfer others) s = asked (unwritten others s)
plain_entry ack s = acked
plain_entry nak s = nacked
plain_entry timeout s = timed_out
plain_entry lost s = was_lost
plain_entry (got t o n) s = came (data_of t o n)
plain_entry nexus s = ended
plain_entry cancel s = ended

-- of an XFER_RDY that was written what its reader finds in the bytes, and of data that was read what its reader finds
abbrev pub entry_of : Call → State → Entry
entry_of (plain c) s = plain_entry c s
entry_of (ask others destination source tag out) s = asked (xfer_in others (list.take 36 (bytes_of others destination source tag out s)))
entry_of (take destination source tag frame store) s = came (data_in frame)

-- a refused call adds nothing
abbrev pub entries_of : Call → State → List Entry
entries_of c s = cond (is_refusal (face_of c s).answer) [] (entry_of c s ∷ [])

-- the history that some calls of s add to h, its latest entry first
abbrev pub history : List Call → State → List Entry → List Entry
history [] s h = h
history (c ∷ cs) s h = history cs (face_of c s).state (entries_of c s ++ h)

-- a START of all zeros is taken, and the calls after it leave s
pub record Left (s : State) : Type 0 where
  pub b : ℕ
  pub n : ℕ
  pub x : ℕ
  pub r : ℕ
  pub taken : (face_of (plain (start b n x r)) zeros).answer ≡ 0
  pub calls : List Call
  pub typed : AllTyped limit calls
  pub leave : run calls (face_of (plain (start b n x r)) zeros).state ≡ s

-- some calls gave s back
abbrev pub Reached : State → Type 0
Reached s = (s ≡ zeros) ⊎ Left s

-- some calls, none of which names another write's tag, take every byte
pub record Finishes (s : State) : Type 0 where
  pub calls : List plainly.Call
  pub alone : plainly.AllAlone calls
  pub done : (run (map plain calls) s).phase ≡ 4
