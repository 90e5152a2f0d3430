-- The history that calls of a transfer leave: each call that was taken, a frame call with the frame that it wrote. Assumes nothing.
use Rattle.std.specs.Prelude.{ℕ, List, [], ◌∷◌, ◌++◌}
use Rattle.transfer.specs.Steps.{frame_length}
use Rattle.transfer.specs.Calls.{Call, step_of}
use Rattle.transfer.specs.History.{Frame, Entry, entries}
use Rattle.transfer.specs.Words.{Asked}
use Rattle.transfer.specs.declared.Transfer.{Transfer}

-- the frame that a frame call writes in s
abbrev pub next_frame : Transfer → Frame
next_frame s = record { at = s.read; len = frame_length s }

abbrev pub entries_of : ℕ → Call → Transfer → List Entry
entries_of bound c s = entries c (next_frame s) (step_of bound c s).answer

-- the history that some calls of s add to h, its latest entry first
abbrev pub history : ℕ → List Call → Transfer → List Entry → List Entry
history bound [] s h = h
history bound (c ∷ cs) s h = history bound cs (step_of bound c s).state (entries_of bound c s ++ h)

-- B, N, M and R as s holds them
abbrev pub asked_of : Transfer → Asked
asked_of s = record { offset = s.offset; count = s.count; size = s.size; resends = s.resends }
