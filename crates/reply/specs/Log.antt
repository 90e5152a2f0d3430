-- The history that calls of a reply leave: each call that was taken, a respond call with the RESPONSE that it sent. Assumes nothing.
use Rattle.std.specs.Prelude.{ℕ, List, [], ◌∷◌, ◌++◌}
use Rattle.reply.specs.Steps.{retransmit_of}
use Rattle.reply.specs.Calls.{Call, step_of}
use Rattle.reply.specs.History.{EntryOf, entries}
use Rattle.reply.specs.declared.Reply.{Reply}

-- what a plain call says of its RESPONSE: the retransmit bit
pub record Response : Type 0 where
  pub retransmit : ℕ

abbrev pub Entry : Type 0
Entry = EntryOf Response

-- the RESPONSE that a respond call sends in s
abbrev pub next_response : Reply → Response
next_response s = record { retransmit = retransmit_of s }

abbrev pub entries_of : Call → Reply → List Entry
entries_of c s = entries c (next_response s) (step_of c s).answer

-- the history that some calls of s add to h, its latest entry first
abbrev pub history : List Call → Reply → List Entry → List Entry
history [] s h = h
history (c ∷ cs) s h = history cs (step_of c s).state (entries_of c s ++ h)
