-- The store over calls, each lent the store that the last one left, and what it has to hold. Assumes nothing.
use Rattle.refusals.specs.declared.Refusal.{Refusal}
use Rattle.std.specs.Prelude.{ℕ, cond, List, [], ◌∷◌, ◌++◌, ◌≡◌, take, drop, Result}
use Rattle.write.specs.Calls as plainly
use Rattle.write.specs.declared.Write.{Write}
use Rattle.write.specs.declared.Answer.{Answer}
use Rattle.write.specs.Calls.{is_refused}
use Rattle.write_history.specs.History.{Data}
use Rattle.take.specs.Take.{take_store}
use Rattle.take_history.specs.Calls as calls
use Rattle.take_history.specs.Calls.{Call, plain, step_of}

-- the store as a call leaves it
abbrev pub store_after : ℕ → Call → Write → List ℕ → List ℕ
store_after k (plain c) s store = store
store_after k (calls.Call.ask others destination source tag out) s store = store
store_after k (calls.Call.take destination source tag frame lent) s store = take_store k s destination source tag frame lent

abbrev pub store_of : ℕ → List Call → Write → List ℕ → List ℕ
store_of k [] s store = store
store_of k (c ∷ cs) s store = store_of k cs (step_of k c s).state (store_after k c s store)

-- data comes with its bytes
abbrev pub NoPlainData : plainly.Call → Type 0
NoPlainData (plainly.Call.start b n x r) = Unit {0}
NoPlainData (plainly.Call.xfer others) = Unit {0}
NoPlainData plainly.Call.ack = Unit {0}
NoPlainData plainly.Call.nak = Unit {0}
NoPlainData plainly.Call.timeout = Unit {0}
NoPlainData plainly.Call.lost = Unit {0}
NoPlainData (plainly.Call.got t o n) = ⊥
NoPlainData plainly.Call.nexus = Unit {0}
NoPlainData plainly.Call.cancel = Unit {0}

-- and is lent this store
abbrev pub Lent : Call → List ℕ → Type 0
Lent (plain c) store = NoPlainData c
Lent (calls.Call.ask others destination source tag out) store = Unit {0}
Lent (calls.Call.take destination source tag frame lent) store = lent ≡ store

-- each call the one that the last left
abbrev pub AllLent : ℕ → List Call → Write → List ℕ → Type 0
AllLent k [] s store = Unit {0}
AllLent k (c ∷ cs) s store = Lent c store × AllLent k cs (step_of k c s).state (store_after k c s store)

-- a START that is taken begins with the store as it is then
abbrev pub started_by : Call → List ℕ → List ℕ → List ℕ
started_by (plain (plainly.Call.start b n x r)) store first = store
started_by (plain (plainly.Call.xfer others)) store first = first
started_by (plain plainly.Call.ack) store first = first
started_by (plain plainly.Call.nak) store first = first
started_by (plain plainly.Call.timeout) store first = first
started_by (plain plainly.Call.lost) store first = first
started_by (plain (plainly.Call.got t o n)) store first = first
started_by (plain plainly.Call.nexus) store first = first
started_by (plain plainly.Call.cancel) store first = first
started_by (calls.Call.ask others destination source tag out) store first = first
started_by (calls.Call.take destination source tag frame lent) store first = first

abbrev pub first_after : Call → Result Answer Refusal → List ℕ → List ℕ → List ℕ
first_after c a store first = cond (is_refused a) first (started_by c store first)

-- the store as it was at the last START
abbrev pub first_of : ℕ → List Call → Write → List ℕ → List ℕ → List ℕ
first_of k [] s store first = first
first_of k (c ∷ cs) s store first = first_of k cs (step_of k c s).state (store_after k c s store) (first_after c (step_of k c s).answer store first)

-- the bytes of the frames, one behind the other; the latest is first in the list and last in the store
abbrev pub payloads : List Data → List ℕ
payloads [] = []
payloads (d ∷ ds) = payloads ds ++ d.bytes

-- each frame carries one image's bytes at its offset
abbrev pub FromImage : List ℕ → List Data → Type 0
FromImage image [] = Unit {0}
FromImage image (d ∷ ds) = (d.bytes ≡ take d.length (drop d.offset image)) × FromImage image ds
