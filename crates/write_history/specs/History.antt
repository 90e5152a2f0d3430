-- The history of a write, and what it says of XFER_RDYs and data. It is read from the calls that were taken and from the frames that
-- went and came alone: no state is read here, and of an answer only whether it is a refusal. Assumes nothing.
use Rattle.refusals.specs.declared.Refusal.{Refusal}
use Rattle.std.specs.Prelude.{ℕ, ◌+◌, suc, Bool, true, false, cond, ◌&&◌, List, [], ◌∷◌, ◌⊎◌, ◌≡◌, eqb, Result}
use Rattle.write.specs.Calls.{is_refused}
use Rattle.write.specs.declared.Answer.{Answer}

-- B, N, X and R, as START was given them
pub record Request : Type 0 where
  pub offset : ℕ
  pub count : ℕ
  pub burst : ℕ
  pub resends : ℕ

-- an XFER_RDY that went: its fields, the others' tags that its call was given, and its bytes where they were written
pub record Xfer : Type 0 where
  pub retransmit : ℕ
  pub retry : ℕ
  pub transfer : ℕ
  pub offset : ℕ
  pub length : ℕ
  pub others : ℕ
  pub bytes : List ℕ

-- a frame of write data that came: its fields, and its data where it was received as bytes
pub record Data : Type 0 where
  pub transfer : ℕ
  pub offset : ℕ
  pub length : ℕ
  pub bytes : List ℕ

-- of each call that was taken; `nacked` is a NAK, as `acked` is an ACK
pub data Entry : Type 0 where
  started : Request → Entry
  asked : Xfer → Entry
  acked nacked timed_out was_lost : Entry
  came : Data → Entry
  ended : Entry

-- what a call adds to the history, e if it is taken; a refused one adds nothing
abbrev pub entries : Entry → Result Answer Refusal → List Entry
entries e a = cond (is_refused a) [] (e ∷ [])

-- what became of the latest XFER_RDY: none went, its answer is due, it was ACKed, it failed, or its range is full
pub data Fate : Type 0 where
  none due good failed full : Fate

-- what a history says since its last START
pub record View : Type 0 where
  pub request : Request
  -- the XFER_RDYs, the latest first
  pub asks : List Xfer
  -- what became of the latest
  pub fate : Fate
  -- the data that was taken, the latest first
  pub taken : List Data
  -- the transfer tags in use
  pub busy : List ℕ
  -- how many XFER_RDYs failed
  pub failures : ℕ

abbrev pub nothing : Request → View
nothing q = record { request = q; asks = []; fate = none; taken = []; busy = []; failures = 0 }

abbrev pub unasked : Request
unasked = record { offset = 0; count = 0; burst = 0; resends = 0 }

-- an answer is for the XFER_RDY that is due
abbrev pub fated : Fate → Fate → Fate
fated new none = none
fated new due = new
fated new good = good
fated new failed = failed
fated new full = full

abbrev pub with_fate : Fate → ℕ → View → View
with_fate f n v = record { request = v.request; asks = v.asks; fate = f; taken = v.taken; busy = v.busy; failures = n }

-- data is awaited under the latest XFER_RDY's tag, unless that failed or its range is full
abbrev pub awaits : Fate → Bool
awaits none = false
awaits due = true
awaits good = true
awaits failed = false
awaits full = false

-- data counts as taken exactly if it carries that tag
abbrev pub taken_by : Fate → List Xfer → Data → Bool
taken_by f [] d = false
taken_by f (x ∷ xs) d = awaits f && eqb d.transfer x.transfer

abbrev pub takes : View → Data → Bool
takes v d = taken_by v.fate v.asks d

abbrev pub end_of_data : Data → ℕ
end_of_data d = d.offset + d.length

abbrev pub end_of_xfer : Xfer → ℕ
end_of_xfer x = x.offset + x.length

-- data that is taken leaves the tag of its XFER_RDY alone in use, or none if it ends the range
abbrev pub take_into : List Xfer → Data → View → View
take_into [] d v = v
take_into (x ∷ xs) d v =
    cond (eqb (end_of_data d) (end_of_xfer x))
    (record { request = v.request; asks = v.asks; fate = full; taken = d ∷ v.taken; busy = []; failures = v.failures })
    (record { request = v.request; asks = v.asks; fate = v.fate; taken = d ∷ v.taken; busy = x.transfer ∷ []; failures = v.failures })

abbrev pub note : Entry → View → View
note (started q) v = nothing q
note (asked x) v = record { request = v.request; asks = x ∷ v.asks; fate = due; taken = v.taken; busy = x.transfer ∷ v.busy; failures = v.failures }
note acked v = with_fate (fated good v.fate) v.failures v
note nacked v = with_fate (fated failed v.fate) (suc v.failures) v
note timed_out v = with_fate (fated failed v.fate) (suc v.failures) v
note was_lost v = with_fate (fated failed v.fate) (suc v.failures) v
note (came d) v = cond (takes v d) (take_into v.asks d v) v
note ended v = v

-- a history has its latest entry first
abbrev pub view : List Entry → View
view [] = nothing unasked
view (e ∷ older) = note e (view older)

-- t is one of these
abbrev pub Among : ℕ → List ℕ → Type 0
Among t [] = ⊥
Among t (x ∷ xs) = (t ≡ x) ⊎ Among t xs
