-- What has to hold of the numbers that C lends, and of START's R, for a call to be refused, in words; and what respond is given besides, which is
-- looked at before it. Assumes nothing.
use Rattle.std.specs.Prelude.{true, List, [], ◌∷◌, ◌≡◌, length}
use Rattle.refusals.specs.Causes.{Ground, ◌if◌}
use Rattle.refusals.specs.declared.Refusal.{Refusal}
use Rattle.ssp_frame.specs.Response.{response_sized, response_listed}
use Rattle.reply.specs.Grounds.{InRange}
use Rattle.take_history.specs.Replies.{given}
use Rattle.reply_lent.specs.Face.{Call, start, ack, nak, timeout, lost, nexus, cancel, respond}
use Rattle.reply_lent.specs.History.{Reached}
use Rattle.reply_lent.specs.Demand.{Unfinished}
use Rattle.reply_lent.specs.declared.State.{State}

-- a setup number is out of range: START's alone
abbrev pub OutOfRange : Call → Type 0
OutOfRange (start r) = InRange r → ⊥
OutOfRange ack = ⊥
OutOfRange nak = ⊥
OutOfRange timeout = ⊥
OutOfRange lost = ⊥
OutOfRange nexus = ⊥
OutOfRange cancel = ⊥
OutOfRange (respond destination source tag present status body out) = ⊥

-- what a call is given besides the state, and looks at before it, is in order: respond's data and output by their lengths, then its fields
abbrev pub InOrder : Call → Type 0
InOrder (start r) = Unit {0}
InOrder ack = Unit {0}
InOrder nak = Unit {0}
InOrder timeout = Unit {0}
InOrder lost = Unit {0}
InOrder nexus = Unit {0}
InOrder cancel = Unit {0}
InOrder (respond destination source tag present status body out) =
    (response_sized present (length body) (length out) ≡ true) × (response_listed (given destination source tag present status) ≡ true)

-- numbers that no calls gave back; the call doesn't fit the state
abbrev pub grounds : Type 0 → State → List Ground
grounds unfit s = (Refusal.Rules if (Reached s → ⊥)) ∷ (Refusal.Unfit if unfit) ∷ []

abbrev pub grounds_of : Call → State → List Ground
grounds_of (start r) s = (Refusal.Rules if (InRange r → ⊥)) ∷ grounds (Unfinished s) s
grounds_of ack s = grounds (s.phase ≡ 2 → ⊥) s
grounds_of nak s = grounds (s.phase ≡ 2 → ⊥) s
grounds_of timeout s = grounds (s.phase ≡ 2 → ⊥) s
grounds_of lost s = grounds (s.phase ≡ 2 → ⊥) s
grounds_of nexus s = grounds (Unfinished s → ⊥) s
grounds_of cancel s = grounds (Unfinished s → ⊥) s
grounds_of (respond destination source tag present status body out) s = grounds (s.phase ≡ 1 → ⊥) s
