-- What has to hold for a call on a reply to be refused, in the words of the refusals. Assumes nothing.
use Rattle.std.specs.Prelude.{ℕ, ◌≤◌, ◌≡◌, List, [], ◌∷◌, ◌⊎◌}
use Rattle.refusals.specs.Causes.{Ground, ◌if◌}
use Rattle.refusals.specs.declared.Refusal.{Refusal}
use Rattle.reply.specs.Calls.{Call, start, respond, ack, nak, timeout, lost, nexus, cancel, Reachable}
use Rattle.reply.specs.declared.Reply.{Reply}
use Rattle.reply.specs.declared.Phase.{Phase}

abbrev pub InRange : ℕ → Type 0
InRange r = r ≤ 255

-- a setup number is out of range: START's alone
abbrev pub OutOfRange : Call → Type 0
OutOfRange (start r) = InRange r → ⊥
OutOfRange respond = ⊥
OutOfRange ack = ⊥
OutOfRange nak = ⊥
OutOfRange timeout = ⊥
OutOfRange lost = ⊥
OutOfRange nexus = ⊥
OutOfRange cancel = ⊥

abbrev pub Unfinished : Phase → Type 0
Unfinished p = (p ≡ Phase.Ask) ⊎ (p ≡ Phase.Wait)

-- a lent state breaks its rules; the call doesn't fit the state
abbrev pub grounds : Type 0 → Reply → List Ground
grounds unfit s = (Refusal.Rules if (Reachable s → ⊥)) ∷ (Refusal.Unfit if unfit) ∷ []

abbrev pub grounds_of : Call → Reply → List Ground
grounds_of (start r) s = (Refusal.Rules if (InRange r → ⊥)) ∷ grounds (Unfinished s.phase) s
grounds_of respond s = grounds (s.phase ≡ Phase.Ask → ⊥) s
grounds_of ack s = grounds (s.phase ≡ Phase.Wait → ⊥) s
grounds_of nak s = grounds (s.phase ≡ Phase.Wait → ⊥) s
grounds_of timeout s = grounds (s.phase ≡ Phase.Wait → ⊥) s
grounds_of lost s = grounds (s.phase ≡ Phase.Wait → ⊥) s
grounds_of nexus s = grounds (Unfinished s.phase → ⊥) s
grounds_of cancel s = grounds (Unfinished s.phase → ⊥) s
