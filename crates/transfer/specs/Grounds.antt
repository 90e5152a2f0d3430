-- Document 01, 'Refusal numbers': what has to hold for a call on a transfer to be refused, in its words. Assumes nothing.
use Rattle.std.specs.Prelude.{ℕ, ◌+◌, ◌%◌, ◌≤◌, ◌≡◌, List, [], ◌∷◌, ◌⊎◌}
use Rattle.refusals.specs.Causes.{Ground, ◌if◌}
use Rattle.refusals.specs.declared.Refusal.{Refusal}
use Rattle.transfer.specs.Rules.{end_of}
use Rattle.transfer.specs.Calls.{Call, start, frame, ack, nak, timeout, lost, nexus, cancel, Reachable}
use Rattle.transfer.specs.declared.Transfer.{Transfer}
use Rattle.transfer.specs.declared.Phase.{Phase}

abbrev pub InRange : ℕ → ℕ → ℕ → ℕ → Type 0
InRange b n m r = (1 ≤ n) × ((b + n ≤ 4294967295) × ((m % 4 ≡ 0) × ((4 ≤ m) × ((m ≤ 1024) × (r ≤ 255)))))

-- a setup number is out of range: START's alone
abbrev pub OutOfRange : Call → Type 0
OutOfRange (start b n m r) = InRange b n m r → ⊥
OutOfRange frame = ⊥
OutOfRange ack = ⊥
OutOfRange nak = ⊥
OutOfRange timeout = ⊥
OutOfRange lost = ⊥
OutOfRange nexus = ⊥
OutOfRange cancel = ⊥

-- a lent state breaks its rules
abbrev pub Broken : ℕ → Transfer → Type 0
Broken bound s = Reachable bound s → ⊥

-- before START or once finished
abbrev pub Idle : Phase → Type 0
Idle p = (p ≡ Phase.New) ⊎ ((p ≡ Phase.Done) ⊎ ((p ≡ Phase.Fail) ⊎ (p ≡ Phase.End)))

abbrev pub Unfinished : Phase → Type 0
Unfinished p = (p ≡ Phase.Run) ⊎ (p ≡ Phase.Drain)

abbrev pub start_grounds : ℕ → ℕ → ℕ → ℕ → ℕ → Transfer → List Ground
start_grounds bound b n m r s = (Refusal.Rules if ((InRange b n m r → ⊥) ⊎ Broken bound s)) ∷ (Refusal.Unfit if Unfinished s.phase) ∷ []

abbrev pub frame_grounds : ℕ → Transfer → List Ground
frame_grounds bound s =
    (Refusal.Rules if Broken bound s)
    ∷ (Refusal.Unfit if Idle s.phase)
    ∷ (Refusal.Due if (s.phase ≡ Phase.Drain))
    ∷ (Refusal.Sent if (s.read ≡ end_of s))
    ∷ (Refusal.Full if (bound ≤ s.unanswered))
    ∷ []

abbrev pub answer_grounds : ℕ → Transfer → List Ground
answer_grounds bound s = (Refusal.Rules if Broken bound s) ∷ (Refusal.Unfit if (Idle s.phase ⊎ (s.unanswered ≡ 0))) ∷ []

abbrev pub end_grounds : ℕ → Transfer → List Ground
end_grounds bound s = (Refusal.Rules if Broken bound s) ∷ (Refusal.Unfit if Idle s.phase) ∷ []

abbrev pub grounds_of : ℕ → Call → Transfer → List Ground
grounds_of bound (start b n m r) s = start_grounds bound b n m r s
grounds_of bound frame s = frame_grounds bound s
grounds_of bound ack s = answer_grounds bound s
grounds_of bound nak s = answer_grounds bound s
grounds_of bound timeout s = answer_grounds bound s
grounds_of bound lost s = answer_grounds bound s
grounds_of bound nexus s = end_grounds bound s
grounds_of bound cancel s = end_grounds bound s
