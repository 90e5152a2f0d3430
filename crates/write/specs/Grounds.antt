-- What has to hold for a call on a write to be refused, in words. Assumes nothing.
use Rattle.std.specs.Prelude.{ℕ, ◌+◌, ◌%◌, ◌≤◌, ◌<◌, ◌≡◌, List, [], ◌∷◌, ◌⊎◌}
use Rattle.laws.specs.Tags.{digit}
use Rattle.refusals.specs.Causes.{Ground, ◌if◌}
use Rattle.refusals.specs.declared.Refusal.{Refusal}
use Rattle.write.specs.Rules.{until}
use Rattle.write.specs.Steps.{previous}
use Rattle.write.specs.Calls.{Call, start, xfer, ack, nak, timeout, lost, got, nexus, cancel, Reachable}
use Rattle.write.specs.declared.Write.{Write}
use Rattle.write.specs.declared.Phase.{Phase}

abbrev pub InRange : ℕ → ℕ → ℕ → ℕ → ℕ → Type 0
InRange k b n x r = (1 ≤ n) × ((b + n ≤ 4294967295) × ((x % 4 ≡ 0) × ((4 ≤ x) × (r < k))))

-- a lent state breaks its rules
abbrev pub Broken : ℕ → Write → Type 0
Broken k s = Reachable k s → ⊥

abbrev pub Unfinished : Phase → Type 0
Unfinished p = (p ≡ Phase.Ask) ⊎ ((p ≡ Phase.Wait) ⊎ (p ≡ Phase.Take))

-- every tag below k is another write's, the write's own, or the previous
abbrev pub NoneFree : ℕ → ℕ → Write → Type 0
NoneFree k others s = (t : ℕ) → t < k → (digit others t ≡ 1) ⊎ ((digit s.tags t ≡ 1) ⊎ (digit (previous s) t ≡ 1))

-- the frame begins at the next byte or behind it, ends within the range, and has a multiple of four bytes unless it ends there
pub record Within (o n : ℕ) (s : Write) : Type 0 where
  pub from : s.next ≤ o
  pub to : o + n ≤ until s
  pub words : (n % 4 ≡ 0) ⊎ (o + n ≡ until s)

-- a frame that fits: under a tag of the write's own, within the range, and under the tag of the XFER_RDY that was ACKed from just the next byte on
pub record Fits (t o n : ℕ) (s : Write) : Type 0 where
  pub own : digit s.tags t ≡ 1
  pub lies : Within o n s
  pub order : s.phase ≡ Phase.Take → t ≡ s.tag → o ≡ s.next

abbrev pub start_grounds : ℕ → ℕ → ℕ → ℕ → ℕ → Write → List Ground
start_grounds k b n x r s = (Refusal.Rules if ((InRange k b n x r → ⊥) ⊎ Broken k s)) ∷ (Refusal.Unfit if Unfinished s.phase) ∷ []

abbrev pub xfer_grounds : ℕ → ℕ → Write → List Ground
xfer_grounds k others s =
    (Refusal.Rules if Broken k s) ∷ (Refusal.Unfit if (s.phase ≡ Phase.Ask → ⊥)) ∷ (Refusal.Full if NoneFree k others s) ∷ []

abbrev pub answer_grounds : ℕ → Write → List Ground
answer_grounds k s = (Refusal.Rules if Broken k s) ∷ (Refusal.Unfit if (s.phase ≡ Phase.Wait → ⊥)) ∷ []

abbrev pub got_grounds : ℕ → ℕ → ℕ → ℕ → Write → List Ground
got_grounds k t o n s =
    (Refusal.Unlisted if ((1 ≤ n) × (n ≤ 1024) → ⊥))
    ∷ (Refusal.Rules if Broken k s)
    ∷ (Refusal.Unfit if ((Unfinished s.phase → ⊥) ⊎ ((s.phase ≡ Phase.Wait) × (t ≡ s.tag))))
    ∷ (Refusal.Unlisted if (Fits t o n s → ⊥))
    ∷ []

abbrev pub end_grounds : ℕ → Write → List Ground
end_grounds k s = (Refusal.Rules if Broken k s) ∷ (Refusal.Unfit if (Unfinished s.phase → ⊥)) ∷ []

abbrev pub grounds_of : ℕ → Call → Write → List Ground
grounds_of k (start b n x r) s = start_grounds k b n x r s
grounds_of k (xfer others) s = xfer_grounds k others s
grounds_of k ack s = answer_grounds k s
grounds_of k nak s = answer_grounds k s
grounds_of k timeout s = answer_grounds k s
grounds_of k lost s = answer_grounds k s
grounds_of k (got t o n) s = got_grounds k t o n s
grounds_of k nexus s = end_grounds k s
grounds_of k cancel s = end_grounds k s
