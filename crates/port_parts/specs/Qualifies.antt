-- Document 01, 'Port': when a request and a phy qualify, and what the right choice is, said of requests and phys and not of the way
-- in which choose looks for them. Assumes nothing.
use Rattle.std.specs.Prelude.{ℕ, ◌+◌, ◌≤◌, ◌<◌, ◌≡◌, List, ◌⊎◌, get_or}
use Rattle.port_parts.specs.Parts.{absent_phy, blank, no, yes}
use Rattle.port_parts.specs.PhyStage as phy-stage
use Rattle.port_parts.specs.RequestStage as request-stage
use Rattle.port_parts.specs.Step as steps
use Rattle.port_parts.specs.Choice.{no_pick}
use Rattle.port_parts.specs.declared.Phy.{Phy}
use Rattle.port_parts.specs.declared.Request.{Request}
use Rattle.port_parts.specs.declared.Pick.{Pick}

-- waiting, and 15 or more microseconds after a retry
abbrev pub Ready : ℕ → Request → Type 0
Ready now r = (r.stage ≡ request-stage.waiting) × (r.retry.set ≡ yes → r.retry.at + 15 ≤ now)

abbrev pub Reaches : Phy → Request → Type 0
Reaches p r = (p.destination ≡ r.head.destination) × (p.protocol ≡ r.head.protocol)

-- by rule (1), (2) or (3)
pub data Qualifies (now : ℕ) (r : Request) (p : Phy) (step : ℕ) : Type 0 where
  sends : step ≡ steps.sends → Ready now r → p.stage ≡ phy-stage.idle → Reaches p r → Qualifies now r p step
  opens : step ≡ steps.opens → Ready now r → p.stage ≡ phy-stage.unconnected → Qualifies now r p step
  closes : step ≡ steps.closes → Ready now r → p.stage ≡ phy-stage.idle → (Reaches p r → ⊥) → r.closed ≡ no → Qualifies now r p step

-- of two submission times and slots the first pair comes first, or they are the same
abbrev pub Before : ℕ → ℕ → ℕ → ℕ → Type 0
Before t s u v = (t < u) ⊎ ((t ≡ u) × (s ≤ v))

module _ (ps : List Phy) (now : ℕ) (l : List Request) where
  -- request i and phy k by rule `step`
  abbrev pub Fits : ℕ → ℕ → ℕ → Type 0
  Fits i k step = Qualifies now (get_or l i blank) (get_or ps k absent_phy) step

  -- a pick that is some request's: it qualifies, by the first rule that has a phy, on that rule's lowest phy, and no request that
  -- qualifies comes before it
  pub record Wins (p : Pick) : Type 0 where
    pub slot : p.slot < 32
    pub phy : p.phy < 8
    pub at : p.at ≡ (get_or l p.slot blank).submitted
    pub fits : Fits p.slot p.phy p.step
    pub rule : (k step : ℕ) → k < 8 → step < p.step → Fits p.slot k step → ⊥
    pub lowest : (k : ℕ) → k < p.phy → Fits p.slot k p.step → ⊥
    pub first : (i k step : ℕ) → i < 32 → k < 8 → Fits i k step → Before p.at p.slot (get_or l i blank).submitted i

  -- 01 PORT.15: "Nothing" is answered exactly if no request and phy qualify.
  pub data Right : Pick → Type 0 where
    none : ((i k step : ℕ) → i < 32 → k < 8 → Fits i k step → ⊥) → Right no_pick
    one : {p : Pick} → Wins p → Right p
