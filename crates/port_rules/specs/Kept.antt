-- Document 01, 'Port': the rules of a lent state, as facts. Assumes nothing.
use Rattle.std.specs.Prelude.{ℕ, ◌≤◌, ◌<◌, ◌≡◌, true, ◌⊎◌, ◌↔◌, List, get_or}
use Rattle.open_frame.specs.Open.{head_listed}
use Rattle.open_frame.specs.declared.Head.{Head}
use Rattle.port_parts.specs.Parts.{yes, ssp, protocols, no_slot, absent_phy, blank}
use Rattle.port_parts.specs.PhyStage as phy-stage
use Rattle.port_parts.specs.RequestStage as request-stage
use Rattle.port_parts.specs.declared.Phy.{Phy}
use Rattle.port_parts.specs.declared.Port.{Port}
use Rattle.port_parts.specs.declared.Request.{Request}
use Rattle.port_parts.specs.declared.Stamp.{Stamp}

-- 01 PORT.1
pub record InRange (count loss : ℕ) : Type 0 where
  pub least : 1 ≤ count
  pub most : count ≤ 8
  pub loss_least : 1 ≤ loss
  pub loss_most : loss ≤ 65535

abbrev pub FrameOut : Phy → Type 0
FrameOut p = (p.stage ≡ phy-stage.sending) ⊎ (p.stage ≡ phy-stage.closing_sending)

-- opening, or with a frame out
abbrev pub MustName : Phy → Type 0
MustName p = (p.stage ≡ phy-stage.opening) ⊎ FrameOut p

-- 01 PORT.7
pub record PhyKept (count : ℕ) (p : Phy) (k : ℕ) : Type 0 where
  pub stage : p.stage ≤ phy-stage.closing_sending
  pub protocol : p.protocol < protocols
  pub slot : p.slot ≤ no_slot
  pub must : MustName p → p.slot < no_slot
  pub may : p.slot < no_slot → MustName p ⊎ (p.stage ≡ phy-stage.closing)
  pub past : (k < count) ⊎ (p.stage ≡ phy-stage.disabled)

-- 01 PORT.6
pub record Paired (ps : List Phy) (r : Request) (i : ℕ) : Type 0 where
  pub phy : r.stage ≡ request-stage.in_progress → r.phy < 8
  pub each : (k : ℕ) → k < 8 → ((get_or ps k absent_phy).slot ≡ i) ↔ ((r.stage ≡ request-stage.in_progress) × (r.phy ≡ k))

-- 01 PORT.9
pub record Stamped (r : Request) (last : ℕ) : Type 0 where
  pub submitted : r.submitted ≤ last
  pub retry : r.retry.at ≤ last
  pub first : r.first.at ≤ last
  pub loss : r.loss.at ≤ last

pub record Flags (r : Request) : Type 0 where
  pub stage : r.stage ≤ request-stage.in_progress
  pub cancelled : r.cancelled ≤ yes
  pub closed : r.closed ≤ yes
  pub retry : r.retry.set ≤ yes
  pub first : r.first.set ≤ yes
  pub loss : r.loss.set ≤ yes

-- 01 PORT.4 01 PORT.8
pub record Present (r : Request) (last : ℕ) : Type 0 where
  pub flags : Flags r
  pub fields : head_listed r.head ≡ true
  pub cancelled : r.cancelled ≡ yes → r.stage ≡ request-stage.in_progress
  pub stamps : Stamped r last
  pub loss : (r.head.protocol ≡ ssp) ⊎ (r.loss.set ≡ yes → ⊥)

abbrev pub Free : Request → Type 0
Free r = r.stage ≡ request-stage.free

pub record RequestKept (p : Port) (r : Request) (i : ℕ) : Type 0 where
  pub paired : Paired p.phys r i
  pub present : Free r ⊎ Present r p.last

abbrev pub SameKey : Head → Head → Type 0
SameKey g h = (g.destination ≡ h.destination) × ((g.protocol ≡ h.protocol) × (g.tag ≡ h.tag))

-- two SSP requests to one destination
abbrev pub SameNexus : Head → Head → Type 0
SameNexus g h = (g.destination ≡ h.destination) × ((g.protocol ≡ h.protocol) × (h.protocol ≡ ssp))

-- both are off, or both run from one time
abbrev pub SameTimer : Stamp → Stamp → Type 0
SameTimer s t = ((s.set ≡ yes) ↔ (t.set ≡ yes)) × (s.set ≡ yes → s.at ≡ t.at)

-- 01 PORT.5 01 PORT.10
pub record Apart (a b : Request) : Type 0 where
  pub keys : SameKey a.head b.head → ⊥
  pub timers : SameNexus a.head b.head → SameTimer a.loss b.loss

pub record Kept (p : Port) (l : List Request) : Type 0 where
  pub setup : InRange p.count p.loss
  pub phys : (k : ℕ) → k < 8 → PhyKept p.count (get_or p.phys k absent_phy) k
  pub requests : (i : ℕ) → i < 32 → RequestKept p (get_or l i blank) i
  pub apart : (i j : ℕ) → i < j → j < 32 → (Free (get_or l i blank) → ⊥) → (Free (get_or l j blank) → ⊥) → Apart (get_or l i blank) (get_or l j blank)
