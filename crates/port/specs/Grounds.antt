-- Document 01, 'Refusal numbers': what has to hold for a call of the port to be refused, in its words. Assumes nothing.
use Rattle.std.specs.Prelude.{ℕ, ◌<◌, ◌≡◌, true, List, [], ◌∷◌, ◌⊎◌, length, get_or}
use Rattle.refusals.specs.Causes.{Ground, ◌if◌}
use Rattle.refusals.specs.declared.Refusal.{Refusal}
use Rattle.open_frame.specs.Open.{head_listed}
use Rattle.open_frame.specs.declared.Head.{Head}
use Rattle.port_parts.specs.Parts.{yes, protocols, blank}
use Rattle.port_parts.specs.PhyStage as phy-stage
use Rattle.port_parts.specs.Reasons.{reasons}
use Rattle.port_parts.specs.declared.Phy.{Phy}
use Rattle.port_parts.specs.declared.Request.{Request}
use Rattle.port_rules.specs.Kept.{InRange, FrameOut, Kept, Free, SameKey}
use Rattle.port_rows.specs.Calls.{phy_at}
use Rattle.port_rows.specs.declared.Key.{Key}
use Rattle.port_rows.specs.declared.Withdrawn.{Withdrawn}
use Rattle.port.specs.History.{State, Call, setup, submit, cancel, choose, opened, open_failed, frame_status, closed, enable, disable}

-- a lent state breaks its rules
abbrev pub Broken : State → Type 0
Broken s = Kept s.port s.list → ⊥

-- the list isn't 32 records long
abbrev pub Wrong : State → Type 0
Wrong s = length s.list ≡ 32 → ⊥

-- a request with the destination, protocol and tag of h is present
pub record Shares (l : List Request) (h : Head) : Type 0 where
  pub slot : ℕ
  pub below : slot < 32
  pub there : Free (get_or l slot blank) → ⊥
  pub same : SameKey (get_or l slot blank).head h

-- 32 requests are present
abbrev pub Full : List Request → Type 0
Full l = (i : ℕ) → i < 32 → Free (get_or l i blank) → ⊥

abbrev pub OfKey : Head → Key → Type 0
OfKey h x = (h.destination ≡ x.destination) × ((h.protocol ≡ x.protocol) × (h.tag ≡ x.tag))

abbrev pub HasKey : Request → Key → Type 0
HasKey r x = (Free r → ⊥) × OfKey r.head x

-- no request has the key
abbrev pub Absent : List Request → Key → Type 0
Absent l x = (i : ℕ) → i < 32 → HasKey (get_or l i blank) x → ⊥

-- a request that has the key is cancelled already
pub record Cancelled (l : List Request) (x : Key) : Type 0 where
  pub slot : ℕ
  pub below : slot < 32
  pub has : HasKey (get_or l slot blank) x
  pub already : (get_or l slot blank).cancelled ≡ yes

-- connected or closing
abbrev pub Joined : Phy → Type 0
Joined f =
    ((f.stage ≡ phy-stage.idle) ⊎ (f.stage ≡ phy-stage.sending)) ⊎ ((f.stage ≡ phy-stage.closing) ⊎ (f.stage ≡ phy-stage.closing_sending))

-- 01 REFUSAL.3 01 REFUSAL.4 01 REFUSAL.5 01 REFUSAL.6
-- of a call about phy k, which is refused as unfit if `unfit` holds
abbrev pub phy_grounds : State → ℕ → ℕ → Type 0 → List Ground
phy_grounds s k now unfit =
    (Refusal.Rules if Broken s) ∷ (Refusal.Phy if (k < s.port.count → ⊥)) ∷ (Refusal.Past if (now < s.port.last)) ∷ (Refusal.Unfit if unfit) ∷ []

abbrev pub cancel_grounds : State → Withdrawn → Type 0 → List Ground
cancel_grounds s x unfit =
    (Refusal.Length if Wrong s)
    ∷ (Refusal.Unlisted if (x.key.protocol < protocols → ⊥))
    ∷ (Refusal.Rules if Broken s)
    ∷ (Refusal.Past if (x.now < s.port.last))
    ∷ (Refusal.Unfit if unfit)
    ∷ []

abbrev pub grounds_of : Call → State → List Ground
grounds_of (setup count loss) s = (Refusal.Length if Wrong s) ∷ (Refusal.Rules if (InRange count loss → ⊥)) ∷ []
grounds_of (submit x) s =
    (Refusal.Length if Wrong s)
    ∷ (Refusal.Unlisted if (head_listed x.head ≡ true → ⊥))
    ∷ (Refusal.Rules if Broken s)
    ∷ (Refusal.Past if (x.now < s.port.last))
    ∷ (Refusal.Present if Shares s.list x.head)
    ∷ (Refusal.Full if Full s.list)
    ∷ []
grounds_of (cancel x) s = cancel_grounds s x (Absent s.list x.key ⊎ Cancelled s.list x.key)
grounds_of (choose x) s = (Refusal.Length if Wrong s) ∷ (Refusal.Rules if Broken s) ∷ (Refusal.Past if (x.now < s.port.last)) ∷ []
grounds_of (opened x) s = (Refusal.Length if Wrong s) ∷ phy_grounds s x.phy x.now ((phy_at s.port x.phy).stage ≡ phy-stage.opening → ⊥)
grounds_of (open_failed x) s =
    (Refusal.Length if Wrong s) ∷ (Refusal.Unlisted if (x.why < length reasons → ⊥)) ∷ phy_grounds s x.phy x.now ((phy_at s.port x.phy).stage ≡ phy-stage.opening → ⊥)
grounds_of (frame_status x) s = (Refusal.Length if Wrong s) ∷ phy_grounds s x.phy x.now (FrameOut (phy_at s.port x.phy) → ⊥)
grounds_of (closed x) s = (Refusal.Length if Wrong s) ∷ phy_grounds s x.phy x.now (Joined (phy_at s.port x.phy) → ⊥)
grounds_of (enable x) s = (Refusal.Length if Wrong s) ∷ phy_grounds s x.phy x.now ((phy_at s.port x.phy).stage ≡ phy-stage.disabled → ⊥)
grounds_of (disable x) s = (Refusal.Length if Wrong s) ∷ phy_grounds s x.phy x.now ((phy_at s.port x.phy).stage ≡ phy-stage.disabled)
