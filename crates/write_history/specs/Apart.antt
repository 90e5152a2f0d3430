-- Two writes of one port side by side, their calls in any order, each XFER given at least the other's tags. Assumes nothing.
use Rattle.std.specs.Prelude.{ℕ, ◌≤◌, List, [], ◌∷◌, ◌≡◌}
use Rattle.laws.specs.Tags.{digit}
use Rattle.write.specs.Rules.{unstarted}
use Rattle.write.specs.Calls.{Call, start, xfer, ack, nak, timeout, lost, got, nexus, cancel, step_of, Typed}
use Rattle.write.specs.declared.Write.{Write}

-- a call of the one or of the other
pub data Turn : Type 0 where
  one other : Call → Turn

pub record Two : Type 0 where
  pub one : Write
  pub other : Write

-- neither was started
abbrev pub idle : Two
idle = record { one = unstarted; other = unstarted }

abbrev pub turned : ℕ → Turn → Two → Two
turned k (one c) w = record { one = (step_of k c w.one).state; other = w.other }
turned k (other c) w = record { one = w.one; other = (step_of k c w.other).state }

-- XFER is given all tags of these
abbrev pub Given : Call → ℕ → Type 0
Given (start b n x r) tags = Unit {0}
Given (xfer others) tags = (t : ℕ) → digit tags t ≤ digit others t
Given ack tags = Unit {0}
Given nak tags = Unit {0}
Given timeout tags = Unit {0}
Given lost tags = Unit {0}
Given (got t o n) tags = Unit {0}
Given nexus tags = Unit {0}
Given cancel tags = Unit {0}

abbrev pub Fair : ℕ → Turn → Two → Type 0
Fair k (one c) w = Typed k c × Given c w.other.tags
Fair k (other c) w = Typed k c × Given c w.one.tags

abbrev pub AllFair : ℕ → List Turn → Two → Type 0
AllFair k [] w = Unit {0}
AllFair k (c ∷ cs) w = Fair k c w × AllFair k cs (turned k c w)

abbrev pub turns : ℕ → List Turn → Two → Two
turns k [] w = w
turns k (c ∷ cs) w = turns k cs (turned k c w)

-- no tag in common
abbrev pub Disjoint : ℕ → ℕ → Type 0
Disjoint a b = (t : ℕ) → digit a t ≡ 1 → digit b t ≡ 1 → ⊥
