-- What it is for a lent link's numbers to say a state, in words. Assumes nothing.
use Rattle.std.specs.Prelude.{ℕ, ◌<◌, ◌≡◌}
use Rattle.open_lent.specs.Lent.{clear}
use Rattle.open_lent.specs.declared.Open.{Open}
use Rattle.xl_lent.specs.declared.Link.{Link}

-- a frame's zero members are 0, and one that is not there is all zeros
pub record WellHeld (there : ℕ) (o : Open) : Type 0 where
  pub zero4 : o.zero4 ≡ 0
  pub zero2 : o.zero2 ≡ 0
  pub zero1 : o.zero1 ≡ 0
  pub absent : (there ≡ 1 → ⊥) → o ≡ clear

pub record Formed (l : Link) : Type 0 where
  pub phase : l.phase < 11
  pub holds : l.holds < 2
  pub hears : l.hears < 2
  pub aip : l.aip < 5
  pub broke : l.broke < 2
  pub close : l.close < 2
  pub blocked : l.blocked < 2
  pub zero4 : l.zero4 ≡ 0
  pub zero1 : l.zero1 ≡ 0
  pub held : WellHeld l.holds l.held
  pub heard : WellHeld l.hears l.heard
