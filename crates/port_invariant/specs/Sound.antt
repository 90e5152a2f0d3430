-- Document 01, 'Port': a lent state that the next call does not refuse for its rules. Assumes nothing.
use Rattle.std.specs.Prelude.{◌≡◌, length}
use Rattle.port_rules.specs.Kept.{Kept}
use Rattle.port.specs.History.{State}

-- eight phys, which its type says, and the rules
pub record Sound (s : State) : Type 0 where
  pub eight : length s.port.phys ≡ 8
  pub kept : Kept s.port s.list
