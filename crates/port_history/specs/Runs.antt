-- Document 01, 'Port': any calls from a setup on, later setups and refused calls among them. Assumes nothing.
use Rattle.std.specs.Prelude.{ℕ, ◌≡◌, List, [], ◌∷◌, length}
use Rattle.port_rules.specs.Kept.{InRange}
use Rattle.port.specs.History.{State, Call, setup, run, Entry, history}

-- a list of 32 records, whatever they hold, a setup in range, and calls behind it
pub record Run : Type 0 where
  pub lent : State
  pub sized : length lent.list ≡ 32
  pub count : ℕ
  pub loss : ℕ
  pub range : InRange count loss
  pub calls : List Call

-- the state and the history that they leave
abbrev pub now : Run → State
now r = run (setup r.count r.loss ∷ r.calls) r.lent

abbrev pub past : Run → List Entry
past r = history (setup r.count r.loss ∷ r.calls) r.lent []
