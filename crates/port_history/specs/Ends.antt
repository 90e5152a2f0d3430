-- Document 01, 'Port': a request that is present can be ended. Assumes nothing.
use Rattle.std.specs.Prelude.{ℕ, ◌≡◌, true, false, get_or}
use Rattle.open_frame.specs.declared.Head.{Head}
use Rattle.port_parts.specs.Parts.{blank}
use Rattle.port.specs.History.{State, Call, stepped_by, leave, is_last}
use Rattle.port_history.specs.Standing.{is_setup}

-- in the state s the call c says the last word on the request at a slot
pub record LastOn (s : State) (c : Call) (slot : ℕ) (head : Head) : Type 0 where
  pub word : is_last (stepped_by c s).answer.word ≡ true
  pub slot_is : (stepped_by c s).answer.slot ≡ slot
  pub head_is : (stepped_by c s).answer.frame.head ≡ head

-- one call says it, or one behind another that is no setup
pub data Ends (s : State) (slot : ℕ) : Type 0 where
  at_once : (c : Call) → LastOn s c slot (get_or s.list slot blank).head → Ends s slot
  second : (b c : Call) → is_setup b ≡ false → LastOn (leave b s) c slot (get_or s.list slot blank).head → Ends s slot
