-- A call on a transfer: a plain one, or a next-frame call with what it is given. Assumes nothing.
use Rattle.std.specs.Prelude.{ℕ, ◌<◌, List, [], ◌∷◌}
use Rattle.transfer.specs.Calls as plainly
use Rattle.transfer.specs.declared.Transfer.{Transfer}
use Rattle.transfer.specs.declared.Stepped.{Stepped}
use Rattle.send.specs.Send.{head_of, next_step}

pub data Call : Type 0 where
  plain : plainly.Call → Call
  -- hashed destination, hashed source and tag, the data, and the output as it was
  next : ℕ → ℕ → ℕ → List ℕ → List ℕ → Call

-- a next-frame call is a frame call that writes its frame
abbrev pub plain_of : Call → plainly.Call
plain_of (plain c) = c
plain_of (next destination source tag body out) = plainly.Call.frame

abbrev pub step_of : ℕ → Call → Transfer → Stepped
step_of bound (plain c) s = plainly.step_of bound c s
step_of bound (next destination source tag body out) s = next_step bound s (head_of s destination source tag) body out

-- the state after some calls, the first first
abbrev pub run : ℕ → List Call → Transfer → Transfer
run bound [] s = s
run bound (c ∷ cs) s = run bound cs (step_of bound c s).state

-- a tag is one of two bytes
abbrev pub Typed : Call → Type 0
Typed (plain c) = Unit {0}
Typed (next destination source tag body out) = tag < 65536

abbrev pub AllTyped : List Call → Type 0
AllTyped [] = Unit {0}
AllTyped (c ∷ cs) = Typed c × AllTyped cs
